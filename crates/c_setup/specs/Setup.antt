-- The header as C hands it over, and the setup as C gets it. Assumes nothing.
use Rattle.std.specs.Prelude.{Bool, not, List, ℕ, eqb, get_or}
use Rattle.loops.specs.Seven.{seven}
use Rattle.frame.specs.declared.Header.{Header}
use Rattle.frame.specs.declared.Frame.{Frame}
use Rattle.frame.specs.Frame.{SaidSetup}
use Rattle.c_setup.specs.declared.CHeader.{CHeader}
use Rattle.c_setup.specs.declared.CFrame.{CFrame}
use Rattle.c_setup.specs.declared.CSetup.{CSetup}

-- a switch is on where its byte is not 0
abbrev pub on : ℕ → Bool
on b = not (eqb b 0)

abbrev pub switches_of : List ℕ → List Bool
switches_of bytes = seven (λ i. on (get_or bytes i 0))

-- the same header, its switches read
abbrev pub header_of : CHeader → Header
header_of c =
    record {
      width = c.width;
      height = c.height;
      sb128 = c.sb128;
      tmvp_sample_step = c.tmvp_sample_step;
      tip = on c.tip;
      use_ref_frame_mvs = on c.use_ref_frame_mvs;
      has_bothside_refs = on c.has_bothside_refs;
      tip_frame_mode = c.tip_frame_mode;
      tip0 = c.tip0;
      tip1 = c.tip1;
      rp_ref = switches_of c.rp_ref;
      pocs = record { nbits = c.order_hint_n_bits; poc = c.frame_offset; n_refs = c.n_ref_frames; ref_poc = c.ref_poc; saved = c.saved };
    }

-- what C gets, in 01's terms
abbrev pub given_by : CSetup → SaidSetup
given_by s = record { refusal = s.refusal; frame = s.frame }

-- the setup that C hands to a load, its switches read
abbrev pub frame_of : CFrame → Frame
frame_of c =
    record {
      width = c.width;
      height = c.height;
      sb128 = c.sb128;
      tmvp_sample_step = c.tmvp_sample_step;
      n_refs = c.n_refs;
      tip_frame_mode = c.tip_frame_mode;
      tip0 = c.tip0;
      tip1 = c.tip1;
      rp_ref = switches_of c.rp_ref;
      ref_sign = switches_of c.ref_sign;
      pocdiff = c.pocdiff;
      abspocdiff = c.abspocdiff;
      ref_flip = c.ref_flip;
      tip = c.tip;
      use_ref_frame_mvs = on c.use_ref_frame_mvs;
      sources = c.sources;
    }
