-- The setup that the 171 numbers of a line give, fields and elements in the order of include/refmvs.h. Assumes nothing.
use Rattle.std.specs.Prelude.{List, [], ◌∷◌, ℕ, ◌+◌, ◌*◌, ◌<◌, ℤ, pos, nat_abs}
use Rattle.loops.specs.Seven.{seven}
use Rattle.entry.specs.declared.Source.{Source}
use Rattle.frame.specs.declared.Tip.{Tip}
use Rattle.frame.specs.declared.Sources.{Sources}
use Rattle.frame.specs.declared.Frame.{Frame}
use Rattle.cases.specs.Numbers.{at, AllInside, Bytes, SignedBytes, Signed32s, Sizes, is_on}
use Rattle.frame_cases.specs.FrameCase.{switches_at}

-- ---- the setup

-- seven bytes from the number k on
unfoldable pub bytes_at : List ℤ → ℕ → List ℕ
bytes_at n k = seven (λ i. nat_abs (at n (k + i)))

-- seven signed numbers from the number k on
unfoldable pub signed_at : List ℤ → ℕ → List ℤ
signed_at n k = seven (λ i. at n (k + i))

-- a source, from the number k on
unfoldable pub source_at : List ℤ → ℕ → Source
source_at n k =
    record {
      reference = record { 0 = nat_abs (at n k) };
      tgt = at n (k + 1);
      dir = nat_abs (at n (k + 2));
      ref2cur = at n (k + 3);
      ref2ref = signed_at n (k + 4);
      ref2idx = signed_at n (k + 11);
      ref2sf0 = signed_at n (k + 18);
      ref2sf1 = signed_at n (k + 25);
    }

-- the sources: their mask, their count, and four of them
unfoldable pub sources_at : List ℤ → Sources
sources_at n = record { mfmv = source_at n 43 ∷ source_at n 75 ∷ source_at n 107 ∷ source_at n 139 ∷ []; n_mfmvs = nat_abs (at n 42); mfmv_mask = nat_abs (at n 40) }

-- the frame's own pair: a distance and two factors
unfoldable pub tip_at : List ℤ → Tip
tip_at n = record { delta = at n 8; sf0 = at n 9; sf1 = at n 10 }

-- the setup, of all 171 numbers
unfoldable pub setup_at : List ℤ → Frame
setup_at n =
    record {
      width = nat_abs (at n 0);
      height = nat_abs (at n 1);
      sb128 = nat_abs (at n 3);
      tmvp_sample_step = nat_abs (at n 4);
      n_refs = nat_abs (at n 2);
      tip_frame_mode = nat_abs (at n 5);
      tip0 = at n 6;
      tip1 = at n 7;
      rp_ref = switches_at n 12;
      ref_sign = switches_at n 19;
      pocdiff = signed_at n 26;
      abspocdiff = bytes_at n 33;
      ref_flip = nat_abs (at n 11);
      tip = tip_at n;
      use_ref_frame_mvs = is_on (at n 41);
      sources = sources_at n;
    }

-- ---- numbers that lie in their fields, so that none is clipped

-- those of a source, from the number k on
pub record SourceNumbers (n : List ℤ) (k : ℕ) : Type 0 where
  pub reference : Bytes k (k + 1) n
  pub tgt : SignedBytes (k + 1) (k + 2) n
  pub dir : Bytes (k + 2) (k + 3) n
  pub distances : SignedBytes (k + 3) (k + 18) n
  pub factors : Signed32s (k + 18) (k + 32) n

-- those of the sources
pub record SourcesNumbers (n : List ℤ) : Type 0 where
  pub mask : Bytes 40 41 n
  pub count : Sizes 42 43 n
  pub each : (i : ℕ) → i < 4 → SourceNumbers n (43 + 32 * i)

-- those of the frame's own pair
pub record TipNumbers (n : List ℤ) : Type 0 where
  pub delta : SignedBytes 8 9 n
  pub factors : Signed32s 9 11 n

-- all 171; a switch fits as it is
pub record SetupNumbers (n : List ℤ) : Type 0 where
  pub size : AllInside (pos 0) (pos 4294967295) 0 2 n
  pub refs : Sizes 2 3 n
  pub codes : Bytes 3 6 n
  pub pair : SignedBytes 6 8 n
  pub tip : TipNumbers n
  pub flip : Sizes 11 12 n
  pub diffs : SignedBytes 26 33 n
  pub magnitudes : Bytes 33 40 n
  pub sources : SourcesNumbers n
