-- What a verdict that a case of the kind `frame` agrees says of its line: a header, a refusal's number and a record, fields and elements in
-- the order of include/refmvs.h. Assumes nothing.
use Rattle.std.specs.Prelude.{◌≡◌, Bool, false, List, [], ℕ, ◌+◌, ◌*◌, ◌<◌, min, ℤ, pos, nat_abs, get_or, set, replicate}
use mir.Val.{bool_byte}
use Rattle.loops.specs.Over.{span}
use Rattle.loops.specs.Seven.{seven}
use Rattle.levels.specs.declared.OrderHint.{OrderHint}
use Rattle.picks.specs.declared.Saved.{Saved}
use Rattle.picks.specs.declared.Pocs.{Pocs}
use Rattle.entry.specs.declared.Source.{Source}
use Rattle.frame.specs.declared.Header.{Header}
use Rattle.frame.specs.declared.Sources.{Sources}
use Rattle.frame.specs.declared.Frame.{Frame}
use Rattle.frame.specs.Frame.{setup_of}
use Rattle.cases.specs.Numbers.{at, hint_at, AllInside, Bytes, SignedBytes, is_on}

-- ---- the header

-- each number of the header fits its field; a switch fits as it is
pub record HeaderFits (n : List ℤ) : Type 0 where
  pub words : AllInside (pos 0) (pos 4294967295) 0 4 n
  pub codes : Bytes 5 7 n
  pub mode : Bytes 9 10 n
  pub pair : SignedBytes 10 12 n
  pub hints : Bytes 12 76 n

-- seven hints from the number k on
unfoldable pub hints_at : List ℤ → ℕ → List OrderHint
hints_at n k = seven (λ i. hint_at n (k + i))

-- a slot's saved hints, and then their count
unfoldable pub saved_at : List ℤ → ℕ → Saved
saved_at n k = record { ref_poc = hints_at n k; refcnt = nat_abs (at n (k + 7)) }

unfoldable pub all_saved : List ℤ → List Saved
all_saved n = seven (λ i. saved_at n (20 + 8 * i))

unfoldable pub switches_at : List ℤ → ℕ → List Bool
switches_at n k = seven (λ i. is_on (at n (k + i)))

unfoldable pub pocs_of : List ℤ → Pocs
pocs_of n =
    record {
      nbits = nat_abs (at n 0);
      poc = hint_at n 12;
      n_refs = nat_abs (at n 3);
      ref_poc = hints_at n 13;
      saved = all_saved n;
    }

unfoldable pub header_of : List ℤ → Header
header_of n =
    record {
      width = nat_abs (at n 1);
      height = nat_abs (at n 2);
      sb128 = nat_abs (at n 5);
      tmvp_sample_step = nat_abs (at n 6);
      tip = is_on (at n 4);
      use_ref_frame_mvs = is_on (at n 7);
      has_bothside_refs = is_on (at n 8);
      tip_frame_mode = nat_abs (at n 9);
      tip0 = at n 10;
      tip1 = at n 11;
      rp_ref = switches_at n 76;
      pocs = pocs_of n;
    }

-- ---- the record, as 171 numbers

abbrev pub bit : Bool → ℤ
bit b = pos (bool_byte b)

-- no number of a line is above the largest i64
unfoldable pub in_i64 : ℕ → ℤ
in_i64 v = pos (min v 9223372036854775807)

-- seven numbers, from k on
abbrev pub putting : (ℕ → ℤ) → ℕ → ℕ → List ℤ → List ℤ
putting f k i o = set o (k + i) (f i)

unfoldable pub put_seven : (ℕ → ℤ) → ℕ → List ℤ → List ℤ
put_seven f k o = span (putting f k) 0 7 o

-- the elements of an array, as numbers
abbrev pub bits : List Bool → ℕ → ℤ
bits a i = bit (get_or a i false)

abbrev pub bytes : List ℕ → ℕ → ℤ
bytes a i = pos (get_or a i 0)

-- a source, from k on
unfoldable pub put_source : Source → ℕ → List ℤ → List ℤ
put_source s k o0 =
    let o1 = set (set (set (set o0 k (pos s.reference.0)) (k + 1) s.tgt) (k + 2) (pos s.dir)) (k + 3) s.ref2cur in
    let o2 = put_seven (at s.ref2ref) (k + 4) o1 in
    let o3 = put_seven (at s.ref2idx) (k + 11) o2 in
    let o4 = put_seven (at s.ref2sf0) (k + 18) o3 in
    put_seven (at s.ref2sf1) (k + 25) o4

-- a source that is not there
abbrev pub blank : Source
blank =
    record {
      reference = record { 0 = 0 };
      tgt = pos 0;
      dir = 0;
      ref2cur = pos 0;
      ref2ref = [];
      ref2idx = [];
      ref2sf0 = [];
      ref2sf1 = [];
    }

unfoldable pub put_sources : Sources → List ℤ → List ℤ
put_sources s o = span (λ i. put_source (get_or s.mfmv i blank) (43 + 32 * i)) 0 4 o

-- the fields before the slots
unfoldable pub put_head : Frame → List ℤ → List ℤ
put_head f o0 =
    let o1 = set o0 0 (in_i64 f.width) in
    let o2 = set o1 1 (in_i64 f.height) in
    let o3 = set o2 2 (in_i64 f.n_refs) in
    let o4 = set o3 3 (pos f.sb128) in
    let o5 = set o4 4 (pos f.tmvp_sample_step) in
    let o6 = set o5 5 (pos f.tip_frame_mode) in
    let o7 = set o6 6 f.tip0 in
    let o8 = set o7 7 f.tip1 in
    let o9 = set o8 8 f.tip.delta in
    let o10 = set o9 9 f.tip.sf0 in
    let o11 = set o10 10 f.tip.sf1 in
    set o11 11 (in_i64 f.ref_flip)

-- the slots, the counts of the sources, and the sources
unfoldable pub put_frame : Frame → List ℤ → List ℤ
put_frame f o0 =
    let o1 = put_seven (bits f.rp_ref) 12 (put_head f o0) in
    let o2 = put_seven (bits f.ref_sign) 19 o1 in
    let o3 = put_seven (at f.pocdiff) 26 o2 in
    let o4 = put_seven (bytes f.abspocdiff) 33 o3 in
    let o5 = set o4 40 (pos f.sources.mfmv_mask) in
    let o6 = set o5 41 (bit f.use_ref_frame_mvs) in
    put_sources f.sources (set o6 42 (in_i64 f.sources.n_mfmvs))

unfoldable pub record_of : Frame → List ℤ
record_of f = put_frame f (replicate 171 (pos 0))

-- a line states these 171 numbers, from the number `from` on
abbrev pub Stated : List ℤ → List ℤ → ℕ → Type 0
Stated o n from = (k : ℕ) → k < 171 → at n (from + k) ≡ at o k

-- ---- a line that agrees

-- the refusal's number and the record are those of the header
pub record FrameAgrees (n : List ℤ) : Type 0 where
  pub same_refusal : at n 83 ≡ pos (setup_of (header_of n)).refusal
  pub same_record : Stated (record_of (setup_of (header_of n)).frame) n 84
