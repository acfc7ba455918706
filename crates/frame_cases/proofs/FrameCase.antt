-- Laws of the kind `frame`: the header and the record by their parts. Assumes nothing.
use Rattle.std.proofs.Common.{Result, Ok, Err, Some, slice_get, false, sym, ap, ◌∙◌, ◌≡◌, Bool, List, ℕ, ◌+◌, ◌<◌, arith, ℤ, pos, nat_abs, set}
use Rattle.std.proofs.lemmas.Option.{get_or_from_slice_get}
use Rattle.std.specs.Result.{result_unwrap_or}
use Rattle.levels.specs.declared.OrderHint.{OrderHint}
use Rattle.levels.specs.declared.Refusal.{Refusal}
use Rattle.levels.specs.Answer.{refusal_of}
use Rattle.picks.specs.declared.Saved.{Saved}
use Rattle.picks.specs.declared.Pocs.{Pocs}
use Rattle.entry.specs.declared.Source.{Source}
use Rattle.frame.specs.declared.Header.{Header}
use Rattle.frame.specs.declared.Frame.{Frame}
use Rattle.frame.specs.Frame.{SaidSetup, says_setup, zero_frame}
use Rattle.cases.specs.Numbers.{at, hint, is_on}
use Rattle.frame_cases.specs.FrameCase.{hints_at, all_saved, switches_at, pocs_of, header_of, bit, bits, bytes, in_i64, put_seven, put_source, put_sources, put_head, put_frame}

-- what an answer says, by its parts: beside a refusal the record is zeros
pub said_setup : (r : Result Frame Refusal) {m : ℕ} {f z : Frame} → m ≡ refusal_of r → f ≡ result_unwrap_or r z → z ≡ zero_frame → ◌≡◌ {A = SaidSetup} (record { refusal = m; frame = f }) (says_setup r)
said_setup (Ok x) a b c = cc
said_setup (Err e) a b c = cc

-- the saved hints h, and their count
abbrev pub saved : List OrderHint → ℕ → Saved
saved h n = record { ref_poc = h; refcnt = n }

-- the parts of the header, of the same by other names
pub pocs_is : (n : List ℤ) {a b r : ℕ} {hs : List OrderHint} {ss : List Saved} → a ≡ nat_abs (at n 0) → b ≡ nat_abs (at n 12) → r ≡ nat_abs (at n 3) → hs ≡ hints_at n 13 → ss ≡ all_saved n
    → ◌≡◌ {A = Pocs} (record { nbits = a; poc = hint b; n_refs = r; ref_poc = hs; saved = ss }) (pocs_of n)
unfolding pocs_of
pocs_is n e1 e2 e3 e4 e5 = cc

pub header_is : (n : List ℤ) {w h sb step mode : ℕ} {tip mvs both : Bool} {t0 t1 : ℤ} {rp : List Bool} {p : Pocs}
    → w ≡ nat_abs (at n 1) → h ≡ nat_abs (at n 2) → sb ≡ nat_abs (at n 5) → step ≡ nat_abs (at n 6) → tip ≡ is_on (at n 4) → mvs ≡ is_on (at n 7)
    → both ≡ is_on (at n 8) → mode ≡ nat_abs (at n 9) → t0 ≡ at n 10 → t1 ≡ at n 11 → rp ≡ switches_at n 76 → p ≡ pocs_of n
    → ◌≡◌ {A = Header} (record {
      width = w;
      height = h;
      sb128 = sb;
      tmvp_sample_step = step;
      tip = tip;
      use_ref_frame_mvs = mvs;
      has_bothside_refs = both;
      tip_frame_mode = mode;
      tip0 = t0;
      tip1 = t1;
      rp_ref = rp;
      pocs = p;
    }) (header_of n)
unfolding header_of
header_is n e1 e2 e3 e4 e5 e6 e7 e8 e9 e10 e11 e12 = cc

-- a source's numbers, of the same by other names; each array is put into what the one before left
pub source_is : (x : Source) (k : ℕ) (o : List ℤ) {v0 v1 v2 v3 : ℤ} {p q r s : List ℤ}
    → v0 ≡ pos x.reference.0 → v1 ≡ x.tgt → v2 ≡ pos x.dir → v3 ≡ x.ref2cur
    → p ≡ put_seven (at x.ref2ref) (k + 4) (set (set (set (set o k v0) (k + 1) v1) (k + 2) v2) (k + 3) v3)
    → q ≡ put_seven (at x.ref2idx) (k + 11) p
    → r ≡ put_seven (at x.ref2sf0) (k + 18) q
    → s ≡ put_seven (at x.ref2sf1) (k + 25) r
    → s ≡ put_source x k o
unfolding put_source
source_is x k o e0 e1 e2 e3 a b c d = cc

-- a number of 32 bits is no larger than the largest of a line
pub word_is : (v : ℕ) → v < 4294967296 → pos v ≡ in_i64 v
unfolding in_i64
word_is v l = ap pos (omega arith)

-- the same of the record's
pub head_is : (f : Frame) (o : List ℤ) {v0 v1 v2 v3 v4 v5 v6 v7 v8 v9 v10 v11 : ℤ}
    → v0 ≡ in_i64 f.width → v1 ≡ in_i64 f.height → v2 ≡ in_i64 f.n_refs → v3 ≡ pos f.sb128
    → v4 ≡ pos f.tmvp_sample_step → v5 ≡ pos f.tip_frame_mode → v6 ≡ f.tip0 → v7 ≡ f.tip1
    → v8 ≡ f.tip.delta → v9 ≡ f.tip.sf0 → v10 ≡ f.tip.sf1 → v11 ≡ in_i64 f.ref_flip
    → set (set (set (set (set (set (set (set (set (set (set (set o 0 v0) 1 v1) 2 v2) 3 v3) 4 v4) 5 v5) 6 v6) 7 v7) 8 v8) 9 v9) 10 v10) 11 v11 ≡ put_head f o
unfolding put_head
head_is f o e0 e1 e2 e3 e4 e5 e6 e7 e8 e9 e10 e11 = cc

pub frame_is : (f : Frame) (o : List ℤ) {v0 v1 v2 : ℤ} {p q r s t u : List ℤ}
    → p ≡ put_head f o
    → q ≡ put_seven (bits f.rp_ref) 12 p
    → r ≡ put_seven (bits f.ref_sign) 19 q
    → s ≡ put_seven (at f.pocdiff) 26 r
    → t ≡ put_seven (bytes f.abspocdiff) 33 s
    → v0 ≡ pos f.sources.mfmv_mask → v1 ≡ bit f.use_ref_frame_mvs → v2 ≡ in_i64 f.sources.n_mfmvs
    → u ≡ put_sources f.sources (set (set (set t 40 v0) 41 v1) 42 v2)
    → u ≡ put_frame f o
unfolding put_frame
frame_is f o a b c d e e0 e1 e2 g = cc

-- an element of an array, as a number
pub of_signed : (a : List ℤ) (i : ℕ) (x z : ℤ) → slice_get a i ≡ Some x → z ≡ x → z ≡ at a i
of_signed a i x z e q = q ∙ sym (get_or_from_slice_get a i x (pos 0) e)

pub of_bytes : (a : List ℕ) (i x : ℕ) (z : ℤ) → slice_get a i ≡ Some x → z ≡ pos x → z ≡ bytes a i
of_bytes a i x z e q = q ∙ ap pos (sym (get_or_from_slice_get a i x 0 e))

pub of_bools : (a : List Bool) (i : ℕ) (x : Bool) (z : ℤ) → slice_get a i ≡ Some x → z ≡ bit x → z ≡ bits a i
of_bools a i x z e q = q ∙ ap bit (sym (get_or_from_slice_get a i x false e))
