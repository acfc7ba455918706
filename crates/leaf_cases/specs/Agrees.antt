-- What a verdict that a case agrees says of the numbers of its line. Assumes nothing.
use Rattle.std.specs.Prelude.{◌≡◌, List, ℕ, ◌+◌, ℤ, pos, nat_abs}
use Rattle.levels.specs.declared.Mv.{Mv}
use Rattle.levels.specs.declared.QMv.{QMv}
use Rattle.levels.specs.Answer.{Said}
use Rattle.env.specs.Hints.{SaidDiff, poc_diff}
use Rattle.mv.specs.Averages.{smoothed, gap_mean}
use Rattle.mv.specs.Packing.{packed, unpacked}
use Rattle.mv.specs.Projection.{mv_projection, scale_mv}
use Rattle.cases.specs.Numbers.{at, hint_at}

-- the vector of the numbers k and k + 1
abbrev pub vector_at : List ℤ → ℕ → Mv
vector_at n k = record { y = at n k; x = at n (k + 1) }

-- the packed vector of the numbers k and k + 1
abbrev pub packed_at : List ℤ → ℕ → QMv
packed_at n k = record { y = at n k; x = at n (k + 1) }

-- the refusal's number and the vector are those of the answer
pub record Stated (s : Said) (number : ℤ) (v : Mv) : Type 0 where
  pub same_refusal : number ≡ pos s.refusal
  pub same_vector : v ≡ s.vector

-- the refusal's number and the difference are those of the answer
pub record DiffStated (s : SaidDiff) (number d : ℤ) : Type 0 where
  pub same_refusal : number ≡ pos s.refusal
  pub same_diff : d ≡ s.diff

-- ---- a line of each kind that agrees

abbrev pub ProjectAgrees : List ℤ → Type 0
ProjectAgrees n = Stated (mv_projection (vector_at n 0) (at n 2) (at n 3) (at n 4) (at n 5)) (at n 6) (vector_at n 7)

abbrev pub ScaleAgrees : List ℤ → Type 0
ScaleAgrees n = Stated (scale_mv (vector_at n 0) (at n 2)) (at n 3) (vector_at n 4)

abbrev pub QuantizeAgrees : List ℤ → Type 0
QuantizeAgrees n = packed (vector_at n 0) ≡ packed_at n 2

abbrev pub DequantizeAgrees : List ℤ → Type 0
DequantizeAgrees n = Stated (unpacked (packed_at n 0)) (at n 2) (vector_at n 3)

abbrev pub HintAgrees : List ℤ → Type 0
HintAgrees n = DiffStated (poc_diff (nat_abs (at n 0)) (hint_at n 1) (hint_at n 2)) (at n 3) (at n 4)

abbrev pub SmoothAgrees : List ℤ → Type 0
SmoothAgrees n = at n 2 ≡ smoothed (nat_abs (at n 0)) (at n 1)

abbrev pub GapAgrees : List ℤ → Type 0
GapAgrees n = at n 2 ≡ gap_mean (nat_abs (at n 0)) (at n 1)
