-- What a C entry answers, and what it leaves in the buffer that the caller lends. Assumes nothing.
use Rattle.std.specs.Prelude.{◌≡◌, cond, List, ℕ, eqb, ℤ, set}
use Rattle.levels.specs.declared.QMv.{QMv}
use Rattle.levels.specs.Answer.{Said}
use Rattle.env.specs.Hints.{SaidDiff}

-- the buffer with y in place 0 and x in place 1
abbrev pub with_pair : ℤ → ℤ → List ℤ → List ℤ
with_pair y x buffer = set (set buffer 0 y) 1 x

-- an entry answers r, finds the buffer `before` and leaves it `after`: r is the number of the answer s; the vector is in the buffer where that is 0, and a refused call leaves the buffer as it was
pub record Gives (s : Said) (r : ℕ) (before after : List ℤ) : Type 0 where
  pub number : r ≡ s.refusal
  pub buffer : after ≡ cond (eqb s.refusal 0) (with_pair s.vector.y s.vector.x before) before

-- packing refuses nothing: r is 0, and the bytes of q are in the buffer
pub record GivesBytes (q : QMv) (r : ℕ) (before after : List ℤ) : Type 0 where
  pub number : r ≡ 0
  pub buffer : after ≡ with_pair q.y q.x before

-- as `Gives`, for a difference of hints, which is put in place 0
pub record GivesDiff (s : SaidDiff) (r : ℕ) (before after : List ℤ) : Type 0 where
  pub number : r ≡ s.refusal
  pub buffer : after ≡ cond (eqb s.refusal 0) (set before 0 s.diff) before
