-- `frame_cases::put_seven` meets its contract. Assumes nothing.
use Rattle.std.proofs.Common.{◌≡◌, ℕ, ℤ, Some, slice_get}
use Rattle.loops.specs.Over.{span}
use Rattle.frame_cases.specs.FrameCase.{putting, put_seven}
use Rattle.frame_cases.proofs.put_seven.Given as goal

abbrev pub invariant-loop-i : goal.invariant-loop-i
invariant-loop-i g l =
    (f : ℕ → ℤ) → ((i : ℕ) (x : _) (z : ℤ) → slice_get l.a i ≡ Some x → g.T.Into.converts x z → z ≡ f i) → span (putting f l.k) l.i 7 l.out ≡ put_seven f l.k l.initial.out
