-- `frame_cases::of_u64` meets its contract. Assumes nothing.
use Rattle.std.proofs.Common.{◌≡◌, ◌∙◌, Result, Ok, Err, ℕ, ◌≤◌, min, ap, arith, ℤ, pos, w64, SFits}
use borrow.Author.Rules.{sfits_of}
use Rattle.std.proofs.Math.Decide.{dec_le}
use Rattle.std.proofs.Math.Logic.{dite}
use Rattle.std.specs.Prelude.{OkIff}
use Rattle.std.specs.Result.{result_unwrap_or}
use Rattle.intops.proofs.Signed.{back, signed}
use Rattle.frame_cases.specs.FrameCase.{in_i64}
use Rattle.frame_cases.proofs.of_u64.Goals as goal

clipped : {E : Type 0} (r : Result ℤ E) (v : ℕ) → OkIff r (SFits w64 (pos v)) (pos v) → result_unwrap_or r (pos 9223372036854775807) ≡ pos (min v 9223372036854775807)
clipped (Ok y) v h = let f = h.0 in h.1 ∙ ap pos (omega signed)
clipped (Err d) v h =
    dite (dec_le v 9223372036854775807)
    (λ (l : v ≤ 9223372036854775807). absurd (h (omega signed)))
    (λ (l : ¬ (v ≤ 9223372036854775807)). ap pos (omega arith))

pub returns : goal.returns
unfolding in_i64
returns c = let f : SFits w64 c.unwrap_or.result = sfits_of c.unwrap_or.type_inv in simp back (c.unwrap_or.ensures ∙ clipped c.try_from.result c.args.v c.try_from.ensures)
