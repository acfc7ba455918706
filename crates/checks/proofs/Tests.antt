-- Tests as code joins them, and as the definitions state them. Assumes nothing.
use Rattle.std.specs.Prelude.{⊤, Result}
use Rattle.std.proofs.Common.{◌≡◌, refl, Bool, true, false, not, ◌&&◌, ◌||◌, ℤ}
use Rattle.std.proofs.Math.Bool.{beq}
use lib.Signed.{lt_z, le_z}
use Rattle.intops.proofs.Signed.{signed}
use Rattle.levels.specs.declared.Refusal.{Refusal}
use Rattle.levels.specs.Answer.{refused_if}
use Rattle.checks.specs.Answer.{Tests}

pub le_not : (a b : ℤ) → le_z a b ≡ not (lt_z b a)
le_not a b = go (le_z a b) (lt_z b a) refl refl
  where
    go : (p q : Bool) → le_z a b ≡ p → lt_z b a ≡ q → p ≡ not q
    go true true e f = absurd (omega signed)
    go true false e f = refl
    go false true e f = refl
    go false false e f = absurd (omega signed)

-- two tests agree
pub same_tests : (a b : Bool) → beq a b ≡ not ((a || b) && not (a && b))
same_tests true true = refl
same_tests true false = refl
same_tests false true = refl
same_tests false false = refl

pub and_true : (a : Bool) → (a && true) ≡ a
and_true true = refl
and_true false = refl

-- the answer of a test that is refused where it doesn't hold
pub tests : (b : Bool) (why : Refusal) (r : Result ⊤ Refusal) → r ≡ refused_if (not b) why → Tests b why r
tests true why r e = rw e refl
tests false why r e = rw e (refl, refl)
