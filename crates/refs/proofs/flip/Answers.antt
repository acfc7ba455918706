-- `refs::flip` meets its contract. Assumes nothing.
use Rattle.std.proofs.Common.{rules, ◌≡◌, refl, ap, ◌∙◌, Bool, true, false, not, ◌&&◌, ◌||◌, ℤ, pos, w32, SFits}
use lib.Signed.{lt_z}
use Rattle.intops.proofs.Signed.{back}
use Rattle.refs.specs.Refs.{flips_of}
use Rattle.refs.proofs.flip.Goals as goal

-- the tests without a branch
four : (x y t : Bool) → ((x && y && t) || (not x && (y || t))) ≡ flips_of x y t
four true true true = refl
four true true false = refl
four true false t = refl
four false true t = refl
four false false t = refl

pub returns : goal.returns
returns c =
    let a = c.args in let f : SFits w32 c.diff-before.result = search rules in
    simp back (four a.x a.y (lt_z c.diff-before.result (pos 0)) ∙ ap (λ (z : ℤ). flips_of a.x a.y (lt_z z (pos 0))) c.diff-before.ensures)
