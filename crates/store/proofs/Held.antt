-- What a cell that is read says of the vector there. Assumes nothing.
use Rattle.std.proofs.Common.{◌≡◌, refl, ap, sym, ◌∙◌, Bool, true, false, not, cond, Option, Some, None}
use Rattle.std.specs.Option.{is_some}
use Rattle.levels.specs.declared.Mv.{Mv}
use Rattle.mv.specs.Sums.{is_empty}
use Rattle.store.specs.Lent.{held}

-- by the test
some_by : (v w : Mv) (b : Bool) → cond b None (Some v) ≡ Some w → (b ≡ false) × (v ≡ w)
some_by v w true e = cc
some_by v w false e = (refl, cc)

none_by : (v : Mv) (b : Bool) → cond b None (Some v) ≡ None → b ≡ true
none_by v true e = refl
none_by v false e = cc

is_some_by : (v : Mv) (b : Bool) → is_some (cond b None (Some v)) ≡ not b
is_some_by v true = refl
is_some_by v false = refl

pub none_empty : (v : Mv) (o : Option Mv) → o ≡ held v → o ≡ None → is_empty v ≡ true
none_empty v o e n = none_by v (is_empty v) (sym e ∙ n)

pub some_vector : (v w : Mv) (o : Option Mv) → o ≡ held v → o ≡ Some w → (is_empty v ≡ false) × (v ≡ w)
some_vector v w o e n = some_by v w (is_empty v) (sym e ∙ n)

-- by `is_some`
not_by : (b c : Bool) → not b ≡ c → b ≡ not c
not_by true c e = ap not e
not_by false c e = ap not e

pub empty_by : (v : Mv) (o : Option Mv) (c : Bool) → o ≡ held v → is_some o ≡ c → is_empty v ≡ not c
empty_by v o c e n = not_by (is_empty v) c (sym (is_some_by v (is_empty v)) ∙ ap is_some (sym e) ∙ n)
