-- What the contracts of gap filling's code speak of besides the definitions. Assumes nothing.
use Rattle.std.specs.Prelude.{Bool, cond, ℕ, pos, get_or}
use Rattle.levels.specs.declared.Mv.{Mv}
use Rattle.levels.specs.Vector.{empty}
use Rattle.mv.specs.Sums.{is_empty}
use Rattle.field.specs.declared.Field.{Field}
use Rattle.field.specs.Field.{projected}
use Rattle.field.specs.Lent.{vector_in}

-- what `beside` hands on to the rest of its program
abbrev pub beside_of : Bool → ℕ → ℕ → Field → Mv
beside_of there to i f = cond there (cond (is_empty (vector_in f i)) empty (projected (pos to) (pos (get_or f.reference.now i 0)) (vector_in f i))) empty
