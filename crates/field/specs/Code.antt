-- What the contracts of the passes' code speak of besides the definitions. Assumes nothing.
use Rattle.std.specs.Prelude.{List, ℕ, ℤ, pos, get_or}
use Rattle.levels.specs.declared.Mv.{Mv}
use Rattle.store.specs.Store.{vec}

-- cell i of the vectors as they are lent
abbrev pub cell_in : List ℤ → List ℤ → ℕ → Mv
cell_in fy fx i = vec (get_or fy i (pos 0)) (get_or fx i (pos 0))
