-- What the contracts of the passes' code speak of besides the definitions. Assumes nothing.
use Rattle.std.specs.Prelude.{Bool, cond, List, ℕ, ◌+◌, ◌-◌, ◌*◌, ◌/◌, min, ℤ, pos, get_or}
use Rattle.levels.specs.declared.Mv.{Mv}
use Rattle.levels.specs.Vector.{empty}
use Rattle.loops.specs.Over.{span}
use Rattle.store.specs.declared.Pairs.{Pairs}
use Rattle.store.specs.Lent.{filled}
use Rattle.store.specs.Store.{vec}
use Rattle.tile.specs.Geometry.{Geometry}
use Rattle.tile.specs.Layout.{row_cells, place}

-- a list with v in the columns from a up to b of row y, in plane p ..
abbrev pub row_filled : {A : Type 0} → Geometry → ℕ → ℕ → ℕ → A → ℕ → List A → List A
row_filled t p a b v y l = filled v (p * row_cells t + place t y 0 + a) (p * row_cells t + place t y 0 + b) l

-- .. and of each of the tile's rows
abbrev pub rows_filled : {A : Type 0} → Geometry → ℕ → ℕ → ℕ → A → List A → List A
rows_filled t p a b v l = span (row_filled t p a b v) t.top t.bottom l

-- the columns that are emptied in plane k of a map
abbrev pub map_from : Geometry → ℕ → ℕ
map_from t k = t.left + t.block - k * t.block

abbrev pub map_to : Geometry → ℕ → ℕ
map_to t k = min t.wide ((t.right + (t.block - 1)) / t.block * t.block + t.block - k * t.block)

-- trajectory i as it is lent, empty where there is none
abbrev pub cell_or : Bool → Pairs ℤ → ℕ → Mv
cell_or there p i = cond there (vec (get_or p.y.now i (pos 0)) (get_or p.x.now i (pos 0))) empty
