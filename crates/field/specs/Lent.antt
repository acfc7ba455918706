-- What contracts say of the lent field, alone and with the other parts of a store. Assumes nothing.
use Rattle.std.specs.Prelude.{◌≡◌, ℕ, ◌+◌, ◌≤◌, ◌<◌, ℤ, length}
use Rattle.levels.specs.declared.Mv.{Mv}
use Rattle.store.specs.declared.Pairs.{Pairs}
use Rattle.store.specs.Store.{Store, with_field, pack}
use Rattle.tile.specs.Geometry.{Geometry}
use Rattle.tile.specs.Layout.{row_cells}
use Rattle.tile.specs.Sound.{FieldHeld}
use Rattle.field.specs.declared.Field.{Field}
use Rattle.field.specs.Code.{cell_in}

-- a store with this field
abbrev pub stored : Store → Field → Store
stored s f = with_field s f.y.now f.x.now f.reference.now

-- a store with this field's vectors
abbrev pub with_vectors : Store → Field → Store
with_vectors s f = with_field s f.y.now f.x.now s.field_ref

-- the store of all its parts
abbrev pub store_of : Field → Pairs ℤ → Pairs ℤ → Store
store_of f t m = pack f.y.now f.x.now f.reference.now t.y.now t.x.now m.y.now m.x.now

-- the vector at place i
abbrev pub vector_in : Field → ℕ → Mv
vector_in f i = cell_in f.y.now f.x.now i

-- place i is in the lists of the vectors
pub record IsVectorWithin (f : Field) (i : ℕ) : Type 0 where
  pub y : i < length f.y.now
  pub x : i < length f.x.now

-- place i is in the three lists
pub record IsWithin (f : Field) (i : ℕ) : Type 0 where
  pub y : i < length f.y.now
  pub x : i < length f.x.now
  pub reference : i < length f.reference.now

-- the lists of the vectors reach to the end of the superblock row
pub record AreVectorsHeld (t : Geometry) (f : Field) : Type 0 where
  pub y : t.offset + row_cells t ≤ length f.y.now
  pub x : t.offset + row_cells t ≤ length f.x.now

-- the three lists do
abbrev pub IsHeld : Geometry → Field → Type 0
IsHeld t f = FieldHeld t f.y.now f.x.now f.reference.now

-- the same three lists are lent, as long as they were
pub record IsSameField (f g : Field) : Type 0 where
  pub y : f.y.ghost_name ≡ g.y.ghost_name
  pub x : f.x.ghost_name ≡ g.x.ghost_name
  pub reference : f.reference.ghost_name ≡ g.reference.ghost_name
  pub y_length : length f.y.now ≡ length g.y.now
  pub x_length : length f.x.now ≡ length g.x.now
  pub reference_length : length f.reference.now ≡ length g.reference.now
