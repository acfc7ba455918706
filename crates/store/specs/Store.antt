-- The store that a load is lent (01 "Store: field, trajectories, maps"): seven lists, four kinds of cells. Assumes nothing.
use Rattle.std.specs.Prelude.{List, ◌≡◌, ℕ, ℤ, pos, negsuc, nat_abs, length, get_or, set}
use Rattle.levels.specs.declared.Mv.{Mv}
use Rattle.levels.specs.Vector.{empty}

-- field vectors and their reference bytes (rp_proj), trajectories (rp_traj), maps (rp_map), y and x apart as the slices are
pub record Store : Type 0 where
  pub field_y : List ℤ
  pub field_x : List ℤ
  pub field_ref : List ℕ
  pub traj_y : List ℤ
  pub traj_x : List ℤ
  pub map_y : List ℤ
  pub map_x : List ℤ

-- seven lent slices as a store
abbrev pub pack : List ℤ → List ℤ → List ℕ → List ℤ → List ℤ → List ℤ → List ℤ → Store
pack fy fx fr ty tx my mx = record { field_y = fy; field_x = fx; field_ref = fr; traj_y = ty; traj_x = tx; map_y = my; map_x = mx }

-- a store with another field
abbrev pub with_field : Store → List ℤ → List ℤ → List ℕ → Store
with_field s fy fx fr = pack fy fx fr s.traj_y s.traj_x s.map_y s.map_x

-- a store with other trajectories and maps
abbrev pub with_traj : Store → List ℤ → List ℤ → List ℤ → List ℤ → Store
with_traj s ty tx my mx = pack s.field_y s.field_x s.field_ref ty tx my mx

-- the kinds of cells: field vectors, their reference bytes, trajectories, maps
pub data Kind : Type 0 where
  field_mvs : Kind
  field_refs : Kind
  trajs : Kind
  maps : Kind

-- a cell of any kind is a pair of integers, y first
abbrev pub vec : ℤ → ℤ → Mv
vec y x = record { y = y; x = x }

-- the cell of a reference byte
abbrev pub byte_cell : ℕ → Mv
byte_cell n = vec (pos n) (pos 0)

-- the empty map cell: (-128, -128)
abbrev pub no_map : Mv
no_map = vec (negsuc 127) (negsuc 127)

-- the empty cell of each kind; a reference byte has none, and counts as 0
abbrev pub blank : Kind → Mv
blank field_mvs = empty
blank field_refs = byte_cell 0
blank trajs = empty
blank maps = no_map

-- cell i of a kind
abbrev pub rd : Store → Kind → ℕ → Mv
rd s field_mvs i = vec (get_or s.field_y i (pos 0)) (get_or s.field_x i (pos 0))
rd s field_refs i = byte_cell (get_or s.field_ref i 0)
rd s trajs i = vec (get_or s.traj_y i (pos 0)) (get_or s.traj_x i (pos 0))
rd s maps i = vec (get_or s.map_y i (pos 0)) (get_or s.map_x i (pos 0))

-- the store with v in cell i of a kind
abbrev pub wr : Store → Kind → ℕ → Mv → Store
wr s field_mvs i v = pack (set s.field_y i v.y) (set s.field_x i v.x) s.field_ref s.traj_y s.traj_x s.map_y s.map_x
wr s field_refs i v = pack s.field_y s.field_x (set s.field_ref i (nat_abs v.y)) s.traj_y s.traj_x s.map_y s.map_x
wr s trajs i v = pack s.field_y s.field_x s.field_ref (set s.traj_y i v.y) (set s.traj_x i v.x) s.map_y s.map_x
wr s maps i v = pack s.field_y s.field_x s.field_ref s.traj_y s.traj_x (set s.map_y i v.y) (set s.map_x i v.x)

-- the lists of two stores are of the same lengths
pub record SameLengths (s t : Store) : Type 0 where
  pub field_y : length s.field_y ≡ length t.field_y
  pub field_x : length s.field_x ≡ length t.field_x
  pub field_ref : length s.field_ref ≡ length t.field_ref
  pub traj_y : length s.traj_y ≡ length t.traj_y
  pub traj_x : length s.traj_x ≡ length t.traj_x
  pub map_y : length s.map_y ≡ length t.map_y
  pub map_x : length s.map_x ≡ length t.map_x
