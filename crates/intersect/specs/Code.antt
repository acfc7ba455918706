-- What the contracts of the code speak of besides the definitions. Assumes nothing.
use Rattle.std.specs.Prelude.{◌≡◌, true, not, ℕ, ◌+◌, ◌-◌, ◌/◌, ◌≤◌, ◌<◌, ◌^◌, Option, Some, None, if◌then◌else◌, ℤ, pos, ◌-ℤ◌, get_or}
use Rattle.levels.specs.declared.Mv.{Mv}
use Rattle.store.specs.declared.Pairs.{Pairs}
use Rattle.store.specs.Program.{Prog, write}
use Rattle.store.specs.Store.{maps, vec}
use Rattle.tile.specs.Geometry.{Geometry}
use Rattle.tile.specs.Layout.{map_at, moved}
use Rattle.tile.specs.Owner.{own_block}
use Rattle.traj.specs.Traj.{is_no_map, leads, follow}
use Rattle.intersect.specs.declared.Half.{Half}
use Rattle.intersect.specs.declared.Place.{Place}

-- its numbers have 32 bits
pub record IsLow (p : Place) : Type 0 where
  pub y : p.y < 2 ^ 32
  pub x : p.x < 2 ^ 32

-- a place whose block is one of the tile's
pub record IsOwn (t : Geometry) (p : Place) : Type 0 where
  pub row : p.y < 2 ^ 32
  pub block : own_block t (p.x / t.block + 1) ≡ true

-- rows or columns of blocks that are one or none apart
pub record IsNear (t : Geometry) (a b : ℕ) : Type 0 where
  pub after : b / t.block ≤ a / t.block + 1
  pub before : a / t.block ≤ b / t.block + 1

-- `end` is entered in the map of slot n for the trajectory at `first`
abbrev pub entered : Geometry → ℕ → Place → Place → Prog
entered t n first end = write maps (map_at t (first.x / t.block + 1 - end.x / t.block) n end.y end.x) (vec (pos first.y -ℤ pos end.y) (pos first.x -ℤ pos end.x))

-- map cell i as it is lent ..
abbrev pub map_in : Pairs ℤ → ℕ → Mv
map_in m i = vec (get_or m.y.now i (pos 0)) (get_or m.x.now i (pos 0))

-- .. none where it is empty
abbrev pub map_entry : Pairs ℤ → ℕ → Option Mv
map_entry m i = if not (is_no_map (map_in m i)) then Some (map_in m i) else None

-- the slots and the place of a half are the store's
pub record InStore (t : Geometry) (h : Half) : Type 0 where
  pub a : h.a < 7
  pub b : h.b < 7
  pub y : h.at.y < 8192
  pub x : h.at.x < t.stride

-- where the map cell m of plane k leads, if it is one of the half's trajectories
abbrev pub led_to : Geometry → Mv → ℕ → Half → Option Place
led_to t m k h = if leads t m k h.at.y h.at.x h.origin.y h.origin.x then Some (record { y = moved h.at.y m.y; x = moved h.at.x m.x }) else None

-- a plane of a half
abbrev pub followed : Geometry → Half → ℕ → Prog
followed t h k = follow t h.bound h.a h.b h.at.y h.at.x h.origin.y h.origin.x h.mv k
