-- What contracts say of two lists that are lent together, as a part of a store. Assumes nothing.
use Rattle.std.specs.Prelude.{◌≡◌, List, ℕ, ◌<◌, ℤ, length, Option, Some, None, if◌then◌else◌}
use Rattle.levels.specs.declared.Mv.{Mv}
use Rattle.mv.specs.Sums.{is_empty}
use Rattle.loops.specs.Over.{span}
use Rattle.loops.specs.Seven.{storing}
use Rattle.store.specs.declared.Pairs.{Pairs}
use Rattle.store.specs.Store.{Store, with_traj}

-- a vector as a cell holds it: none where it is empty
abbrev pub held : Mv → Option Mv
held v = if is_empty v then None else Some v

-- a list with v at the places from a up to b
abbrev pub filled : {A : Type 0} → A → ℕ → ℕ → List A → List A
filled v a b l = span (storing (λ i. v)) a b l

-- place i is in both lists
pub record IsWithinPairs {T : Type 0} (p : Pairs T) (i : ℕ) : Type 0 where
  pub y : i < length p.y.now
  pub x : i < length p.x.now

-- the same two lists are lent, as long as they were
pub record IsSamePairs {T : Type 0} (p q : Pairs T) : Type 0 where
  pub y : p.y.ghost_name ≡ q.y.ghost_name
  pub x : p.x.ghost_name ≡ q.x.ghost_name
  pub y_length : length p.y.now ≡ length q.y.now
  pub x_length : length p.x.now ≡ length q.x.now

-- a store with these trajectories
abbrev pub with_trajs : Store → Pairs ℤ → Store
with_trajs s t = with_traj s t.y.now t.x.now s.map_y s.map_x

-- a store with these maps
abbrev pub with_maps : Store → Pairs ℤ → Store
with_maps s m = with_traj s s.traj_y s.traj_x m.y.now m.x.now

-- a store with these trajectories and maps
abbrev pub stored_trajs : Store → Pairs ℤ → Pairs ℤ → Store
stored_trajs s t m = with_traj s t.y.now t.x.now m.y.now m.x.now
