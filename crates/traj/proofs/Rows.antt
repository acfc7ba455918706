-- Rows of cells: where one begins, and the emptying of a plane's rows as fills of lists. Assumes nothing.
use Rattle.std.proofs.Common.{◌≡◌, refl, ap, ◌∙◌, Bool, true, ℕ, zero, suc, ◌+◌, ◌-◌, ◌*◌, ◌%◌, ◌≤◌, ◌<◌, min, arith, ℤ, pos, negsuc, set}
use Rattle.std.proofs.Math.Decide.{dec_le}
use Rattle.std.proofs.Math.Logic.{dite}
use Rattle.levels.specs.declared.Mv.{Mv}
use Rattle.levels.specs.Vector.{empty}
use Rattle.loops.specs.Over.{over, span}
use Rattle.loops.proofs.Turns.{row_within}
use Rattle.store.specs.declared.Pairs.{Pairs}
use Rattle.store.specs.Lent.{IsWithinPairs, IsSamePairs, filled, with_trajs, with_maps, stored_trajs}
use Rattle.store.specs.Store.{Store, Kind, trajs, maps, no_map, wr, with_traj}
use Rattle.store.specs.Program.{Prog, run, write, each, ◌>>◌}
use Rattle.store.proofs.Lent.{Two, two}
use Rattle.store.proofs.Rows as store
use Rattle.tile.specs.Geometry.{Geometry}
use Rattle.tile.specs.Layout.{row_cells, place, traj_at, map_at}
use Rattle.tile.specs.Lent.{IsTrajHeld}
use Rattle.tile.specs.Sound.{Sound}
use Rattle.tile.specs.Owner.{owns}
use Rattle.tile.proofs.Places.{row_of, row_low, traj_low}
use Rattle.tile.proofs.Owner.{mine_in, own_traj, own_map}
use Rattle.traj.specs.Traj.{empty_traj, empty_map}
use Rattle.traj.specs.Code.{row_filled, rows_filled, map_from, map_to}
use Rattle.traj.proofs.Owned.{mine_map}

module _ (t : Geometry) where
  -- column 0 of a row as code finds it
  pub row_is : (k : Sound t) (p y : ℕ) → t.top ≤ y → y < t.top + t.side → p * (t.side * t.stride) + (y - t.top) * t.stride ≡ p * row_cells t + place t y 0
  unfolding row_cells place
  row_is k p y h l = rw (row_of t k y h l) (omega arith)

  -- and column x
  pub traj_is : (n y x : ℕ) → traj_at t n y x ≡ n * row_cells t + place t y 0 + x
  unfolding traj_at place
  traj_is n y x = omega arith

  pub map_is : (j n y x : ℕ) → map_at t j n y x ≡ (j * 7 + n) * row_cells t + place t y 0 + x
  unfolding map_at place
  map_is j n y x = omega arith

  -- up to column e it lies before the planes' end
  pub row_end : (k : Sound t) (p q y e : ℕ) → p < q → e ≤ t.stride → p * row_cells t + place t y 0 + e ≤ q * row_cells t
  unfolding row_cells place
  row_end k p q y e h l = omega (arith, row_within (y % t.side) t.side t.stride (row_low t k y), row_within p q (t.side * t.stride) h)

  -- the place of a trajectory: within lists that hold the planes
  pub traj_low_at : (k : Sound t) (i n y x : ℕ) → i ≡ traj_at t n y x → n < 7 → x < t.stride → i < 7 * row_cells t
  traj_low_at k i n y x e h l = rw e (traj_low t k n y x h l)

  pub within_at : (k : Sound t) (i n y x : ℕ) → i ≡ traj_at t n y x → n < 7 → x < t.stride → (p : Pairs ℤ) → IsTrajHeld t p → IsWithinPairs p i
  within_at k i n y x e h l p q = let u = traj_low_at k i n y x e h l in record { y = omega (arith, u, q.y); x = omega (arith, u, q.x) }

-- where the rows of a loop that fills them are: what is left of them on the lists as they are is all of them on the lists where it began
pub record RowsLeft {T : Type 0} (t : Geometry) (p a b : ℕ) (vy vx : T) (row : ℕ) (l m : Pairs T) : Type 0 where
  pub same : IsSamePairs l m
  pub from : t.top ≤ row
  pub y : span (row_filled t p a b vy) row t.bottom l.y.now ≡ rows_filled t p a b vy m.y.now
  pub x : span (row_filled t p a b vx) row t.bottom l.x.now ≡ rows_filled t p a b vx m.x.now

-- a loop from the lesser of its ends is the loop
each_least : (own : Kind → ℕ → Bool) (a b c : ℕ) (f : ℕ → Prog) → c ≡ min a b → (s : Store) → run own (each c b f) s ≡ run own (each a b f) s
unfolding over
each_least own a b c f e s =
    dite (dec_le a b)
    (λ (l : a ≤ b). let q : c ≡ a = omega (arith, e) in rw q)
    (λ (l : ¬ (a ≤ b)). let p : b - c ≡ 0 = omega (arith, e) in let q : b - a ≡ 0 = omega arith in rw (p, q))

-- cells of one kind in two lists: rows of one vector, column x of row y at r y + x
module _ (kind : Kind) (into : Store → Two → Store) (sets : (s : Store) (l : Two) (i : ℕ) (v : Mv) → wr (into s l) kind i v ≡ into s (two (set l.y i v.y) (set l.x i v.x)))
    (own : Kind → ℕ → Bool) (at : ℕ → ℕ → ℕ) (v : Mv) (r : ℕ → ℕ) (a b c : ℕ) (least : c ≡ min a b)
    (held : (y x : ℕ) → a ≤ x → x < b → (own kind (at y x) ≡ true) × (at y x ≡ r y + x)) where
  abbrev row_prog : ℕ → Prog
  row_prog y = each a b (λ x. write kind (at y x) v)

  -- n rows from row y on
  rows : (n y : ℕ) (s : Store) (l : Two)
      → into s (two (over (λ i. filled v.y (r i + c) (r i + b)) 1 n y l.y) (over (λ i. filled v.x (r i + c) (r i + b)) 1 n y l.x)) ≡ over (λ i. run own (row_prog i)) 1 n y (into s l)
  unfolding over
  rows zero y s l = refl
  rows (suc n) y s l =
      let ny = filled v.y (r y + c) (r y + b) l.y in let nx = filled v.x (r y + c) (r y + b) l.x in
      rows n (y + 1) s (two ny nx)
      ∙ ap (over (λ i. run own (row_prog i)) 1 n (y + 1))
      (store.row_filled kind into sets own (at y) v (r y) c b (λ x p q. held y x (omega (arith, least)) q) l ny nx refl refl s
      ∙ each_least own a b c (λ x. write kind (at y x) v) least (into s l))

  -- the rows from e up to f
  rows_on : (e f : ℕ) (s : Store) (l : Two)
      → into s (two (span (λ i. filled v.y (r i + c) (r i + b)) e f l.y) (span (λ i. filled v.x (r i + c) (r i + b)) e f l.x)) ≡ run own (each e f row_prog) (into s l)
  unfolding span
  rows_on e f s l = rows (f - e) e s l

module _ (t : Geometry) (k : Sound t) (n : ℕ) (low : n < 7) (l m : Pairs ℤ) where
  -- a slot's trajectories
  pub traj_emptied : m.y.now ≡ rows_filled t n t.left t.right (pos 2097152) l.y.now → m.x.now ≡ rows_filled t n t.left t.right (pos 0) l.x.now
      → (s : Store) → with_trajs s m ≡ run (owns t) (empty_traj t n) (with_trajs s l)
  unfolding empty_traj
  traj_emptied p q s =
      rw (p, q)
      (rows_on trajs (λ s l. with_traj s l.y l.x s.map_y s.map_x) (λ s l i v. refl) (owns t) (traj_at t n) empty (λ y. n * row_cells t + place t y 0) t.left t.right t.left (omega (arith, k.some))
      (λ y x b c. (own_traj t k n y x low (mine_in t k x b c), traj_is t n y x)) t.top t.bottom s (two l.y.now l.x.now))

  -- its map in a plane
  pub map_emptied : (j c : ℕ) → j < 3 → c ≡ min (map_from t j) (map_to t j) → m.y.now ≡ rows_filled t (j * 7 + n) c (map_to t j) (negsuc 127) l.y.now → m.x.now ≡ rows_filled t (j * 7 + n) c (map_to t j) (negsuc 127) l.x.now
      → (s : Store) → with_maps s m ≡ run (owns t) (empty_map t n j) (with_maps s l)
  unfolding empty_map
  map_emptied j c h e p q s =
      rw (p, q)
      (rows_on maps (λ s l. with_traj s s.traj_y s.traj_x l.y l.x) (λ s l i v. refl) (owns t) (map_at t j n) no_map (λ y. (j * 7 + n) * row_cells t + place t y 0) (map_from t j) (map_to t j) c e
      (λ y x b d. (own_map t k j n y x h low (omega (arith, k.wide)) (mine_map t k j x b (omega arith)), map_is t j n y x)) t.top t.bottom s (two l.y.now l.x.now))

-- a slot: its trajectories, then its map in the three planes
abbrev pub slot_prog : Geometry → ℕ → Prog
slot_prog t n = do
  empty_traj t n
  each 0 3 (empty_map t n)

pub slot_emptied : (t : Geometry) (n : ℕ) (l l' m m' : Pairs ℤ) → ((s : Store) → with_trajs s l' ≡ run (owns t) (empty_traj t n) (with_trajs s l))
    → ((s : Store) → with_maps s m' ≡ run (owns t) (each 0 3 (empty_map t n)) (with_maps s m)) → (s : Store) → stored_trajs s l' m' ≡ run (owns t) (slot_prog t n) (stored_trajs s l m)
slot_emptied t n l l' m m' p q s = q (stored_trajs s l' m) ∙ ap (run (owns t) (each 0 3 (empty_map t n))) (p (stored_trajs s l m))
