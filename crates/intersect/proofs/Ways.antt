-- The ways through the programs of check_traj_intersect, as code has them: the numbers that it computed are given by their equations, and so is what its callee ensures. Assumes nothing.
use Rattle.std.proofs.Common.{◌≡◌, refl, sym, ap, ◌∙◌, Bool, true, false, not, ℕ, ◌+◌, ◌-◌, ◌/◌, ◌<◌, Some, None, if◌then◌else◌, arith, ℤ, pos, ◌-ℤ◌}
use Rattle.std.specs.Bool.{then_some}
use Rattle.levels.specs.declared.Mv.{Mv}
use Rattle.mv.specs.Sums.{is_empty}
use Rattle.store.specs.declared.Pairs.{Pairs}
use Rattle.store.specs.Lent.{with_trajs, with_maps, stored_trajs}
use Rattle.store.specs.Store.{Store, trajs, maps, vec, wr}
use Rattle.store.specs.Program.{run, write, each}
use Rattle.tile.specs.Geometry.{Geometry}
use Rattle.tile.specs.Layout.{traj_at, map_at, on_step, cells_of, moved}
use Rattle.tile.specs.Owner.{own_block, owns}
use Rattle.tile.specs.Sound.{Sound}
use Rattle.tile.proofs.Places.{Near}
use Rattle.tile.proofs.Owner.{own_traj, own_map}
use Rattle.traj.specs.Traj.{is_no_map, clipped, sum_of, turned, ends_in, enter_end, extend, leads, follow, in_frame, first_half, second_half, check_traj_intersect}
use Rattle.traj.proofs.Owned.{own_end}
use Rattle.intersect.specs.Code.{map_in}

-- what an optional value says of the test that it comes from
pub some_by : {A : Type 0} (b : Bool) (v w : A) → (if b then Some v else None) ≡ Some w → (b ≡ true) × (v ≡ w)
some_by true v w e = (refl, cc)
some_by false v w e = cc

pub none_by : {A : Type 0} (b : Bool) (v : A) → (if b then Some v else None) ≡ None → b ≡ false
none_by true v e = cc
none_by false v e = refl

pub then_some_is : {A : Type 0} (b : Bool) (v : A) → then_some b v ≡ (if b then Some v else None)
then_some_is true v = refl
then_some_is false v = refl

pub not_false : (b : Bool) → not b ≡ false → b ≡ true
not_false true e = refl
not_false false e = cc

module _ (t : Geometry) (k : Sound t) (n y₁ x₁ y x : ℕ) (m m' : Pairs ℤ) where
  pub place_on : n < 7 → own_block t (x₁ / t.block + 1) ≡ true → Near t x₁ x → x < t.wide
      → (i : ℕ) (v : Mv) → i ≡ map_at t (x₁ / t.block + 1 - x / t.block) n y x → v ≡ vec (pos y₁ -ℤ pos y) (pos x₁ -ℤ pos x)
      → ((s : Store) → with_maps s m' ≡ wr (with_maps s m) maps i v)
      → (s : Store) → with_maps s m' ≡ run (owns t) (write maps (map_at t (x₁ / t.block + 1 - x / t.block) n y x) (vec (pos y₁ -ℤ pos y) (pos x₁ -ℤ pos x))) (with_maps s m)
  place_on l o c w i v ie ve p s = p s ∙ rw (ie, ve) (rw (own_end t k n y x₁ x l o c (omega (arith, w, k.wide))))

module _ (t : Geometry) (n y₁ x₁ y x : ℕ) (v : Mv) (m : Pairs ℤ) where
  pub end_off : ends_in t y₁ x₁ y x v ≡ false → (s : Store) → with_maps s m ≡ run (owns t) (enter_end t n y₁ x₁ y x v) (with_maps s m)
  unfolding enter_end
  end_off h s = rw h

  pub end_on : ends_in t y₁ x₁ y x v ≡ true → (y₂ x₂ : ℕ) → y₂ ≡ on_step t (moved y (cells_of v.y)) → x₂ ≡ on_step t (moved x (cells_of v.x)) → (m' : Pairs ℤ)
      → ((s : Store) → with_maps s m' ≡ run (owns t) (write maps (map_at t (x₁ / t.block + 1 - x₂ / t.block) n y₂ x₂) (vec (pos y₁ -ℤ pos y₂) (pos x₁ -ℤ pos x₂))) (with_maps s m))
      → (s : Store) → with_maps s m' ≡ run (owns t) (enter_end t n y₁ x₁ y x v) (with_maps s m)
  unfolding enter_end
  end_on h y₂ x₂ ye xe m' p s = p s ∙ rw (ye, xe, h)

module _ (t : Geometry) (k : Sound t) (bound a b y₁ x₁ : ℕ) (mv : Mv) (p : a < 7) (q : b < 7) (o : own_block t (x₁ / t.block + 1) ≡ true) (l m : Pairs ℤ) where
  -- the sum
  abbrev pub sum : Mv
  sum = clipped bound (sum_of (map_in l (traj_at t a y₁ x₁)) mv)

  extend_all : (s : Store) → is_empty (map_in l (traj_at t b y₁ x₁)) ≡ true
      → run (owns t) (extend t bound a b y₁ x₁ mv) (stored_trajs s l m) ≡ run (owns t) (enter_end t b y₁ x₁ y₁ x₁ sum) (wr (stored_trajs s l m) trajs (traj_at t b y₁ x₁) sum)
  unfolding extend
  extend_all s h = rw (own_traj t k b y₁ x₁ q o, h, own_traj t k a y₁ x₁ p o)

  module _ (i : ℕ) (ie : i ≡ traj_at t b y₁ x₁) where
    pub extend_off : is_empty (map_in l i) ≡ false → (s : Store) → stored_trajs s l m ≡ run (owns t) (extend t bound a b y₁ x₁ mv) (stored_trajs s l m)
    unfolding extend
    extend_off h s = rw (own_traj t k b y₁ x₁ q o, rw ie at h)

    pub extend_on : is_empty (map_in l i) ≡ true → (w : Mv) → w ≡ sum → (l' m' : Pairs ℤ) → ((s : Store) → with_trajs s l' ≡ wr (with_trajs s l) trajs i w)
        → ((s : Store) → with_maps s m' ≡ run (owns t) (enter_end t b y₁ x₁ y₁ x₁ w) (with_maps s m))
        → (s : Store) → stored_trajs s l' m' ≡ run (owns t) (extend t bound a b y₁ x₁ mv) (stored_trajs s l m)
    extend_on h w we l' m' f e s =
        e (stored_trajs s l' m) ∙ ap (run (owns t) (enter_end t b y₁ x₁ y₁ x₁ w)) (f (stored_trajs s l m)) ∙ rw (ie, we) (sym (extend_all s (rw ie at h)))

-- an empty map cell leads nowhere
pub leads_none : (t : Geometry) (m : Mv) (j y x y₀ x₀ : ℕ) → is_no_map m ≡ true → leads t m j y x y₀ x₀ ≡ false
unfolding leads
leads_none t m j y x y₀ x₀ h = rw h

module _ (t : Geometry) (k : Sound t) (bound a b y x y₀ x₀ : ℕ) (mv : Mv) (j : ℕ) (l m : Pairs ℤ) where
  pub follow_none : own_block t (x / t.block + j) ≡ false → (s : Store) → stored_trajs s l m ≡ run (owns t) (follow t bound a b y x y₀ x₀ mv j) (stored_trajs s l m)
  unfolding follow
  follow_none h s = rw h

  module _ (p : a < 7) (z : j < 3) (c : x < t.stride) (o : own_block t (x / t.block + j) ≡ true) where
    follow_all : (s : Store) → let v = map_in m (map_at t j a y x) in leads t v j y x y₀ x₀ ≡ true
        → run (owns t) (follow t bound a b y x y₀ x₀ mv j) (stored_trajs s l m) ≡ run (owns t) (extend t bound a b (moved y v.y) (moved x v.x) mv) (stored_trajs s l m)
    unfolding follow
    follow_all s h = rw (o, own_map t k j a y x z p c o, h)

    module _ (i : ℕ) (ie : i ≡ map_at t j a y x) where
      pub follow_off : leads t (map_in m i) j y x y₀ x₀ ≡ false → (s : Store) → stored_trajs s l m ≡ run (owns t) (follow t bound a b y x y₀ x₀ mv j) (stored_trajs s l m)
      unfolding follow
      follow_off h s = rw (o, own_map t k j a y x z p c o, rw ie at h)

      pub follow_on : leads t (map_in m i) j y x y₀ x₀ ≡ true → (y₁ x₁ : ℕ) (l' m' : Pairs ℤ) → moved y (map_in m i).y ≡ y₁ → moved x (map_in m i).x ≡ x₁
          → ((s : Store) → stored_trajs s l' m' ≡ run (owns t) (extend t bound a b y₁ x₁ mv) (stored_trajs s l m))
          → (s : Store) → stored_trajs s l' m' ≡ run (owns t) (follow t bound a b y x y₀ x₀ mv j) (stored_trajs s l m)
      follow_on h y₁ x₁ l' m' ye xe e s = e s ∙ rw (← ye, ← xe, ie) (sym (follow_all s (rw ie at h)))

module _ (t : Geometry) (a b y x : ℕ) (mv : Mv) (l m l' m' : Pairs ℤ)
    (first : (s : Store) → stored_trajs s l' m' ≡ run (owns t) (each 0 3 (follow t 2047 a b y x y x mv)) (stored_trajs s l m)) where
  pub meet_off : in_frame t y x mv ≡ false → (s : Store) → stored_trajs s l' m' ≡ run (owns t) (check_traj_intersect t a b y x mv) (stored_trajs s l m)
  unfolding check_traj_intersect first_half second_half
  meet_off h s = rw h (first s)

  pub meet_on : in_frame t y x mv ≡ true → (y₁ x₁ : ℕ) (w : Mv) (l'' m'' : Pairs ℤ)
      → y₁ ≡ on_step t (moved y (cells_of mv.y)) → x₁ ≡ on_step t (moved x (cells_of mv.x)) → w ≡ turned mv
      → ((s : Store) → stored_trajs s l'' m'' ≡ run (owns t) (each 0 3 (follow t 65535 b a y₁ x₁ y x w)) (stored_trajs s l' m'))
      → (s : Store) → stored_trajs s l'' m'' ≡ run (owns t) (check_traj_intersect t a b y x mv) (stored_trajs s l m)
  unfolding check_traj_intersect first_half second_half
  meet_on h y₁ x₁ w l'' m'' ye xe we second s =
      second s
      ∙ rw (ye, xe, we, h) (ap (run (owns t) (each 0 3 (follow t 65535 b a (on_step t (moved y (cells_of mv.y))) (on_step t (moved x (cells_of mv.x))) y x (turned mv)))) (first s))
