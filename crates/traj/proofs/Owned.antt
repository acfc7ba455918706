-- The passes over trajectories and maps read and write the tile's own cells alone. Assumes nothing.
use Rattle.std.proofs.Common.{◌≡◌, true, ◌&&◌, ℕ, ◌+◌, ◌-◌, ◌*◌, ◌/◌, ◌%◌, ◌≤◌, ◌<◌, min, arith}
use Rattle.intops.proofs.Tests.{and_both}
use Rattle.levels.specs.declared.Mv.{Mv}
use Rattle.levels.specs.Vector.{empty}
use Rattle.store.specs.Store.{trajs, maps}
use Rattle.store.specs.Program.{write, cell_if}
use Rattle.store.proofs.Owned.{Owned}
use Rattle.tile.specs.Geometry.{Geometry}
use Rattle.tile.specs.Layout.{traj_at, map_at, moved}
use Rattle.tile.specs.Owner.{own_block, owns}
use Rattle.tile.specs.Passes.{has_right, has_below}
use Rattle.tile.specs.Sound.{Sound}
use Rattle.tile.proofs.Places.{sides, Near}
use Rattle.tile.proofs.Owner.{mine_of, mine_in, own_traj, own_map}
use Rattle.tile.proofs.Passes.{Sampled, mine_sampled, mine_beside, mine_between, owned_samples, owned_cells}
use Rattle.traj.specs.Traj.{empty_traj, empty_map, empty_trajs, enter_end, extend, follow, first_half, second_half, check_traj_intersect, put_gaps_traj, gap_traj, fill_gap_traj}
use Rattle.traj.proofs.Windows.{ends_near, leads_near, in_frame_lem}

module _ (t : Geometry) (k : Sound t) where
  pub owned_empty_traj : (n : ℕ) → n < 7 → Owned (owns t) (empty_traj t n)
  unfolding empty_traj
  owned_empty_traj n l = owned_cells t k (λ y x. write trajs (traj_at t n y x) empty) (λ y x p q. own_traj t k n y x l (mine_in t k x p q))

  -- the columns that are emptied in plane j are of the tile's blocks, j blocks back
  pub mine_map : (j x : ℕ) → t.left + t.block - j * t.block ≤ x → x < (t.right + (t.block - 1)) / t.block * t.block + t.block - j * t.block
      → own_block t (x / t.block + j) ≡ true
  mine_map j x p q =
      mine_of t (x / t.block + j)
      (sides t k (λ B s. t.left + B - j * B ≤ x → t.left % B ≡ 0 → t.left / B + 1 ≤ x / B + j)
      (λ a b. omega arith) (λ a b. omega arith) (λ a b. omega arith) (λ a b. omega arith) p k.start)
      (sides t k (λ B s. x < (t.right + (B - 1)) / B * B + B - j * B → x / B + j ≤ (t.right - 1) / B + 1)
      (λ a. omega (arith, k.some)) (λ a. omega (arith, k.some)) (λ a. omega (arith, k.some)) (λ a. omega (arith, k.some)) q)

  pub owned_empty_map : (n j : ℕ) → n < 7 → j < 3 → Owned (owns t) (empty_map t n j)
  unfolding empty_map
  owned_empty_map n j l z m p i q =
      own_map t k j n (t.top + m * 1) (t.left + t.block - j * t.block + i * 1) z l (omega (arith, k.wide)) (mine_map j (t.left + t.block - j * t.block + i * 1) (omega arith) (omega arith))

  pub owned_empty_trajs : Owned (owns t) (empty_trajs t)
  unfolding empty_trajs
  owned_empty_trajs n l = (owned_empty_traj (0 + n * 1) (omega arith), λ j p. owned_empty_map (0 + n * 1) (0 + j * 1) (omega arith) (omega arith))

  -- where a vector ends in the window of x₁'s block, its map cell belongs to that block
  pub own_end : (n y₂ x₁ x₂ : ℕ) → n < 7 → own_block t (x₁ / t.block + 1) ≡ true → Near t x₁ x₂ → x₂ < t.stride
      → owns t maps (map_at t (x₁ / t.block + 1 - x₂ / t.block) n y₂ x₂) ≡ true
  own_end n y₂ x₁ x₂ l m b w =
      own_map t k (x₁ / t.block + 1 - x₂ / t.block) n y₂ x₂ (omega (arith, b.left)) l w
      (let e : x₂ / t.block + (x₁ / t.block + 1 - x₂ / t.block) ≡ x₁ / t.block + 1 = omega (arith, b.right) in rw e m)

  pub owned_enter_end : (n y₁ x₁ y x : ℕ) (v : Mv) → n < 7 → own_block t (x₁ / t.block + 1) ≡ true → Owned (owns t) (enter_end t n y₁ x₁ y x v)
  unfolding enter_end
  owned_enter_end n y₁ x₁ y x v l m =
      (λ e. let w = ends_near t k y₁ x₁ y x v e in own_end n _ x₁ _ l m w.cols (omega (arith, w.low, k.wide)), λ e. tt)

  pub owned_extend : (bound a b y₁ x₁ : ℕ) (mv : Mv) → a < 7 → b < 7 → own_block t (x₁ / t.block + 1) ≡ true → Owned (owns t) (extend t bound a b y₁ x₁ mv)
  unfolding extend
  owned_extend bound a b y₁ x₁ mv p q m = (
    own_traj t k b y₁ x₁ q m,
    λ u.
        (λ e. (own_traj t k a y₁ x₁ p m, λ v. (own_traj t k b y₁ x₁ q m, owned_enter_end b y₁ x₁ y₁ x₁ _ q m)), λ e. tt),
  )

  pub owned_follow : (bound a b y x y₀ x₀ : ℕ) (mv : Mv) (j : ℕ) → j < 3 → a < 7 → b < 7 → x < t.wide → Owned (owns t) (follow t bound a b y x y₀ x₀ mv j)
  unfolding follow
  owned_follow bound a b y x y₀ x₀ mv j z p q w = (
    λ e. (
      own_map t k j a y x z p (omega (arith, k.wide)) e,
      λ m.
          (λ g. owned_extend bound a b (moved y m.y) (moved x m.x) mv p q (rw (leads_near t k m j y x y₀ x₀ g).block e), λ g. tt),
    ),
    λ e. tt,
  )

  pub owned_check_traj_intersect : (a b y x : ℕ) (mv : Mv) → a < 7 → b < 7 → x < t.wide → Owned (owns t) (check_traj_intersect t a b y x mv)
  unfolding check_traj_intersect first_half second_half
  owned_check_traj_intersect a b y x mv p q w = (
    λ j l. owned_follow _ a b y x y x mv (0 + j * 1) (omega arith) p q w,
    (λ e j l. owned_follow _ b a _ _ y x _ (0 + j * 1) (omega arith) q p (in_frame_lem t k y x mv e).1, λ e. tt),
  )

  owned_put_gaps_traj : (n sx y x : ℕ) (v a b c : Mv) → n < 7 → Sampled t sx x → t.step ≡ 2 → Owned (owns t) (put_gaps_traj t n y x v a b c)
  unfolding put_gaps_traj
  owned_put_gaps_traj n sx y x v a b c l h two =
      (own_traj t k n y (x + 1) l (mine_between t k sx x h two), (own_traj t k n (y + 1) x l (mine_sampled t k sx x h), own_traj t k n (y + 1) (x + 1) l (mine_between t k sx x h two)))

  owned_gap_traj : (n sx y x : ℕ) → n < 7 → Sampled t sx x → t.step ≡ 2 → Owned (owns t) (gap_traj t n sx (min t.right (sx + t.block)) y x)
  unfolding gap_traj
  owned_gap_traj n sx y x l h two = (own_traj t k n y x l m, λ v. (λ e. right v, λ e. tt))
    where
      end : ℕ
      end = min t.right (sx + t.block)

      m : own_block t (x / t.block + 1) ≡ true
      m = mine_sampled t k sx x h

      both : (v a b : Mv) → Owned (owns t) (cell_if (has_right t end x && has_below t y) trajs (traj_at t n (y + 2) (x + 2)) (λ c. put_gaps_traj t n y x v a b c))
      both v a b = (
        λ q. (own_traj t k n (y + 2) (x + 2) l (mine_beside t k sx x h two (and_both (has_right t end x) (has_below t y) q).0), λ c. owned_put_gaps_traj n sx y x v a b c l h two),
        λ q. owned_put_gaps_traj n sx y x v a b _ l h two,
      )

      below : (v a : Mv) → Owned (owns t) (cell_if (has_below t y) trajs (traj_at t n (y + 2) x) (λ b. cell_if (has_right t end x && has_below t y) trajs (traj_at t n (y + 2) (x + 2)) (λ c. put_gaps_traj t n y x v a b c)))
      below v a = (λ q. (own_traj t k n (y + 2) x l m, λ b. both v a b), λ q. both v a _)

      right : (v : Mv) → Owned (owns t) (cell_if (has_right t end x) trajs (traj_at t n y (x + 2)) (λ a. cell_if (has_below t y) trajs (traj_at t n (y + 2) x) (λ b. cell_if (has_right t end x && has_below t y) trajs (traj_at t n (y + 2) (x + 2)) (λ c. put_gaps_traj t n y x v a b c))))
      right v = (λ q. (own_traj t k n y (x + 2) l (mine_beside t k sx x h two q), λ a. below v a), λ q. below v _)

  pub owned_fill_gap_traj : (n : ℕ) → n < 7 → t.step ≡ 2 → Owned (owns t) (fill_gap_traj t n)
  unfolding fill_gap_traj
  owned_fill_gap_traj n l two = owned_samples t k (gap_traj t n) (λ sx y x h. owned_gap_traj n sx y x l h two)
