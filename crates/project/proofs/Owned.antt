-- Projection reads and writes the tile's own cells alone. Assumes nothing.
use Rattle.std.proofs.Common.{◌≡◌, sym, ap, ◌∙◌, subst, Bool, true, false, not, ◌&&◌, List, ℕ, ◌+◌, ◌-◌, ◌*◌, ◌/◌, ◌%◌, ◌≤◌, ◌<◌, min, arith, leb-true, ltb-true, leb, ltb, ℤ, negsuc, neg_ℤ, nat_abs, get_or}
use Rattle.intops.specs.Choice.{eq_z}
use Rattle.intops.proofs.Tests.{and_both}
use Rattle.levels.specs.declared.Mv.{Mv}
use Rattle.loops.proofs.Same.{turn_below}
use Rattle.entry.specs.declared.Source.{Source}
use Rattle.store.proofs.Owned.{Owned}
use Rattle.tile.specs.Geometry.{Geometry}
use Rattle.tile.specs.Layout.{on_step, block_start, same_rows, cells_of, there, moved}
use Rattle.tile.specs.Owner.{own_block, owns}
use Rattle.tile.specs.Sound.{Sound}
use Rattle.tile.proofs.Places.{sides, step_block, step_some, Near, near_block}
use Rattle.tile.proofs.Owner.{mine_in, own_cell, own_traj}
use Rattle.traj.proofs.Owned.{own_end, owned_enter_end, owned_check_traj_intersect}
use Rattle.project.specs.Project.{saved_at, saved_ref, saved_mv, ref2idx, to_source, right_side, near_source, lands, put_trajs, put_mv, project_mv, sample, project_source}
use Rattle.project.specs.Tested.{all_below, block_fine, row_fine}
use Rattle.project.proofs.Tested.{all_below_lem, fine_low, SlotsLow}

module _ (t : Geometry) (k : Sound t) where
  -- the source is at most one block to either side of where it lands
  source_near : (x x₁ : ℕ) → near_source t x x₁ ≡ true → Near t x₁ x
  unfolding near_source block_start
  source_near x x₁ h =
      let w = and_both (leb (x / t.block * t.block - t.edge) x₁) (ltb x₁ (x / t.block * t.block + t.block + t.edge)) h in
      let n = near_block t k x x₁ (leb-true (x / t.block * t.block - t.edge) x₁ w.0) (ltb-true x₁ (x / t.block * t.block + t.block + t.edge) w.1) in
      record { right = n.left; left = n.right }

  -- where a vector lands
  pub record Landed (x x₁ : ℕ) : Type 0 where
    pub own_block : own_block t (x₁ / t.block + 1) ≡ true
    pub near : Near t x₁ x

  pub landed : (y x : ℕ) (w : Mv) → lands t y x w ≡ true → Landed x (on_step t (moved x (neg_ℤ (cells_of w.x))))
  unfolding lands
  landed y x w h =
      let y₁ : ℕ = moved y (neg_ℤ (cells_of w.y)) in
      let x₁ : ℕ = moved x (neg_ℤ (cells_of w.x)) in
      let t1 : Bool = there y (neg_ℤ (cells_of w.y)) && ltb y₁ t.high && there x (neg_ℤ (cells_of w.x)) in
      let e7 = and_both (t1 && leb t.left x₁ && ltb x₁ t.right && same_rows t (on_step t y₁) y) (near_source t x (on_step t x₁)) h in
      let e6 = and_both (t1 && leb t.left x₁ && ltb x₁ t.right) (same_rows t (on_step t y₁) y) e7.0 in
      let e5 = and_both (t1 && leb t.left x₁) (ltb x₁ t.right) e6.0 in
      let e4 = and_both t1 (leb t.left x₁) e5.0 in
      record {
        own_block = rw (step_block t k x₁) (mine_in t k x₁ (leb-true t.left x₁ e4.1) (ltb-true x₁ t.right e5.1));
        near = source_near x (on_step t x₁) e7.1;
      }

  module _ (s : Source) (low : SlotsLow s) where
    owned_put_trajs : (b : ℕ) (v : Mv) (y x y₁ x₁ : ℕ) → b < 7 → x < t.wide → Landed x x₁ → Owned (owns t) (put_trajs t s b v y x y₁ x₁)
    unfolding put_trajs
    owned_put_trajs b v y x y₁ x₁ l w m = (
      own_traj t k s.reference.0 y₁ x₁ low.reference m.own_block,
      (
        own_end t k s.reference.0 y x₁ x low.reference m.own_block m.near (omega (arith, k.wide)),
        (
          λ e. (own_traj t k (nat_abs (ref2idx s b)) y₁ x₁ (low.idx b l) m.own_block, owned_enter_end t k (nat_abs (ref2idx s b)) y₁ x₁ y x v (low.idx b l) m.own_block),
          λ e. tt,
        ),
      ),
    )

    owned_put_mv : (traj : Bool) (b : ℕ) (v : Mv) (y x y₁ x₁ : ℕ) → b < 7 → x < t.wide → Landed x x₁ → Owned (owns t) (put_mv t traj s b v y x y₁ x₁)
    unfolding put_mv
    owned_put_mv traj b v y x y₁ x₁ l w m = (
      (own_cell t k y₁ x₁ m.own_block).0,
      λ old. (
        (own_cell t k y₁ x₁ m.own_block).1,
        λ was.
            (λ e. ((λ q. owned_put_trajs b v y x y₁ x₁ l w m, λ q. tt), own_cell t k y₁ x₁ m.own_block), λ e. tt),
      ),
    )

    owned_project_mv : (traj : Bool) (b : ℕ) (v : Mv) (y x : ℕ) → b < 7 → x < t.wide → Owned (owns t) (project_mv t traj s b v y x)
    unfolding project_mv
    owned_project_mv traj b v y x l w =
        (λ e. owned_put_mv traj b v y x _ _ l w (landed y x (to_source s b v) (and_both (right_side s b) (lands t y x (to_source s b v)) e).1), λ e. tt)

    owned_sample : (traj : Bool) (planes : List ℤ) (y x : ℕ) → x < t.wide
        → block_fine (saved_ref planes (saved_at t s.reference.0 y x) s.dir) (saved_mv planes (saved_at t s.reference.0 y x) s.dir) ≡ true
        → Owned (owns t) (sample t traj planes s y x)
    unfolding sample
    owned_sample traj planes y x w f =
        let l : nat_abs (saved_ref planes (saved_at t s.reference.0 y x) s.dir) < 7 = fine_low _ _ f in
        (λ e. ((λ q. owned_check_traj_intersect t k s.reference.0 _ y x _ low.reference (low.idx _ l) w, λ q. tt), owned_project_mv traj _ _ y x l w), λ e. tt)

    -- a sampled column, counted as test 12 counts them
    sampled_fine : (planes : List ℤ) → row_fine t planes s ≡ true → (j x : ℕ) → j < (t.bottom - t.top + (t.step - 1)) / t.step → x < t.wide → x % t.step ≡ 0
        → block_fine (saved_ref planes (saved_at t s.reference.0 (t.top + j * t.step) x) s.dir) (saved_mv planes (saved_at t s.reference.0 (t.top + j * t.step) x) s.dir) ≡ true
    unfolding row_fine
    sampled_fine planes h j x p w z =
        let fine : ℕ → Bool = λ u. block_fine (saved_ref planes (saved_at t s.reference.0 (t.top + j * t.step) u) s.dir) (saved_mv planes (saved_at t s.reference.0 (t.top + j * t.step) u) s.dir) in
        let e : x / t.step * t.step ≡ x = sides t k (λ B d. x % d ≡ 0 → x / d * d ≡ x) (λ q. omega arith) (λ q. omega arith) (λ q. omega arith) (λ q. omega arith) z in
        let l : x / t.step < (t.wide + (t.step - 1)) / t.step = sides t k (λ B d. x / d < (t.wide + (d - 1)) / d) (omega arith) (omega arith) (omega arith) (omega arith) in
        let r = all_below_lem ((t.wide + (t.step - 1)) / t.step) (λ i. fine (i * t.step)) (all_below_lem ((t.bottom - t.top + (t.step - 1)) / t.step) (λ m. all_below ((t.wide + (t.step - 1)) / t.step) (λ i.
        block_fine (saved_ref planes (saved_at t s.reference.0 (t.top + m * t.step) (i * t.step)) s.dir) (saved_mv planes (saved_at t s.reference.0 (t.top + m * t.step) (i * t.step)) s.dir))) h j p) (x / t.step) l in
        ap fine (sym e) ∙ r

    -- and a sampled row
    pub block_fine_lem : (planes : List ℤ) → row_fine t planes s ≡ true → (y x : ℕ) → t.top ≤ y → y < t.bottom → y % t.step ≡ 0 → x < t.wide → x % t.step ≡ 0
        → block_fine (saved_ref planes (saved_at t s.reference.0 y x) s.dir) (saved_mv planes (saved_at t s.reference.0 y x) s.dir) ≡ true
    block_fine_lem planes h y x a b c w z =
        let e : t.top + (y - t.top) / t.step * t.step ≡ y =
        sides t k (λ B d. y % d ≡ 0 → t.top % B ≡ 0 → t.top + (y - t.top) / d * d ≡ y) (λ p q. omega arith) (λ p q. omega arith) (λ p q. omega arith) (λ p q. omega arith) c k.top_on_block in
        let l : (y - t.top) / t.step < (t.bottom - t.top + (t.step - 1)) / t.step =
        sides t k (λ B d. (y - t.top) / d < (t.bottom - t.top + (d - 1)) / d) (omega arith) (omega arith) (omega arith) (omega arith) in
        subst (λ (i : ℕ). block_fine (saved_ref planes (saved_at t s.reference.0 i x) s.dir) (saved_mv planes (saved_at t s.reference.0 i x) s.dir) ≡ true) e
        (sampled_fine planes h ((y - t.top) / t.step) x l w z)

    pub owned_project_source : (traj : Bool) (present : List Bool) (planes : List ℤ)
        → ((not (eq_z s.ref2cur (negsuc 31)) && get_or present s.reference.0 false) ≡ true → row_fine t planes s ≡ true)
        → Owned (owns t) (project_source t traj present planes s)
    unfolding project_source
    owned_project_source traj present planes f = (
      λ e j p i q.
          let w : t.left - t.edge + i * t.step < min (t.right + t.edge) t.wide = turn_below t.step (t.left - t.edge) (min (t.right + t.edge) t.wide) i (step_some t k) q in
          let z : (t.left - t.edge + i * t.step) % t.step ≡ 0 =
          sides t k (λ B d. t.left % B ≡ 0 → t.edge % d ≡ 0 → (t.left - t.edge + i * d) % d ≡ 0) (λ a b. omega arith) (λ a b. omega arith) (λ a b. omega arith) (λ a b. omega arith) k.start k.edge_on_step in
          let x : ℕ = t.left - t.edge + i * t.step in
          owned_sample traj planes (t.top + j * t.step) x (omega arith) (sampled_fine planes (f e) j x p (omega arith) z),
      λ e. tt,
    )
