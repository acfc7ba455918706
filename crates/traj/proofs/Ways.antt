-- The ways through the programs of gap filling, as code has them: the numbers that it computed are given by their equations, and so is what its callee ensures. Assumes nothing.
use Rattle.std.proofs.Common.{◌≡◌, refl, sym, ap, ◌∙◌, Bool, true, false, ◌&&◌, ℕ, ◌+◌, ◌/◌, ◌<◌, ℤ, pos, get_or}
use Rattle.levels.specs.declared.Mv.{Mv}
use Rattle.mv.specs.Sums.{is_empty, no_sum, added, gap_of}
use Rattle.store.specs.Store.{Store, trajs, vec, wr}
use Rattle.store.specs.Program.{Prog, run, write, cell_if}
use Rattle.store.specs.declared.Pairs.{Pairs}
use Rattle.store.specs.Lent.{with_trajs}
use Rattle.tile.specs.Geometry.{Geometry}
use Rattle.tile.specs.Layout.{traj_at}
use Rattle.tile.specs.Owner.{own_block, owns}
use Rattle.tile.specs.Passes.{has_right, has_below}
use Rattle.tile.specs.Sound.{Sound, InTile, Sample, Gaps}
use Rattle.tile.proofs.Owner.{mine_in, own_traj}
use Rattle.tile.proofs.Samples.{right_two, below_two, both_two}
use Rattle.traj.specs.Traj.{put_gaps_traj, gap_traj}
use Rattle.traj.specs.Code.{cell_or}

-- trajectory i
abbrev pub cell_of : Pairs ℤ → ℕ → Mv
cell_of l i = vec (get_or l.y.now i (pos 0)) (get_or l.x.now i (pos 0))

-- the lists with a trajectory set
abbrev pub Set : Pairs ℤ → Pairs ℤ → ℕ → Mv → Type 0
Set m l i v = (s : Store) → with_trajs s m ≡ wr (with_trajs s l) trajs i v

beside_run : (t : Geometry) (l : Pairs ℤ) (i : ℕ) (f : Mv → Prog) (there : Bool) → (there ≡ true → owns t trajs i ≡ true) → (s : Store)
    → run (owns t) (cell_if there trajs i f) (with_trajs s l) ≡ run (owns t) (f (cell_or there l i)) (with_trajs s l)
beside_run t l i f true o s = rw (o refl)
beside_run t l i f false o s = refl

module _ (t : Geometry) (k : Sound t) (n : ℕ) (low : n < 7) where
  put_on : (y x : ℕ) → own_block t (x / t.block + 1) ≡ true → (l m : Pairs ℤ) (i : ℕ) (v w : Mv) → i ≡ traj_at t n y x → v ≡ w → Set m l i v
      → (s : Store) → with_trajs s m ≡ run (owns t) (write trajs (traj_at t n y x) w) (with_trajs s l)
  put_on y x o l m i v w at ve p s = p s ∙ rw (at, ve) (rw (own_traj t k n y x low o))

  -- the three cells between sampled ones
  pub gaps_on : (y x : ℕ) → Gaps t y x → (l : Pairs ℤ) (v a b c : Mv) (i₁ i₂ i₃ : ℕ) (v₁ v₂ v₃ : Mv) (n₁ n₂ n₃ : Pairs ℤ)
      → i₁ ≡ traj_at t n y (x + 1) → i₂ ≡ traj_at t n (y + 1) x → i₃ ≡ traj_at t n (y + 1) (x + 1)
      → v₁ ≡ gap_of (added a (added v no_sum)) → v₂ ≡ gap_of (added b (added v no_sum)) → v₃ ≡ gap_of (added c (added b (added a (added v no_sum))))
      → Set n₁ l i₁ v₁ → Set n₂ n₁ i₂ v₂ → Set n₃ n₂ i₃ v₃
      → (s : Store) → with_trajs s n₃ ≡ run (owns t) (put_gaps_traj t n y x v a b c) (with_trajs s l)
  unfolding put_gaps_traj
  gaps_on y x g l v a b c i₁ i₂ i₃ v₁ v₂ v₃ n₁ n₂ n₃ p₁ p₂ p₃ q₁ q₂ q₃ h₁ h₂ h₃ s =
      put_on (y + 1) (x + 1) g.right n₂ n₃ i₃ v₃ _ p₃ q₃ h₃ s
      ∙ ap (run (owns t) (write trajs (traj_at t n (y + 1) (x + 1)) (gap_of (added c (added b (added a (added v no_sum))))))) (put_on (y + 1) x g.here n₁ n₂ i₂ v₂ _ p₂ q₂ h₂ s
      ∙ ap (run (owns t) (write trajs (traj_at t n (y + 1) x) (gap_of (added b (added v no_sum))))) (put_on y (x + 1) g.right l n₁ i₁ v₁ _ p₁ q₁ h₁ s))

  module _ (sx xend y x : ℕ) (h : Sample t sx xend y x) (two : t.step ≡ 2) (l : Pairs ℤ) where
    in_own : (b a : ℕ) → InTile t b a → owns t trajs (traj_at t n b a) ≡ true
    in_own b a q = own_traj t k n b a low (mine_in t k a q.left q.right)

    -- the first two neighbours, and what is left of the program after each
    abbrev va : Mv
    va = cell_or (has_right t xend x) l (traj_at t n y (x + 2))

    abbrev vb : Mv
    vb = cell_or (has_below t y) l (traj_at t n (y + 2) x)

    abbrev from_c : Mv → Mv → Mv → Prog
    from_c a b c = put_gaps_traj t n y x (cell_of l (traj_at t n y x)) a b c

    abbrev from_b : Mv → Mv → Prog
    from_b a b = cell_if (has_right t xend x && has_below t y) trajs (traj_at t n (y + 2) (x + 2)) (from_c a b)

    abbrev from_a : Mv → Prog
    from_a a = cell_if (has_below t y) trajs (traj_at t n (y + 2) x) (from_b a)

    gap_reads : (s : Store) → is_empty (cell_of l (traj_at t n y x)) ≡ false
        → run (owns t) (gap_traj t n sx xend y x) (with_trajs s l) ≡ run (owns t) (cell_if (has_right t xend x) trajs (traj_at t n y (x + 2)) from_a) (with_trajs s l)
    unfolding gap_traj
    gap_reads s e = rw (in_own y x h.cell, e)

    module _ (i : ℕ) (at : i ≡ traj_at t n y x) where
      pub gap_off : is_empty (cell_of l i) ≡ true → (s : Store) → with_trajs s l ≡ run (owns t) (gap_traj t n sx xend y x) (with_trajs s l)
      unfolding gap_traj
      gap_off e s = rw (in_own y x h.cell, rw at at e)

      pub gap_on : is_empty (cell_of l i) ≡ false → (v a b c : Mv) (right below : Bool) (m : Pairs ℤ) → v ≡ cell_of l i → right ≡ has_right t xend x → below ≡ has_below t y
          → a ≡ cell_or right l (traj_at t n y (x + 2)) → b ≡ cell_or below l (traj_at t n (y + 2) x)
          → c ≡ cell_or (right && below) l (traj_at t n (y + 2) (x + 2))
          → ((s : Store) → with_trajs s m ≡ run (owns t) (put_gaps_traj t n y x v a b c) (with_trajs s l))
          → (s : Store) → with_trajs s m ≡ run (owns t) (gap_traj t n sx xend y x) (with_trajs s l)
      gap_on e v a b c right below m ve re we ae be ce p s =
          p s
          ∙ rw (ae, be, ce, ve, re, we, at) (sym (gap_reads s (rw at at e)
          ∙ beside_run t l (traj_at t n y (x + 2)) from_a (has_right t xend x) (λ q. in_own y (x + 2) (right_two t k sx xend y x h two q)) s
          ∙ beside_run t l (traj_at t n (y + 2) x) (from_b va) (has_below t y) (λ q. in_own (y + 2) x (below_two t k sx xend y x h two q)) s
          ∙ beside_run t l (traj_at t n (y + 2) (x + 2)) (from_c va vb) (has_right t xend x && has_below t y) (λ q. in_own (y + 2) (x + 2) (both_two t k sx xend y x h two q)) s))
