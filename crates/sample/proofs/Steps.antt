-- The ways through the programs of a saved block, as code has them: the numbers that it computed are given by their equations, and so is what its callee ensures. Assumes nothing.
use Rattle.std.proofs.Common.{◌≡◌, refl, ap, ◌∙◌, Bool, true, false, not, ◌&&◌, List, ℕ, ℤ, negsuc, neg_ℤ, nat_abs, None, Option, Some}
use Rattle.intops.specs.Choice.{eq_z}
use Rattle.levels.specs.declared.Mv.{Mv}
use Rattle.entry.specs.declared.Source.{Source}
use Rattle.store.specs.declared.Pairs.{Pairs}
use Rattle.store.specs.Lent.{stored_trajs}
use Rattle.store.specs.Store.{Store}
use Rattle.store.specs.Program.{run, when}
use Rattle.tile.specs.Geometry.{Geometry}
use Rattle.tile.specs.Layout.{on_step, cells_of, moved}
use Rattle.tile.specs.Owner.{owns}
use Rattle.field.specs.declared.Field.{Field}
use Rattle.field.specs.Lent.{store_of}
use Rattle.traj.specs.Traj.{check_traj_intersect}
use Rattle.project.specs.Project.{saved_at, saved_ref, saved_mv, ref2idx, to_source, to_reference, right_side, lands, takes, put_trajs, put_mv, project_mv, sample}
use Rattle.saved.specs.declared.Block.{Block}
use Rattle.saved.specs.Code.{saved_of}
use Rattle.saved.proofs.Fine.{none_read, block_read}
use Rattle.sample.specs.Code.{SameNumbers}

-- a saved vector of (y, x), on two stores
module _ (t : Geometry) (traj : Bool) (v : Mv) (y x : ℕ) (s : Source) (b : ℕ) (u : Store) where
  pub side_off : right_side s b ≡ false → u ≡ run (owns t) (project_mv t traj s b v y x) u
  unfolding project_mv
  side_off h = rw h

  module _ (h : right_side s b ≡ true) (w : Mv) (e : w ≡ to_source s b v) where
    pub lands_off : lands t y x w ≡ false → u ≡ run (owns t) (project_mv t traj s b v y x) u
    unfolding project_mv
    lands_off l = rw (h, ← e, l)

    pub lands_on : lands t y x w ≡ true → (y₁ x₁ : ℕ) → on_step t (moved y (neg_ℤ (cells_of w.y))) ≡ y₁ → on_step t (moved x (neg_ℤ (cells_of w.x))) ≡ x₁ → (u' : Store)
        → u' ≡ run (owns t) (put_mv t traj s b v y x y₁ x₁) u → u' ≡ run (owns t) (project_mv t traj s b v y x) u
    unfolding project_mv
    lands_on l y₁ x₁ ye xe u' p = p ∙ rw (h, ← e, l, ye, xe)

-- what the code has read of a sampled block
abbrev pub saved_in : Geometry → List ℤ → Source → ℕ → ℕ → Option Block
saved_in t planes s y x = saved_of (saved_ref planes (saved_at t s.reference.0 y x) s.dir) (saved_mv planes (saved_at t s.reference.0 y x) s.dir)

module _ (t : Geometry) (traj : Bool) (planes : List ℤ) (s : Source) (y x : ℕ) where
  pub sample_off : saved_in t planes s y x ≡ None → (u : Store) → u ≡ run (owns t) (sample t traj planes s y x) u
  unfolding sample
  sample_off h u = rw (none_read (saved_ref planes (saved_at t s.reference.0 y x) s.dir) (saved_mv planes (saved_at t s.reference.0 y x) s.dir) h)

  pub sample_on : (b : Block) → saved_in t planes s y x ≡ Some b → (f : Field) (ts ms ts' ms' : Pairs ℤ)
      → ((u : Store) → stored_trajs u ts' ms' ≡ run (owns t) (when (traj && not (eq_z (ref2idx s b.reference) (negsuc 0))) (check_traj_intersect t s.reference.0 (nat_abs (ref2idx s b.reference)) y x b.mv)) (stored_trajs u ts ms))
      → (u' : Store) → u' ≡ run (owns t) (project_mv t traj s b.reference b.mv y x) (store_of f ts' ms') → u' ≡ run (owns t) (sample t traj planes s y x) (store_of f ts ms)
  unfolding sample
  sample_on b h f ts ms ts' ms' p u' q =
      let r = block_read (saved_ref planes (saved_at t s.reference.0 y x) s.dir) (saved_mv planes (saved_at t s.reference.0 y x) s.dir) b h in
      q ∙ ap (run (owns t) (project_mv t traj s b.reference b.mv y x)) (p (store_of f ts ms)) ∙ rw (r.0, r.1, r.2)

-- a sampled block's program doesn't read the source's distance from the frame
abbrev at_distance : Source → ℤ → Source
at_distance s d = record { reference = record { 0 = s.reference.0 }; tgt = s.tgt; dir = s.dir; ref2cur = d; ref2ref = s.ref2ref; ref2idx = s.ref2idx; ref2sf0 = s.ref2sf0; ref2sf1 = s.ref2sf1 }

same_source : {u s : Source} → SameNumbers u s → u ≡ at_distance s u.ref2cur
same_source h = rw (← h.slot, ← h.tgt, ← h.dir, ← h.ref2ref, ← h.ref2idx, ← h.ref2sf0, ← h.ref2sf1)

module _ (t : Geometry) (traj : Bool) (planes : List ℤ) (y x : ℕ) where
  any_distance : (s : Source) (d : ℤ) → sample t traj planes (at_distance s d) y x ≡ sample t traj planes s y x
  unfolding sample project_mv put_mv put_trajs to_source to_reference right_side takes
  any_distance s d = refl

  pub same_sample : {u s : Source} → SameNumbers u s → sample t traj planes u y x ≡ sample t traj planes s y x
  same_sample {u} {s} h = ap (λ (v : Source). sample t traj planes v y x) (same_source h) ∙ any_distance s u.ref2cur
