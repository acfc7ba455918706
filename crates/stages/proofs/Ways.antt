-- The ways through a load's groups of passes: what each pass does to the store before it is given. Assumes nothing.
use Rattle.std.proofs.Common.{◌≡◌, ap, ◌∙◌, true, false, not, ◌≤◌, arith, eqb, ltb, ne_eqb, lt-ltb}
use Rattle.store.specs.Store.{Store}
use Rattle.store.specs.Program.{Prog, run, when, each}
use Rattle.tile.specs.Geometry.{Geometry}
use Rattle.tile.specs.Owner.{owns}
use Rattle.field.specs.Field.{tip_projection, fill_holes, smoothen, fill_gap_proj}
use Rattle.traj.specs.Traj.{fill_gap_traj}
use Rattle.load.specs.Load.{Call, tip_passes, gap_passes}

module _ (t : Geometry) (c : Call) where
  abbrev pub tips_if : Prog
  tips_if = when (not (eqb c.setup.tip_frame_mode 0)) (tip_passes t c)

  module _ (some : c.setup.tip_frame_mode ≡ 0 → ⊥) (u u₁ : Store) (p₁ : u₁ ≡ run (owns t) (tip_projection t c.setup.tip.delta) u) where
    pub tips_one : c.holes ≡ false → u₁ ≡ run (owns t) tips_if u
    unfolding tip_passes
    tips_one h = p₁ ∙ rw (ne_eqb c.setup.tip_frame_mode 0 some, h)

    pub tips_all : c.holes ≡ true → (u₂ u₃ : Store) → u₂ ≡ run (owns t) (fill_holes t c.setup.tip.delta) u₁ → u₃ ≡ run (owns t) (smoothen t c.setup.tip.delta) u₂ → u₃ ≡ run (owns t) tips_if u
    unfolding tip_passes
    tips_all h u₂ u₃ p₂ p₃ =
        p₃ ∙ ap (run (owns t) (smoothen t c.setup.tip.delta)) (p₂ ∙ ap (run (owns t) (fill_holes t c.setup.tip.delta)) p₁) ∙ rw (ne_eqb c.setup.tip_frame_mode 0 some, h)

  abbrev pub gaps_if : Prog
  gaps_if = when (ltb 1 t.step) (gap_passes t c)

  pub gaps_on : 2 ≤ t.step → (u u₁ u₂ : Store) → u₁ ≡ run (owns t) (each 0 c.setup.n_refs (fill_gap_traj t)) u → u₂ ≡ run (owns t) (fill_gap_proj t) u₁ → u₂ ≡ run (owns t) gaps_if u
  unfolding gap_passes
  gaps_on h u u₁ u₂ p₁ p₂ = p₂ ∙ ap (run (owns t) (fill_gap_proj t)) p₁ ∙ rw (lt-ltb 1 t.step (omega arith))
