-- The passes over the field write no trajectory. Assumes nothing.
use Rattle.std.proofs.Common.{ℕ, ℤ}
use Rattle.levels.specs.declared.Mv.{Mv}
use Rattle.store.proofs.Keeps.{Keeps}
use Rattle.tile.specs.Geometry.{Geometry}
use Rattle.field.specs.Field.{copy_above, empty_field, project_tip, tip_projection, fill_hole, fill_around, fill_holes, smooth_cell, smooth_block, smoothen, put_gaps_proj, gap_proj, fill_gap_proj}

module _ (Q : Mv → Type 0) (t : Geometry) where
  pub keeps_copy_above : Keeps Q (copy_above t)
  unfolding copy_above
  keeps_copy_above r x v b = (tt, tt)

  pub keeps_empty_field : Keeps Q (empty_field t)
  unfolding empty_field
  keeps_empty_field y x = tt

  pub keeps_tip_projection : (delta : ℤ) → Keeps Q (tip_projection t delta)
  unfolding tip_projection project_tip
  keeps_tip_projection delta sx y x v = (λ e b. (tt, tt), λ e. tt)

  keeps_fill_hole : (delta : ℤ) (v : Mv) (y x : ℕ) → Keeps Q (fill_hole t delta v y x)
  unfolding fill_hole
  keeps_fill_hole delta v y x u = (λ e. (tt, tt), λ e. tt)

  pub keeps_fill_holes : (delta : ℤ) → Keeps Q (fill_holes t delta)
  unfolding fill_holes fill_around
  keeps_fill_holes delta sx y x v = (λ e. ((λ q. keeps_fill_hole delta v _ _, λ q. tt), ((λ q. keeps_fill_hole delta v _ _, λ q. tt), ((λ q. keeps_fill_hole delta v _ _, λ q. tt), (λ q. keeps_fill_hole delta v _ _, λ q. tt)))), λ e. tt)

  pub keeps_smoothen : (delta : ℤ) → Keeps Q (smoothen t delta)
  unfolding smoothen smooth_block smooth_cell
  keeps_smoothen delta sx sy was g y x = (tt, tt)

  keeps_put_gaps_proj : (y x : ℕ) (v : Mv) (r : ℕ) (a b c : Mv) → Keeps Q (put_gaps_proj t y x v r a b c)
  unfolding put_gaps_proj
  keeps_put_gaps_proj y x v r a b c = ((tt, tt), ((tt, tt), (tt, tt)))

  pub keeps_fill_gap_proj : Keeps Q (fill_gap_proj t)
  unfolding fill_gap_proj gap_proj
  keeps_fill_gap_proj sx y x v = search keeps_put_gaps_proj depth 40
