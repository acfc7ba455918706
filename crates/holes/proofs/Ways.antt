-- The ways through the programs of hole filling, as code has them. Assumes nothing.
use Rattle.std.proofs.Common.{◌≡◌, ap, ◌∙◌, Bool, true, false, ℕ, ◌+◌, ◌-◌, ℤ}
use Rattle.levels.specs.declared.Mv.{Mv}
use Rattle.mv.specs.Sums.{is_empty}
use Rattle.store.specs.Store.{Store, field_mvs, field_refs, byte_cell, rd, wr}
use Rattle.store.specs.Program.{Prog, run, when}
use Rattle.tile.specs.Geometry.{Geometry}
use Rattle.tile.specs.Layout.{field_at}
use Rattle.tile.specs.Owner.{owns}
use Rattle.tile.specs.Passes.{has_left, has_right, has_above, has_below}
use Rattle.tile.specs.Sound.{Sound, InTile}
use Rattle.tile.proofs.Owner.{own_cell, mine_in}
use Rattle.field.specs.declared.Field.{Field}
use Rattle.field.specs.Lent.{IsSameField, stored}
use Rattle.field.proofs.Borrows.{same_field}
use Rattle.field.specs.Field.{as_byte, fill_hole, fill_around}

module _ (t : Geometry) (k : Sound t) (y x : ℕ) (h : InTile t y x) (i : ℕ) (at : i ≡ field_at t y x) (delta : ℤ) (s : Store) where
  pub hole_off : (v : Mv) → is_empty (rd s field_mvs i) ≡ false → run (owns t) (fill_hole t delta v y x) s ≡ s
  unfolding fill_hole
  hole_off v e = let o = own_cell t k y x (mine_in t k x h.left h.right) in rw (o.0, rw at at e)

  pub hole_on : (v : Mv) (r : ℕ) → is_empty (rd s field_mvs i) ≡ true → r ≡ as_byte delta → wr (wr s field_mvs i v) field_refs i (byte_cell r) ≡ run (owns t) (fill_hole t delta v y x) s
  unfolding fill_hole
  hole_on v r e re = let o = own_cell t k y x (mine_in t k x h.left h.right) in rw (re, at) (rw (o.0, o.1, rw at at e))

  pub around_off : (sx xend : ℕ) → is_empty (rd s field_mvs i) ≡ true → run (owns t) (fill_around t delta sx xend y x) s ≡ s
  unfolding fill_around
  around_off sx xend e = let o = own_cell t k y x (mine_in t k x h.left h.right) in rw (o.0, rw at at e)

  -- the neighbours, one after another
  pub around_on : (sx xend : ℕ) (v : Mv) → is_empty (rd s field_mvs i) ≡ false → rd s field_mvs i ≡ v
      → run (owns t) (fill_around t delta sx xend y x) s
      ≡ run (owns t) (when (has_below t y) (fill_hole t delta v (y + t.step) x)) (run (owns t) (when (has_above t y) (fill_hole t delta v (y - t.step) x))
      (run (owns t) (when (has_right t xend x) (fill_hole t delta v y (x + t.step))) (run (owns t) (when (has_left t sx x) (fill_hole t delta v y (x - t.step))) s)))
  unfolding fill_around
  around_on sx xend v e ve = let o = own_cell t k y x (mine_in t k x h.left h.right) in rw (← ve, at) (rw (o.0, rw at at e))

-- a program that was run where a test held
pub record Step (t : Geometry) (b : Bool) (p : Prog) (f g : Field) : Type 0 where
  pub same : IsSameField g f
  pub stored : (s : Store) → stored s g ≡ run (owns t) (when b p) (stored s f)

module _ (t : Geometry) (b : Bool) (p : Prog) (f g : Field) where
  pub step_on : b ≡ true → (h : Field) → g ≡ h → IsSameField h f → ((s : Store) → stored s h ≡ run (owns t) p (stored s f)) → Step t b p f g
  step_on e h w q r = record { same = rw w q; stored = λ s. rw e (ap (stored s) w ∙ r s) }

  pub step_off : b ≡ false → g ≡ f → Step t b p f g
  step_off e w = record { same = rw w (same_field f); stored = λ s. rw e (ap (stored s) w) }
