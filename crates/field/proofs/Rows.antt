-- The rows of emptying and of the copy from below, as code has them. Assumes nothing.
use Rattle.std.proofs.Common.{◌≡◌, refl, ◌∙◌, ℕ, ◌+◌, ◌%◌, ◌≤◌, arith, pos}
use Rattle.levels.specs.Vector.{empty}
use Rattle.loops.proofs.Turns.{row_within}
use Rattle.store.specs.Lent.{filled}
use Rattle.store.specs.Store.{Store, field_mvs, with_field}
use Rattle.store.specs.Program.{Prog, run, write, each}
use Rattle.store.proofs.Lent.{two}
use Rattle.store.proofs.Rows.{row_filled}
use Rattle.tile.specs.Geometry.{Geometry}
use Rattle.tile.specs.Layout.{row_cells, place, field_at}
use Rattle.tile.specs.Owner.{owns}
use Rattle.tile.specs.Sound.{Sound}
use Rattle.tile.proofs.Owner.{own_cell, mine_in}
use Rattle.tile.proofs.Places.{row_low, cells_low}
use Rattle.field.specs.declared.Field.{Field}
use Rattle.field.specs.Lent.{with_vectors}

module _ (t : Geometry) where
  abbrev pub emptied_row : ℕ → Prog
  emptied_row y = each t.left t.right (λ x. write field_mvs (field_at t y x) empty)

  -- column x of the row that begins at column 0
  pub field_is_row : (y x : ℕ) → field_at t y x ≡ field_at t y 0 + x
  unfolding field_at place
  field_is_row y x = omega arith

  module _ (k : Sound t) (y r : ℕ) (e : r ≡ field_at t y 0) where
    -- a row of the superblock row, up to column x, and the store's end
    pub row_low_at : (x : ℕ) → x ≤ t.stride → (r + x ≤ t.offset + row_cells t) × (t.offset + row_cells t ≤ 67371008)
    unfolding field_at place row_cells
    row_low_at x h = (omega (arith, e, row_within (y % t.side) t.side t.stride (row_low t k y)), cells_low t k)

    pub row_emptied : (f g : Field) → g.y.now ≡ filled (pos 2097152) (r + t.left) (r + t.right) f.y.now → g.x.now ≡ filled (pos 0) (r + t.left) (r + t.right) f.x.now
        → (s : Store) → with_vectors s g ≡ run (owns t) (emptied_row y) (with_vectors s f)
    row_emptied f g p q s =
        row_filled field_mvs (λ s l. with_field s l.y l.x s.field_ref) (λ s l i v. refl) (owns t) (field_at t y) empty r t.left t.right
        (λ x b c. ((own_cell t k y x (mine_in t k x b c)).0, field_is_row y x ∙ rw e refl)) (two f.y.now f.x.now) g.y.now g.x.now p q s
