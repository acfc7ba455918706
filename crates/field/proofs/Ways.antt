-- The ways through the cells' programs, as code has them. Assumes nothing.
use Rattle.std.proofs.Common.{◌≡◌, true, false, ℕ, ◌+◌, ◌-◌, ◌*◌, ◌/◌, ◌<◌, ℤ, nat_abs}
use Rattle.levels.specs.declared.Mv.{Mv}
use Rattle.mv.specs.Sums.{is_empty}
use Rattle.store.specs.Store.{Store, field_mvs, field_refs, byte_cell, rd, wr}
use Rattle.store.specs.Program.{Prog, run, cell, ◌>>=◌}
use Rattle.tile.specs.Geometry.{Geometry}
use Rattle.tile.specs.Layout.{field_at}
use Rattle.tile.specs.Owner.{own_block, owns}
use Rattle.tile.specs.Sound.{Sound, InTile}
use Rattle.tile.proofs.Owner.{own_cell, mine_in}
use Rattle.field.specs.Field.{as_byte, projected, put, project_tip}
use Rattle.field.proofs.Owned.{own_above}

-- a cell's copy
abbrev pub copy_prog : Geometry → ℕ → ℕ → Prog
copy_prog t r x = do
  v ← cell field_mvs (field_at t (t.side - 3 + r) x)
  b ← cell field_refs (field_at t (t.side - 3 + r) x)
  put (r * t.stride + x) v (nat_abs b.y)

pub copied_on : (t : Geometry) (k : Sound t) → t.offset ≡ 3 * t.stride → (r x : ℕ) → r < 3 → own_block t (x / t.block + 1) ≡ true → (i : ℕ) → i ≡ field_at t (t.side - 3 + r) x
    → (s : Store) → run (owns t) (copy_prog t r x) s ≡ wr (wr s field_mvs (r * t.stride + x) (rd s field_mvs i)) field_refs (r * t.stride + x) (rd s field_refs i)
copied_on t k e r x h m i at s =
    let o = own_cell t k (t.side - 3 + r) x m in let q = own_above t k r x h e m in
    rw at (rw (o.0, o.1, q.0, q.1))

module _ (t : Geometry) (k : Sound t) (y x : ℕ) (h : InTile t y x) (i : ℕ) (at : i ≡ field_at t y x) (delta : ℤ) (s : Store) where
  pub tip_off : is_empty (rd s field_mvs i) ≡ true → run (owns t) (project_tip t delta y x) s ≡ s
  unfolding project_tip
  tip_off e = let o = own_cell t k y x (mine_in t k x h.left h.right) in rw (o.0, rw at at e)

  pub tip_on : (v w : Mv) (r : ℕ) → is_empty (rd s field_mvs i) ≡ false → rd s field_mvs i ≡ v → w ≡ projected delta (rd s field_refs i).y v → r ≡ as_byte delta
      → wr (wr s field_mvs i w) field_refs i (byte_cell r) ≡ run (owns t) (project_tip t delta y x) s
  unfolding project_tip
  tip_on v w r e ve we re = let o = own_cell t k y x (mine_in t k x h.left h.right) in rw (we, re, ← ve, at) (rw (o.0, o.1, rw at at e))
