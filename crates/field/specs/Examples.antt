-- Two worked examples of the passes, each a statement that the definitions compute to (proofs/Examples.antt). Assumes nothing.
use Rattle.std.specs.Prelude.{◌≡◌, false, List, [], ◌∷◌, ◌++◌, map, ℕ, ◌+◌, ◌*◌, ℤ}
use Rattle.levels.specs.declared.Mv.{Mv}
use Rattle.levels.specs.Vector.{empty}
use Rattle.mv.specs.Sums.{is_empty}
use Rattle.store.specs.Store.{Store, field_mvs, field_refs, byte_cell, with_field, wr}
use Rattle.store.specs.Program.{run}
use Rattle.tile.specs.Geometry.{Geometry}
use Rattle.tile.specs.Owner.{owns}
use Rattle.field.specs.Field.{as_byte, fill_holes, fill_gap_proj}

-- the tile of a frame one cell high and at most 32 wide, which has superblock code 0: S = 8, B = 8, stride 32. In whole-frame mode its first cell is the field's
abbrev pub one_row : ℕ → ℕ → ℕ → Geometry
one_row step edge wide =
    record { side = 8; block = 8; edge = edge; step = step; wide = wide; high = 1; stride = 32; offset = 0; left = 0; right = wide; top = 0; bottom = 1 }

-- 64 pixels wide, step 1: a block of eight cells
abbrev pub eight_wide : Geometry
eight_wide = one_row 1 4 8

-- 24 pixels wide, step 2: of columns 0, 1 and 2 the first and the last are sampled, and column W is 3
abbrev pub three_wide : Geometry
three_wide = one_row 2 8 3

-- a store whose field begins with these vectors and reference bytes, and goes on in any way
abbrev pub field_of : List Mv → List ℕ → Store → Store
field_of vs rs s = with_field s (map (λ v. v.y) vs ++ s.field_y) (map (λ v. v.x) vs ++ s.field_x) (rs ++ s.field_ref)

-- the store with a vector and a byte at row y, column x
abbrev pub holding : ℕ → ℕ → Mv → ℕ → Store → Store
holding y x v r s = wr (wr s field_mvs (y * 32 + x) v) field_refs (y * 32 + x) (byte_cell r)

-- 01 "Hole filling ..: it works in place, so in a one-row block of 8, step 1, a lone vector at column 2 fills 1 and 3 to 7, never 0."
-- A cell that is filled has the distance as its byte; the other two keep theirs
abbrev pub FilledInPlace : Type 0
FilledInPlace =
    (v : Mv) (delta : ℤ) (r0 r1 r2 r3 r4 r5 r6 r7 : ℕ) (s : Store) → is_empty v ≡ false
    → run (owns eight_wide) (fill_holes eight_wide delta)
    (field_of (empty ∷ empty ∷ v ∷ empty ∷ empty ∷ empty ∷ empty ∷ empty ∷ []) (r0 ∷ r1 ∷ r2 ∷ r3 ∷ r4 ∷ r5 ∷ r6 ∷ r7 ∷ []) s)
    ≡ field_of (empty ∷ v ∷ v ∷ v ∷ v ∷ v ∷ v ∷ v ∷ []) (r0 ∷ as_byte delta ∷ r2 ∷ as_byte delta ∷ as_byte delta ∷ as_byte delta ∷ as_byte delta ∷ as_byte delta ∷ []) s

-- Gap filling where W and H are odd: a lone vector in the last column goes, with its byte, into column W and row H just past the frame, and nowhere else
abbrev pub FilledPastFrame : Type 0
FilledPastFrame =
    (v u : Mv) (r0 r1 r2 r3 : ℕ) (s : Store) → is_empty v ≡ false
    → let before = field_of (empty ∷ empty ∷ v ∷ u ∷ []) (r0 ∷ r1 ∷ r2 ∷ r3 ∷ []) s in
    run (owns three_wide) (fill_gap_proj three_wide) before ≡ holding 1 3 v r2 (holding 1 2 v r2 (holding 0 3 v r2 before))
