-- A field's cells as text (docs/FRAME_FILE.md, "Text"), as a list of bytes. Assumes nothing.
use Rattle.std.specs.Prelude.{cond, List, ◌++◌, ℕ, ◌+◌, ℤ, pos, get_or, codes, decimal}
use Rattle.intops.specs.Choice.{eq_z}
use Rattle.levels.specs.Vector.{empty}
use Rattle.std.specs.Fmt.{signed_decimal}
use Rattle.text.specs.Joined.{joined}

-- `row column `
unfoldable pub place_text : ℕ → ℕ → List ℕ
place_text row col = decimal row ++ codes " " ++ decimal col ++ codes " "

-- `y x reference` and a line feed
unfoldable pub vector_text : ℤ → ℤ → ℕ → List ℕ
vector_text y x reference = signed_decimal y ++ codes " " ++ signed_decimal x ++ codes " " ++ decimal reference ++ codes "\n"

-- `empty` and a line feed
abbrev pub empty_text : List ℕ
empty_text = codes "empty\n"

-- the line of a cell: empty by its y
unfoldable pub cell_line : ℕ → ℕ → ℤ → ℤ → ℕ → List ℕ
cell_line row col y x reference = place_text row col ++ cond (eq_z y empty.y) empty_text (vector_text y x reference)

-- the line of a column's cell, in the row of cells that begins at `base` of the field
abbrev pub line_at : List ℤ → List ℤ → List ℕ → ℕ → ℕ → ℕ → List ℕ
line_at ys xs refs base row col = cell_line row col (get_or ys (base + col) (pos 0)) (get_or xs (base + col) (pos 0)) (get_or refs (base + col) 0)

-- a row's lines, from left to right
unfoldable pub row_text : List ℤ → List ℤ → List ℕ → ℕ → ℕ → ℕ → List ℕ
row_text ys xs refs base row wide = joined (line_at ys xs refs base row) wide 0
