-- A field's cells as colours (docs/FRAME_FILE.md, "Picture"). Assumes nothing.
use Rattle.std.specs.Prelude.{◌≡◌, cond, ◌&&◌, List, [], ◌∷◌, ◌++◌, ℕ, ◌+◌, ◌-◌, ◌*◌, ◌/◌, ◌%◌, ◌<◌, eqb, ltb, ℤ, pos, nat_abs, get_or, codes, decimal}
use Rattle.std.specs.Int.Signed.{le_z, lt_z}
use Rattle.intops.specs.Choice.{eq_z}
use Rattle.levels.specs.Vector.{empty}
use Rattle.text.specs.Joined.{joined}
use Rattle.show.specs.declared.Colour.{Colour}

-- |y| + |x|
abbrev pub length_of : ℤ → ℤ → ℕ
length_of y x = nat_abs y + nat_abs x

-- a part of a quarter turn, 0 to 384; below 384 where it is used
abbrev pub part : ℕ → ℕ → ℕ
part n m = 384 * n / m

-- "right to down, down to left, left to up, up to right"
unfoldable pub hue_of : ℤ → ℤ → ℕ
hue_of y x =
    cond (le_z (pos 0) y && lt_z (pos 0) x) (part (nat_abs y) (length_of y x))
    (cond (lt_z (pos 0) y) (384 + part (nat_abs x) (length_of y x))
    (cond (lt_z x (pos 0)) (768 + part (nat_abs y) (length_of y x)) (1152 + part (nat_abs x) (length_of y x))))

abbrev pub colour : ℕ → ℕ → ℕ → Colour
colour r g b = record { red = r; green = g; blue = b }

-- "The six sixths of h run red, yellow, green, cyan, blue, magenta and back to red, 256 steps each."
unfoldable pub wheel : ℕ → Colour
wheel h =
    let up = h % 256 in let down = 255 - h % 256 in
    cond (ltb h 256) (colour 255 up 0)
    (cond (ltb h 512) (colour down 255 0)
    (cond (ltb h 768) (colour 0 255 up)
    (cond (ltb h 1024) (colour 0 down 255)
    (cond (ltb h 1280) (colour up 0 255) (colour 255 0 down)))))

-- "The brightness is 64 + m, at most 255"
unfoldable pub bright_of : ℕ → ℕ
bright_of m = cond (ltb m 191) (64 + m) 255

-- "each of the three channels (0 .. 255) is taken times the brightness over 255"
unfoldable pub dimmed : ℕ → ℕ → ℕ
dimmed c b = c * b / 255

abbrev pub dimmed_all : Colour → ℕ → Colour
dimmed_all c b = colour (dimmed c.red b) (dimmed c.green b) (dimmed c.blue b)

-- a still cell, (0, 0), is white
unfoldable pub colour_of : ℤ → ℤ → Colour
colour_of y x = cond (eqb (length_of y x) 0) (colour 255 255 255) (dimmed_all (wheel (hue_of y x)) (bright_of (length_of y x)))

-- "grey, 128 each, where (px + py) % 8 is below 4, and else black"
unfoldable pub hatch_of : ℕ → ℕ → Colour
hatch_of py px = cond (ltb ((px + py) % 8) 4) (colour 128 128 128) (colour 0 0 0)

-- a pixel of a cell: empty by its y
unfoldable pub pixel_of : ℤ → ℤ → ℕ → ℕ → Colour
pixel_of y x py px = cond (eq_z y empty.y) (hatch_of py px) (colour_of y x)

unfoldable pub pixel_bytes : Colour → List ℕ
pixel_bytes c = c.red ∷ c.green ∷ c.blue ∷ []

-- the bytes of a pixel, in the row of cells that begins at `base` of the field: a cell is 8 pixels wide
abbrev pub pixel_at : List ℤ → List ℤ → ℕ → ℕ → ℕ → List ℕ
pixel_at ys xs base py px = pixel_bytes (pixel_of (get_or ys (base + px / 8) (pos 0)) (get_or xs (base + px / 8) (pos 0)) py px)

-- a row's pixels, from left to right
unfoldable pub row_pixels : List ℤ → List ℤ → ℕ → ℕ → ℕ → List ℕ
row_pixels ys xs base py width = joined (pixel_at ys xs base py) width 0

-- the head of a PPM file: `P6`, the size, the greatest number of a channel
unfoldable pub head_text : ℕ → ℕ → List ℕ
head_text width height = codes "P6\n" ++ decimal width ++ codes " " ++ decimal height ++ codes "\n255\n"

-- ---- what is proved of it besides (proofs/Picture.antt)

-- grey of whatever brightness, black and white among them
abbrev pub Grey : Colour → Type 0
Grey c = (c.red ≡ c.green) × (c.green ≡ c.blue)

-- no vector but (0, 0) has the colour of an empty or of a still cell
abbrev pub NeverGrey : Type 0
NeverGrey = (y x : ℤ) → 0 < length_of y x → Grey (colour_of y x) → ⊥
