-- What the program writes (01, "Table to be proved"), as a list of bytes. Assumes nothing.
use Rattle.std.specs.Prelude.{◌≡◌, Bool, cond, not, ◌||◌, is_err, nat_eq, List, [], ◌∷◌, ◌++◌, ℕ, ◌*◌, eqb, ℤ, length, codes, decimal}
use Rattle.std.specs.Fmt.{signed_decimal}
use Rattle.intops.specs.Choice.{eq_z}
use Rattle.levels.specs.declared.Mv.{Mv}
use Rattle.levels.specs.Vector.{empty}
use Rattle.levels.specs.Answer.{Said}
use Rattle.mv.specs.Packing.{unpacked}
use Rattle.text.specs.SignedByte.{signed_byte}
use Rattle.unpack.specs.declared.Turn.{Turn}

-- the line `empty`
abbrev pub empty_line : List ℕ
empty_line = codes "empty\n"

-- the line `short`
abbrev pub short_line : List ℕ
short_line = codes "short\n"

-- the line `refused n`
abbrev pub refused_line : ℕ → List ℕ
refused_line n = codes "refused " ++ decimal n ++ codes "\n"

-- the line of two numbers: y, a space, x, a line feed
unfoldable pub numbers_line : ℤ → ℤ → List ℕ
numbers_line y x = signed_decimal y ++ codes " " ++ signed_decimal x ++ codes "\n"

-- the line of a vector: `empty` by its y
abbrev pub vector_line : Mv → List ℕ
vector_line v = cond (eq_z v.y empty.y) empty_line (numbers_line v.y v.x)

-- the line of an answer: refusal 0 is none
unfoldable pub line_of : Said → List ℕ
line_of s = cond (eqb s.refusal 0) (vector_line s.vector) (refused_line s.refusal)

-- the line of two bytes, y first, by what unpacking says of them
unfoldable pub pair_line : ℕ → ℕ → List ℕ
pair_line y x = line_of (unpacked (record { y = signed_byte y; x = signed_byte x }))

-- a line for each pair of bytes, and `short` for a lone last byte
unfoldable pub text : List ℕ → List ℕ
text [] = []
text (b ∷ []) = short_line
text (y ∷ x ∷ rest) = pair_line y x ++ text rest

-- is the turn the run's last, where size is the buffer's length? A write that fails ends the run, and a read that is not full is the input's end or a failed read
abbrev pub is_last : Turn → ℕ → Bool
is_last t size = is_err t.written || not (nat_eq t.read.bytes size)

-- ---- what is proved of it besides (proofs/Text.antt)

-- the text of an input is that of its parts, where each part but the last has whole pairs: so the program may take it in parts of an even size
abbrev pub InParts : Type 0
InParts = (pairs : ℕ) (a b : List ℕ) → length a ≡ 2 * pairs → text (a ++ b) ≡ text a ++ text b

-- hex 05 E0 80 80 80 00 prints `5 -32`, `empty`, `refused 2`
abbrev pub Example : Type 0
Example =
    text (0x05 ∷ 0xE0 ∷ 0x80 ∷ 0x80 ∷ 0x80 ∷ 0x00 ∷ [])
    ≡ codes "5 -32\nempty\nrefused 2\n"
