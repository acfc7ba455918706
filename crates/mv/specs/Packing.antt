-- Packing and unpacking of a vector (01 "Packed vector"; refusal 2). Assumes nothing.
use Rattle.std.specs.Prelude.{◌≡◌, Bool, cond, ◌&&◌, ◌||◌, ℕ, zero, suc, ◌+◌, ◌-◌, ◌*◌, ◌/◌, ◌^◌, ◌≤◌, ◌<◌, ltb, leb, eqb, ℤ, pos, negsuc, nat_abs, ◌≤ℤ◌}
use Rattle.intops.specs.Choice.{with_sign, eq_z}
use Rattle.intops.specs.Bits.{highest_bit}
use Rattle.levels.specs.declared.Mv.{Mv}
use Rattle.levels.specs.declared.QMv.{QMv}
use Rattle.levels.specs.Vector.{empty, mark}
use Rattle.levels.specs.Answer.{Said, answered, refused}

-- the code of a magnitude with b: (magnitude - 16·2^b) / 2^b, the whole part, + 16·(b + 1)
abbrev pub code_at : ℕ → ℕ → ℕ
code_at b m = (m - 16 * 2 ^ b) / 2 ^ b + 16 * (b + 1)

-- a magnitude below 32 is its own code; otherwise b = (place of the highest one bit) - 4
unfoldable pub pack_code : ℕ → ℕ
pack_code m = cond (ltb m 32) m (code_at (highest_bit m - 4) m)

-- the first of the n magnitudes from m on whose code is c; m + n where none has it
unfoldable pub first_with : ℕ → ℕ → ℕ → ℕ
first_with c zero m = m
first_with c (suc n) m = cond (eqb (pack_code m) c) m (first_with c n (suc m))

-- unpacking gives the least magnitude of the code, of those below 2048
unfoldable pub unpack_mag : ℕ → ℕ
unpack_mag c = first_with c 2048 0

-- signs are kept; if a magnitude is 2048 or more, the mark
abbrev pub packed : Mv → QMv
packed mv =
    cond (leb 2048 (nat_abs mv.y) || leb 2048 (nat_abs mv.x)) mark
    (record { y = with_sign mv.y (pack_code (nat_abs mv.y)); x = with_sign mv.x (pack_code (nat_abs mv.x)) })

-- whether a byte is -128, the byte of the mark
abbrev pub is_mark_byte : ℤ → Bool
is_mark_byte z = eq_z z (negsuc 127)

-- the mark unpacks to empty; refusal 2: exactly one byte -128; signs are kept
abbrev pub unpacked : QMv → Said
unpacked q =
    cond (is_mark_byte q.y && is_mark_byte q.x) (answered empty)
    (cond (is_mark_byte q.y || is_mark_byte q.x) (refused 2)
    (answered (record { y = with_sign q.y (unpack_mag (nat_abs q.y)); x = with_sign q.x (unpack_mag (nat_abs q.x)) })))

-- ---- what is proved of them besides (proofs/Packing.antt)

-- what a code c and its least magnitude keep
pub record Least (c : ℕ) : Type 0 where
  pub below : unpack_mag c < 2048
  pub code : pack_code (unpack_mag c) ≡ c
  pub least : (m : ℕ) → m < 2048 → pack_code m ≡ c → unpack_mag c ≤ m

-- unpacking gives the least magnitude of its code: of each code, 0 to 127
abbrev pub UnpacksLeast : Type 0
UnpacksLeast = (c : ℕ) → c < 128 → Least c

-- both are signed bytes
pub record Bytes (q : QMv) : Type 0 where
  pub y_low : negsuc 127 ≤ℤ q.y
  pub y_high : q.y ≤ℤ pos 127
  pub x_low : negsuc 127 ≤ℤ q.x
  pub x_high : q.x ≤ℤ pos 127

-- packing what was unpacked gives the two bytes back, those of the mark too; where one alone is -128 unpacking is refused, and nothing is said
abbrev pub PacksBack : Type 0
PacksBack = (q : QMv) → Bytes q → (unpacked q).refusal ≡ 0 → packed (unpacked q).vector ≡ q

-- no byte of a vector with both magnitudes below 2048 is that of the mark
abbrev pub NeverMark : Type 0
NeverMark = (v : Mv) → nat_abs v.y < 2048 → nat_abs v.x < 2048 → ((packed v).y ≡ negsuc 127 → ⊥) × ((packed v).x ≡ negsuc 127 → ⊥)
