-- Choices among whole numbers, and signs. Assumes nothing.
use Rattle.std.specs.Prelude.{Bool, true, false, eqb, ℕ, ℤ, pos, negsuc, neg_ℤ}
use Rattle.std.specs.Int.Signed.{lt_z}

-- x where the test holds, else y: `cond` at whole numbers, which the proofs' search knows
abbrev pub pick_z : Bool → ℤ → ℤ → ℤ
pick_z true x y = x
pick_z false x y = y

-- the smaller
abbrev pub min_z : ℤ → ℤ → ℤ
min_z a b = pick_z (lt_z a b) a b

-- the larger
abbrev pub max_z : ℤ → ℤ → ℤ
max_z a b = pick_z (lt_z a b) b a

-- v clipped to lo .. hi
abbrev pub clip_z : ℤ → ℤ → ℤ → ℤ
clip_z lo hi v = pick_z (lt_z v lo) lo (pick_z (lt_z hi v) hi v)

-- whether a is b
abbrev pub eq_z : ℤ → ℤ → Bool
eq_z (pos a) (pos b) = eqb a b
eq_z (pos a) (negsuc b) = false
eq_z (negsuc a) (pos b) = false
eq_z (negsuc a) (negsuc b) = eqb a b

-- the magnitude n with the sign of z; the sign of 0 is that of a positive number
abbrev pub with_sign : ℤ → ℕ → ℤ
with_sign (pos m) n = pos n
with_sign (negsuc m) n = neg_ℤ (pos n)
