-- The numbers of a line. Assumes nothing.
use Rattle.std.specs.Prelude.{Result, Ok, Err, ◌⊎◌, Bool, not, List, ℕ, ◌≤◌, ◌<◌, ℤ, pos, negsuc, nat_abs, get_or, ◌≤ℤ◌}
use Rattle.std.specs.declared.num.TryFromIntError.{TryFromIntError}
use Rattle.intops.specs.Choice.{eq_z}
use Rattle.levels.specs.declared.OrderHint.{OrderHint}

-- the line's number k, counted from 0
abbrev pub at : List ℤ → ℕ → ℤ
at n k = get_or n k (pos 0)

-- the order hint a, and that of the number k
abbrev pub hint : ℕ → OrderHint
hint a = record { 0 = a }

abbrev pub hint_at : List ℤ → ℕ → OrderHint
hint_at n k = hint (nat_abs (at n k))

-- z is within low and high
pub record Inside (low high z : ℤ) : Type 0 where
  pub least : low ≤ℤ z
  pub most : z ≤ℤ high

-- z is a number of 32 bits, signed
abbrev pub Is32 : ℤ → Type 0
Is32 z = Inside (negsuc 2147483647) (pos 2147483647) z

-- z is a size: not negative; a line's numbers have 64 bits, signed
abbrev pub IsSize : ℤ → Type 0
IsSize z = Inside (pos 0) (pos 9223372036854775807) z

-- the numbers from a up to b are within low and high
abbrev pub AllInside : ℤ → ℤ → ℕ → ℕ → List ℤ → Type 0
AllInside low high a b n = (k : ℕ) → k < b → a ≤ k → Inside low high (at n k)

-- they are bytes
abbrev pub Bytes : ℕ → ℕ → List ℤ → Type 0
Bytes a b n = AllInside (pos 0) (pos 255) a b n

-- they are signed bytes
abbrev pub SignedBytes : ℕ → ℕ → List ℤ → Type 0
SignedBytes a b n = AllInside (negsuc 127) (pos 127) a b n

-- they are signed numbers of 32 bits
abbrev pub Signed32s : ℕ → ℕ → List ℤ → Type 0
Signed32s a b n = AllInside (negsuc 2147483647) (pos 2147483647) a b n

-- they are sizes
abbrev pub Sizes : ℕ → ℕ → List ℤ → Type 0
Sizes a b n = AllInside (pos 0) (pos 9223372036854775807) a b n

-- x is the number z as a value of its type, which `try_from` makes by `gives`; or z does not fit the type
abbrev pub IsNumber : {T : Type 0} → (ℤ → Result T TryFromIntError → Type 0) → ℤ → T → Type 0
IsNumber gives z x = ((e : TryFromIntError) × gives z (Err e)) ⊎ gives z (Ok x)

-- a switch is on where its number is not 0
unfoldable pub is_on : ℤ → Bool
is_on z = not (eq_z z (pos 0))
