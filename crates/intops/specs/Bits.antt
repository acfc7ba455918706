-- The place of a number's highest one bit. Assumes nothing.
use Rattle.std.specs.Prelude.{cond, ℕ, zero, suc, ◌^◌, leb}

-- the highest of the places k, k - 1, .., 0 whose power of two is at most m; 0 where there is none
unfoldable pub highest_from : ℕ → ℕ → ℕ
highest_from zero m = 0
highest_from (suc k) m = cond (leb (2 ^ suc k) m) (suc k) (highest_from k m)

-- 01 "Packed vector": the place of the highest one bit, the lowest being 0, of a number of 32 bits
unfoldable pub highest_bit : ℕ → ℕ
highest_bit m = highest_from 31 m
