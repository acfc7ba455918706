-- The averages of the field's passes, as in smoothen, fill_gap_proj and fill_gap_traj (01 "Table to be proved": smoothing and gap sums). Assumes nothing.
use Rattle.std.specs.Prelude.{ℕ, ◌*◌, ◌/◌, ◌^◌, ◌≤◌, ℤ, pos, neg_ℤ, nat_abs, ◌*ℤ◌, ◌≤ℤ◌}
use Rattle.intops.specs.Rounding.{round_div, Nearest}

-- the sum s of n cells, n not 0, times the reciprocal of n, the whole part of d / n; over d, rounded to nearest, halves away from zero
abbrev pub average : ℕ → ℕ → ℤ → ℤ
average d n s = round_div d (s *ℤ pos (d / n))

-- smoothing: over 1 to 5 cells, in parts of 65536
unfoldable pub smoothed : ℕ → ℤ → ℤ
smoothed n s = average 65536 n s

-- gap filling: over 1 to 4 cells, in parts of 256
unfoldable pub gap_mean : ℕ → ℤ → ℤ
gap_mean n s = average 256 n s

-- s may be the sum of n components of 32 bits
pub record SumOf (n : ℕ) (s : ℤ) : Type 0 where
  pub low : neg_ℤ (pos (n * 2147483648)) ≤ℤ s
  pub high : s ≤ℤ pos (n * 2147483647)

-- what the code of an average asks of the sum s of n cells and of the reciprocal k in parts of 2^bits: then the average has 32 bits, and no product overflows
pub record Averaged (n : ℕ) (s : ℤ) (k bits : ℕ) : Type 0 where
  pub sum : SumOf n s
  pub part : n * k ≤ 2 ^ bits
  pub some : 1 ≤ bits
  pub few : bits ≤ 16

-- ---- what is proved of them besides (proofs/Averages.antt)

-- smoothing gives the whole number nearest to the mean, for every sum that a field can have: five components of at most 2,047 make 10,235. It holds up to 32,768; over three cells 32,771 is the first sum for which it does not
abbrev pub SmoothedNearest : Type 0
SmoothedNearest = (n : ℕ) (s : ℤ) → 1 ≤ n → n ≤ 5 → nat_abs s ≤ 32768 → Nearest n s (smoothed n s)

-- so do gap sums over two and over four, every sum. Over three they do not: 85/256 is less than a third, so 131 gives 43 and not 44, as in the Rust
abbrev pub GapNearest : Type 0
GapNearest = (s : ℤ) → Nearest 2 s (gap_mean 2 s) × Nearest 4 s (gap_mean 4 s)
