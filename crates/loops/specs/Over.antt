-- A loop as a fold: f at p, p + d, p + 2 d, .., below b, in that order. Assumes nothing.
use Rattle.std.specs.Prelude.{ℕ, zero, suc, ◌+◌, ◌-◌, ◌/◌}

-- n turns from p, by d
unfoldable pub over : {S : Type 0} → (ℕ → S → S) → ℕ → ℕ → ℕ → S → S
over f d zero p s = s
over f d (suc n) p s = over f d n (p + d) (f p s)

-- from a up to b, by 1
unfoldable pub span : {S : Type 0} → (ℕ → S → S) → ℕ → ℕ → S → S
span f a b s = over f 1 (b - a) a s

-- from a up to b, by d, which is not 0
unfoldable pub span_by : {S : Type 0} → ℕ → (ℕ → S → S) → ℕ → ℕ → S → S
span_by d f a b s = over f d ((b - a + (d - 1)) / d) a s
