-- Pieces of text that are put one behind the other. Assumes nothing.
use Rattle.std.specs.Prelude.{List, [], ◌++◌, ℕ, zero, suc, ◌+◌}

-- n pieces one behind the other: f at i, i + 1, ..
unfoldable pub joined : (ℕ → List ℕ) → ℕ → ℕ → List ℕ
joined f zero i = []
joined f (suc n) i = f i ++ joined f n (i + 1)
