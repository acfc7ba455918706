-- A part of a list in another place of it. Assumes nothing.
use Rattle.std.specs.Prelude.{List, ◌++◌, take, drop, ℕ, ◌+◌}

-- the n cells from place `from` on stand from place `to` on too
abbrev pub copied : {A : Type 0} → ℕ → ℕ → ℕ → List A → List A
copied from to n l = take to l ++ take n (drop from l) ++ drop (to + n) l
