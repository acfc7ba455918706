-- Arrays of seven, one entry for each slot or each reference. Assumes nothing.
use Rattle.std.specs.Prelude.{cond, List, [], ◌∷◌, ℕ, ltb, set}

-- f at 0, 1, .., 6
abbrev pub seven : {A : Type 0} → (ℕ → A) → List A
seven f = f 0 ∷ f 1 ∷ f 2 ∷ f 3 ∷ f 4 ∷ f 5 ∷ f 6 ∷ []

-- f at the first n of them, and d at the others
abbrev pub first_seven : {A : Type 0} → ℕ → A → (ℕ → A) → List A
first_seven n d f = seven (λ i. cond (ltb i n) (f i) d)

-- the step of a loop that stores f i at i
abbrev pub storing : {A : Type 0} → (ℕ → A) → ℕ → List A → List A
storing f i xs = set xs i (f i)
