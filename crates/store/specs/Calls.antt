-- A list of calls on a store: each is refused, and changes nothing, or is accepted (01's term) and loads. Assumes nothing.
use Rattle.std.specs.Prelude.{Bool, cond, List, [], ◌∷◌, ℕ, leb, eqb}

module _ {A : Type 0} where
  -- those of a list for which p holds, in its order
  abbrev pub keep : (A → Bool) → List A → List A
  keep p [] = []
  keep p (x ∷ xs) = cond (p x) (x ∷ keep p xs) (keep p xs)

  -- x before the first whose key is not lower
  abbrev pub insert_by : (A → ℕ) → A → List A → List A
  insert_by key x [] = x ∷ []
  insert_by key x (y ∷ ys) = cond (leb (key x) (key y)) (x ∷ y ∷ ys) (y ∷ insert_by key x ys)

  -- in the order of their keys
  abbrev pub sort_by : (A → ℕ) → List A → List A
  sort_by key [] = []
  sort_by key (x ∷ xs) = insert_by key x (sort_by key xs)

  -- what holds of every element
  abbrev pub All : (A → Type 0) → List A → Type 0
  All P [] = Unit {0}
  All P (x ∷ xs) = P x × All P xs

  -- what holds of every two elements
  abbrev pub Pairs : (A → A → Type 0) → List A → Type 0
  Pairs R [] = Unit {0}
  Pairs R (x ∷ xs) = All (R x) xs × Pairs R xs

-- a load's answer, 0 or the refusal's number, and the store that it leaves where it is accepted
module _ {S Call : Type 0} (answer : Call → S → ℕ) (load : Call → S → S) where
  -- accepted means answered without a refusal number
  abbrev pub accepted : S → Call → Bool
  accepted s c = eqb (answer c s) 0

  -- the store after a call, refused or not
  abbrev pub called : Call → S → S
  called c s = cond (accepted s c) (load c s) s

  -- the calls in the list's order
  abbrev pub as_listed : List Call → S → S
  as_listed [] s = s
  as_listed (c ∷ cs) s = as_listed cs (called c s)

  -- their answers
  abbrev pub answers : List Call → S → List ℕ
  answers [] s = []
  answers (c ∷ cs) s = answer c s ∷ answers cs (called c s)

  -- loads one after the other, untested
  abbrev pub loaded : List Call → S → S
  loaded [] s = s
  loaded (c ∷ cs) s = loaded cs (load c s)

  -- 01 "The plain run": "A call that the table's tests turn back on the starting store it passes over. .. The other calls it puts in order of their tile's start column"
  abbrev pub plain_calls : (Call → ℕ) → List Call → S → List Call
  plain_calls start cs s = sort_by start (keep (accepted s) cs)

  -- ".. and takes one by one: each step is demand 2's load of that tile .. on the store that the step before left."
  abbrev pub plain_run : (Call → ℕ) → List Call → S → S
  plain_run start cs s = loaded (plain_calls start cs s) s
