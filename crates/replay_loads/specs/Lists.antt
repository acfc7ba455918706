-- What a line makes of the lists of a case, which lie in one list of numbers, one after the other. Assumes nothing.
use Rattle.std.specs.Prelude.{◌≡◌, ℕ, zero, suc, ◌+◌, ◌%◌, ◌≤◌, Bool, true, false, List, [], ◌∷◌, length, drop, replicate, ℤ, pos, slice_index, slice_index_or, slice_set, unsigned_abs}
use Rattle.cases.specs.Numbers.{at, AllInside}

-- where list k begins: the room of each is that of the longest of the kept cases
abbrev pub start_of : ℕ → ℕ
start_of k = slice_index_or (0 ∷ 2048 ∷ 4096 ∷ 6144 ∷ 13318 ∷ 20492 ∷ 42002 ∷ 63512 ∷ []) k 95768

-- a `case` line: every element is 0
abbrev pub cleared : List ℤ → List ℤ
cleared to = replicate (length to) (pos 0)

-- n elements from i on get the values, from value k on, again and again in their order
unfoldable pub run_put : List ℤ → ℕ → ℕ → ℕ → List ℤ → List ℤ
run_put values k zero i to = to
run_put values k (suc n) i to = run_put values (k + 1) n (i + 1) (slice_set to i (at values (k % length values)))

-- the numbers `list from count value..` of a line: the elements lie in the list, and there are no more values than elements
pub record Lies (lengths : List ℕ) (n : List ℤ) : Type 0 where
  pub four : 4 ≤ length n
  pub whole : AllInside (pos 0) (pos 95768) 0 3 n
  pub list : unsigned_abs (at n 0) ≤ 7
  pub end : unsigned_abs (at n 1) + unsigned_abs (at n 2) ≤ slice_index lengths (unsigned_abs (at n 0))
  pub few : length n ≤ unsigned_abs (at n 2) + 3

-- those elements get the line's values
abbrev pub line_put : List ℤ → List ℤ → List ℤ
line_put n to = run_put (drop 3 n) 0 (unsigned_abs (at n 2)) (start_of (unsigned_abs (at n 0)) + unsigned_abs (at n 1)) to

-- they do where the answer is true; else nothing changes
pub record Placed (r : Bool) (lengths : List ℕ) (n before after : List ℤ) : Type 0 where
  pub put : r ≡ true → Lies lengths n × (after ≡ line_put n before)
  pub left : r ≡ false → after ≡ before
