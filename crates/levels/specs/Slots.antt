-- Slots by their numbers, and lists of slots. Assumes nothing.
use Rattle.std.specs.Prelude.{ℕ, ◌<◌, ◌≤◌, ◌≡◌, List, length, get_or}
use Rattle.levels.specs.declared.Slot.{Slot}

-- the slot of a number
abbrev pub slot : ℕ → Slot
slot i = record { 0 = i }

-- the number of the slot at place k of a list
abbrev pub slot_at : List Slot → ℕ → ℕ
slot_at xs k = (get_or xs k (slot 0)).0

-- slot i stands at a place below n
pub record Stands (xs : List Slot) (n i : ℕ) : Type 0 where
  pub at : ℕ
  pub below : at < n
  pub is : slot_at xs at ≡ i

-- the first n places hold a permutation of the first n slots: there are so many places, each has one of these slots, each slot stands at one, and none at two
pub record Permutes (xs : List Slot) (n : ℕ) : Type 0 where
  pub long : n ≤ length xs
  pub low : (k : ℕ) → k < n → slot_at xs k < n
  pub stands : (i : ℕ) → i < n → Stands xs n i
  pub once : (j k : ℕ) → j < n → k < n → slot_at xs j ≡ slot_at xs k → j ≡ k
