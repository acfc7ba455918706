-- What is proved of the dependency order besides its definition (proofs/Laws.antt, Perm.antt, After.antt). Assumes nothing.
use Rattle.std.specs.Prelude.{ℕ, ◌+◌, ◌<◌, ◌≤◌, ◌≡◌, cond, ◌⊎◌, eqb, length, get_or}
use Rattle.loops.specs.Over.{span}
use Rattle.levels.specs.Slots.{slot_at, Stands, Permutes}
use Rattle.topo.specs.declared.Order.{Order}
use Rattle.topo.specs.Topo.{Links, reference, free, marked, placed, link, enter, ordered}

-- the references of the first n slots are among these: each is one of them, or none
abbrev pub Among : ℕ → Links → Type 0
Among n links = (i m : ℕ) → i < n → m < 7 → (reference links i m < n) ⊎ (7 ≤ reference links i m)

-- an order of the first n slots: it counts n, and its list is a permutation of them
abbrev pub Orders : Order → ℕ → Type 0
Orders o n = (o.count ≡ n) × Permutes o.list n

-- the dependency order of the slots in use is a permutation of them
abbrev pub IsPermutation : Type 0
IsPermutation = (links : Links) (n : ℕ) → n ≤ 7 → Among n links → Orders (ordered links n) n

-- slot y is a reference of slot x
pub record RefersTo (links : Links) (x y : ℕ) : Type 0 where
  pub which : ℕ
  pub below : which < 7
  pub is : reference links x which ≡ y
  pub some : y < 7

-- slot x refers to slot y, directly or through others
pub data Reaches (links : Links) : ℕ → ℕ → Type 0 where
  direct : {x y : ℕ} → RefersTo links x y → Reaches links x y
  through : {x y z : ℕ} → Reaches links x y → RefersTo links y z → Reaches links x z

-- each reference of the slot at place k stands before place k, unless it refers back to that slot, directly or through others
abbrev pub AfterReferences : Type 0
AfterReferences =
    (links : Links) (n k y : ℕ)
    → n ≤ 7
    → k < (ordered links n).count
    → RefersTo links (slot_at (ordered links n).list k) y
    → Stands (ordered links n).list k y ⊎ Reaches links y (slot_at (ordered links n).list k)

-- the depth of 7 is no limit: at each order that has room for the slots that are not yet entered, `enter 7` enters references by `enter 7`
abbrev pub DeepEnough : Type 0
DeepEnough =
    (links : Links) (i : ℕ) (o : Order)
    → i < 7
    → length o.place ≡ 7
    → o.count + free o.place ≤ 7
    → enter 7 links i o ≡ cond (eqb (get_or o.place i 0) 7) (placed i (span (link (enter 7 links) links i) 0 7 (marked i o))) o
