-- Lists of slots: a store, zeros, and when a list is a permutation. Assumes nothing.
use Rattle.std.proofs.Common.{◌≡◌, sym, ap, ◌∙◌, List, ℕ, zero, suc, ◌<◌, ◌≤◌, length, set, replicate, get_or-set_same, get_or-set_other}
use Rattle.levels.specs.declared.Slot.{Slot}
use Rattle.levels.specs.Slots.{slot, slot_at, Permutes}
use Rattle.loops.proofs.Counting.{Injects, onto}

-- a slot is stored at place k
pub stored_here : (xs : List Slot) (k i : ℕ) → k < length xs → slot_at (set xs k (slot i)) k ≡ i
stored_here xs k i h = ap (λ (s : Slot). s.0) (get_or-set_same xs k (slot i) (slot 0) h)

-- and at place k of another place
pub stored_else : (xs : List Slot) (k j i : ℕ) → (k ≡ j → ⊥) → slot_at (set xs j (slot i)) k ≡ slot_at xs k
stored_else xs k j i n = ap (λ (s : Slot). s.0) (get_or-set_other xs j k (slot i) (slot 0) n)

pub zeros : (b n k : ℕ) → 0 < b → slot_at (replicate n (slot 0)) k < b
zeros b zero k h = h
zeros b (suc n) zero h = h
zeros b (suc n) (suc k) h = zeros b n k h

-- each of the first n slots has a place below n, where it stands
module _ (xs : List Slot) (n : ℕ) (place : ℕ → ℕ) (at : (i : ℕ) → i < n → (place i < n) × (slot_at xs (place i) ≡ i)) where
  injects : Injects place n n
  injects = record { into = λ i l. (at i l).0; apart = λ i j a b e. sym (at i a).1 ∙ ap (slot_at xs) e ∙ (at j b).1 }

  -- so at each place below n stands the slot whose place that is
  pub held : (k : ℕ) → k < n → (slot_at xs k < n) × (place (slot_at xs k) ≡ k)
  held k l =
      let m = onto n place injects k l in
      let e : slot_at xs k ≡ m.from = ap (slot_at xs) (sym m.is) ∙ (at m.from m.below).1 in
      (rw e m.below, ap place e ∙ m.is)

  pub permutes : n ≤ length xs → Permutes xs n
  permutes h =
      record {
        long = h;
        low = λ k l. (held k l).0;
        stands = λ i l. record { at = place i; below = (at i l).0; is = (at i l).1 };
        once = λ j k a b e. sym (held j a).1 ∙ ap place e ∙ (held k b).1;
      }
