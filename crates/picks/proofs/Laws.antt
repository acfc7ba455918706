-- What is picked is a slot. Assumes nothing.
use Rattle.std.proofs.lemmas.List.{length_push, length-take-le, get_or-take}
use Rattle.std.proofs.Common.{◌≡◌, refl, ap, sym, ◌∙◌, suc, arith, length, take, [], ◌∷◌, ◌++◌, Bool, true, false, cond, ℕ, zero, ◌+◌, ◌-◌, ◌<◌, ◌≤◌, ◌*◌, ℤ, List, Option, Some, None, leb, ltb, leb-false, get_or}
use Rattle.levels.specs.declared.Slot.{Slot}
use Rattle.levels.specs.Slots.{slot}
use Rattle.loops.specs.Over.{span}
use Rattle.loops.proofs.Same.{over_same}
use Rattle.picks.specs.Picks.{Valid, Slots, with_side, nth_earlier, nth_later, both_ways, from_end, rest}
use Rattle.picks.specs.declared.Picks.{Picks}
use Rattle.picks.specs.declared.Pocs.{Pocs}
use Rattle.picks.specs.Hints.{some_on_side}

some_go : (s : Slot) (t : Bool) → s.0 < 7 → Valid (cond t (Some s) None)
some_go s true h = h
some_go s false h = tt

none_go : (s : Slot) (t : Bool) → s.0 < 7 → Valid (cond t None (Some s))
none_go s true h = tt
none_go s false h = h

pub side_valid : (h : Pocs) (late : Bool) (c : Option Slot) → Valid c → Valid (with_side h late c)
unfolding with_side
side_valid h late None v = tt
side_valid h late (Some s) v = some_go s (some_on_side h s.0 late) v

pub earlier_valid : (xs : List Slot) (f k : ℕ) → Slots xs → Valid (nth_earlier xs f k)
unfolding nth_earlier
earlier_valid xs f k v = none_go (get_or xs (f - k) (slot 0)) (ltb f k) (v (f - k))

pub later_valid : (xs : List Slot) (f m n : ℕ) → Slots xs → Valid (nth_later xs f m n)
unfolding nth_later
later_valid xs f m n v = none_go (get_or xs (f + n) (slot 0)) (leb m (f + n)) (v (f + n))

-- ---- a list gone over from its end

front_go : (xs ys : List Slot) (s : Slot) → ys ++ s ∷ [] ≡ take (suc (length ys)) xs → (ys ≡ take (length ys) xs) × (s ≡ get_or xs (length ys) (slot 0))
front_go [] [] s e = cc
front_go [] (y ∷ ys) s e = cc
front_go (x ∷ xs) [] s e = (refl, cc)
front_go (x ∷ xs) (y ∷ ys) s e =
    let t : ys ++ s ∷ [] ≡ take (suc (length ys)) xs = cc in let h : y ≡ x = cc in
    let g = front_go xs ys s t in
    (rw h (ap (λ zs. x ∷ zs) g.0), g.1)

-- of a front zs of xs the last is taken off, and a front is left
pub front_less : (xs ys zs : List Slot) (s : Slot) → zs ≡ ys ++ s ∷ [] → zs ≡ take (length zs) xs → (length zs ≡ length ys + 1) × (ys ≡ take (length ys) xs) × (s ≡ get_or xs (length ys) (slot 0))
front_less xs ys zs s e f =
    let n : length zs ≡ suc (length ys) = omega (arith, ap length e, length_push ys s) in
    let g = front_go xs ys s (sym e ∙ f ∙ ap (λ (k : ℕ). take k xs) n) in
    (omega arith, g.0, g.1)

-- ---- the front of a list of slots

pub take_slots : (xs : List Slot) (c : ℕ) → Slots xs → Slots (take c xs)
take_slots [] zero v k = v k
take_slots [] (suc c) v k = v k
take_slots (x ∷ xs) zero v k = omega arith
take_slots (x ∷ xs) (suc c) v zero = v 0
take_slots (x ∷ xs) (suc c) v (suc k) = take_slots xs c (λ i. v (suc i)) k

-- the dependency order from its end, of its first n slots alone
pub rest_take : (d : List ℤ) (xs : List Slot) (n : ℕ) (p : Picks) → n ≤ length xs → rest d (take n xs) (length (take n xs)) p ≡ rest d xs n p
unfolding rest span
rest_take d xs n p h =
    let m : length (take n xs) ≡ n = length-take-le n xs h in
    let z : n - 0 ≡ n = omega arith in
    rw (m, z) (over_same 1 n 0 (from_end d (take n xs) n) (from_end d xs n)
    (λ j l s. ap (λ (x : Slot). both_ways d x s) (get_or-take n xs (n - 1 - (0 + j * 1)) (slot 0) (omega (arith, l)))) p)
