-- Laws of lists that are copied out of a line's numbers. Assumes nothing.
use Rattle.std.proofs.Common.{List, ◌≡◌, refl, sym, ap, ◌∙◌, ℕ, ◌+◌, ◌≤◌, ◌<◌, arith, ℤ, pos, negsuc, nat_abs, ◌≤ℤ◌, length, Some, slice_get, get_or, take, get_or-take, length-take-le}
use Rattle.std.proofs.lemmas.Option.{slice_get-get_or}
use Rattle.std.specs.Int.{FitsUnsignedBits}
use Rattle.intops.proofs.Signed.{signed}
use Rattle.cases.specs.Numbers.{at}
use Rattle.load_cases.specs.LoadCase.{Listed, ListedBytes}

pub pos_abs : (z : ℤ) → pos 0 ≤ℤ z → z ≡ pos (nat_abs z)
pos_abs (pos m) h = refl
pos_abs (negsuc m) h = absurd (omega (signed, h))

-- a number of unsigned bits is not negative
from_zero : (k : ℕ) (z : ℤ) → FitsUnsignedBits k z → pos 0 ≤ℤ z
from_zero k (pos m) h = omega signed
from_zero k (negsuc m) h = absurd h

-- the part that is lent, of a list whose first elements are the numbers
pub lent : (P : ℤ → Type 0) (n : List ℤ) (from r : ℕ) (l : List ℤ) → r ≤ length l
    → ((k : ℕ) (v : ℤ) → k < r → slice_get l k ≡ Some v → P (at n (from + k)) × (v ≡ at n (from + k))) → Listed (take r l) n from
lent P n from r l w h = λ k b.
    let g : k < r = omega (arith, length-take-le r l w) in
    sym (h k (at l k) g (slice_get-get_or l k (pos 0) (omega (arith, g, w)))).1 ∙ sym (get_or-take r l k (pos 0) g)

-- the same of bytes
pub lent_bytes : (n : List ℤ) (from r : ℕ) (l : List ℕ) → r ≤ length l
    → ((k v : ℕ) → k < r → slice_get l k ≡ Some v → FitsUnsignedBits 8 (at n (from + k)) × (v ≡ nat_abs (at n (from + k)))) → ListedBytes (take r l) n from
lent_bytes n from r l w h = λ k b.
    let g : k < r = omega (arith, length-take-le r l w) in
    let e = h k (get_or l k 0) g (slice_get-get_or l k 0 (omega (arith, g, w))) in
    pos_abs (at n (from + k)) (from_zero 8 _ e.0) ∙ ap pos (sym e.1) ∙ ap pos (sym (get_or-take r l k 0 g))
