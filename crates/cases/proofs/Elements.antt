-- Laws of a list that is read from a line's numbers, element by element. Assumes nothing.
use Rattle.std.proofs.Common.{rules, w8, negsuc, nat_abs, ◌⊎◌, Result, Ok, Err, IfSome, ℤ, pos, w32, SFits, to_z, of_z, inl, inr, List, ◌≡◌, sym, ◌∙◌, ℕ, ◌+◌, ◌<◌, arith, Some, slice_get, slice_set, length, length-set, get_or, get_or-set_same, get_or-set_other, below_more}
use Rattle.std.proofs.lemmas.Option.{slice_get_cases, slice_get_within, slice_get-get_or, get_or_from_slice_get}
use Rattle.std.proofs.lemmas.List.{get_or_past}
use Rattle.std.specs.Prelude.{OkIff}
use Rattle.std.specs.Result.{result_ok}
use Rattle.intops.proofs.Signed.{signed, signed!, ud, back}
use Rattle.std.specs.Int.{FitsUnsignedBits}
use Rattle.cases.specs.Numbers.{at, Is32, Inside, IsSize}

-- one more element
pub read_more : {T : Type 0} (P : ℕ → T → Type 0) (xs : List T) (i : ℕ) {x : T}
    → ((k : ℕ) (v : T) → k < i → slice_get xs k ≡ Some v → P k v) → P i x
    → (k : ℕ) (v : T) → k < i + 1 → slice_get (slice_set xs i x) k ≡ Some v → P k v
read_more {T} P xs i {x} h p k v l e =
    let within = λ (k : ℕ) (v : T) (e : slice_get (slice_set xs i x) k ≡ Some v). simp length-set at (slice_get_within (slice_set xs i x) k v e) in
    below_more (λ (k : ℕ). (v : T) → slice_get (slice_set xs i x) k ≡ Some v → P k v) i
    (λ k l v e. h k v l (let d : get_or xs k v ≡ v = sym (get_or-set_other xs i k x v (λ q. omega arith)) ∙ get_or_from_slice_get (slice_set xs i x) k v v e in slice_get-get_or xs k v (within k v e) ∙ cc))
    (λ v e. let d : x ≡ v = sym (get_or-set_same xs i x x (within i v e)) ∙ get_or_from_slice_get (slice_set xs i x) i v x e in rw (← d) p) k l v e

-- numbers that fit 32 bits: the elements do, and past them there is 0
pub all_32 : (n : List ℤ) → ((k : ℕ) → k < length n → SFits w32 (at n k)) → (k : ℕ) → Is32 (at n k)
all_32 n h k =
    elim (slice_get_cases n k).1 [
      | inl w ↦ let f = h k w.1 in record { least = omega (signed!, ud (at n k)); most = omega (signed!, ud (at n k)) }
      | inr w ↦ rw (get_or_past n k (pos 0) w.0) (record { least = omega signed; most = omega signed })
    ]

-- such a number is read back from its bits
pub plain_32 : (n : List ℤ) → ((k : ℕ) → Is32 (at n k)) → (k : ℕ) → to_z w32 (of_z w32 (at n k)) ≡ at n k
plain_32 n h k = let i = h k in let f : SFits w32 (at n k) = omega (signed!, ud (at n k)) in simp back

-- what a conversion that succeeded, or that may have, shows of its value
pub fitted : {A E : Type 0} (r : Result A E) {P : Type 0} {x v : A} → OkIff r P v → Some x ≡ result_ok r → P × (x ≡ v)
fitted (Ok y) {x = x} h e = let k : x ≡ y = cc in (h.0, k ∙ h.1)
fitted (Err d) h e = absurd cc

pub if_fits : {A E : Type 0} (r : Result A E) {P : Type 0} {v : A} (Q : A → Type 0) → OkIff r P v → (P → Q v) → IfSome (result_ok r) Q
if_fits (Ok y) Q h f = rw h.1 (f h.0)
if_fits (Err d) Q h f = tt

-- a number that fits is itself
pub number_is : {E A : Type 0} {P : Type 0} {x v : A} → (E × (P → ⊥)) ⊎ (P × (x ≡ v)) → P → x ≡ v
number_is (inl w) p = absurd (w.1 p)
number_is (inr w) p = w.1

-- numbers of a line that lie in their fields
pub as_u8 : {E : Type 0} {z : ℤ} {x : ℕ} → (E × (FitsUnsignedBits 8 z → ⊥)) ⊎ (FitsUnsignedBits 8 z × (x ≡ nat_abs z)) → Inside (pos 0) (pos 255) z → x ≡ nat_abs z
as_u8 s i = number_is s (search (rules, i))

pub as_u32 : {E : Type 0} {z : ℤ} {x : ℕ} → (E × (FitsUnsignedBits 32 z → ⊥)) ⊎ (FitsUnsignedBits 32 z × (x ≡ nat_abs z)) → Inside (pos 0) (pos 4294967295) z → x ≡ nat_abs z
as_u32 s i = number_is s (search (rules, i))

pub as_usize : {E : Type 0} {z : ℤ} {x : ℕ} → (E × (FitsUnsignedBits 64 z → ⊥)) ⊎ (FitsUnsignedBits 64 z × (x ≡ nat_abs z)) → IsSize z → x ≡ nat_abs z
as_usize s i = number_is s (search (rules, i))

pub as_i8 : {E : Type 0} {z x : ℤ} → (E × (SFits w8 z → ⊥)) ⊎ (SFits w8 z × (x ≡ z)) → Inside (negsuc 127) (pos 127) z → x ≡ z
as_i8 {E} {z} s i = number_is s (omega (signed!, ud z, i.least, i.most))

pub as_i32 : {E : Type 0} {z x : ℤ} → (E × (SFits w32 z → ⊥)) ⊎ (SFits w32 z × (x ≡ z)) → Is32 z → x ≡ z
as_i32 {E} {z} s i = number_is s (omega (signed!, ud z, i.least, i.most))
