-- A test of the first numbers, as an iterator runs it. Assumes nothing.
use Rattle.std.proofs.Common.{◌≡◌, refl, ap, ◌∙◌, Bool, true, false, ◌&&◌, ℕ, zero, suc, ◌+◌, arith, add-one}
use Rattle.std.specs.List.{list_all, range_with_len}
use Rattle.project.specs.Tested.{all_below}
use Rattle.checks.proofs.Tests.{and_true}

and_assoc : (a b c : Bool) → (a && (b && c)) ≡ ((a && b) && c)
and_assoc true b c = refl
and_assoc false b c = refl

one_more : (p : ℕ → Bool) (i : ℕ) → (all_below i p && p i) ≡ all_below (i + 1) p
unfolding all_below
one_more p i = rw (add-one i)

-- the numbers from i on, n of them
numbers_from : (p : ℕ → Bool) (i n : ℕ) → (all_below i p && list_all p (range_with_len i n)) ≡ all_below (i + n) p
numbers_from p i zero = let m : i ≡ i + 0 = omega arith in and_true (all_below i p) ∙ ap (λ (k : ℕ). all_below k p) m
numbers_from p i (suc n) =
    let m : i + 1 + n ≡ i + suc n = omega arith in
    and_assoc (all_below i p) (p i) _ ∙ ap (λ (b : Bool). b && list_all p (range_with_len (i + 1) n)) (one_more p i) ∙ numbers_from p (i + 1) n ∙ ap (λ (k : ℕ). all_below k p) m

pub numbers_below : (p : ℕ → Bool) (n : ℕ) → list_all p (range_with_len 0 n) ≡ all_below n p
unfolding all_below
numbers_below p n = let m : 0 + n ≡ n = omega arith in numbers_from p 0 n ∙ ap (λ (k : ℕ). all_below k p) m
