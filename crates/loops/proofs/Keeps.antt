-- What a store and a fold keep. Assumes nothing.
use Rattle.std.proofs.Common.{◌≡◌, List, [], ◌∷◌, ℕ, zero, suc, ◌+◌, ◌-◌, ◌<◌, ◌≤◌, arith, get_or, set}
use Rattle.loops.specs.Over.{over, span}

-- what holds of a new element and of each old one holds of each after the store
pub set_has : {A : Type 0} (P : A → Type 0) (l : List A) (i k : ℕ) (a d : A) → P a → P (get_or l k d) → P (get_or (set l i a) k d)
set_has P [] i k a d p q = q
set_has P (x ∷ l) zero zero a d p q = p
set_has P (x ∷ l) zero (suc k) a d p q = q
set_has P (x ∷ l) (suc i) zero a d p q = q
set_has P (x ∷ l) (suc i) (suc k) a d p q = set_has P l i k a d p q

-- what each step below b takes from where it is to the next
over_in : {S : Type 0} (P : ℕ → S → Type 0) (f : ℕ → S → S) (b : ℕ) → ((p : ℕ) (s : S) → p < b → P p s → P (p + 1) (f p s))
    → (n p q : ℕ) (s : S) → p + n ≡ q → q ≤ b → P p s → P q (over f 1 n p s)
unfolding over
over_in P f b st zero p q s e l h = let w : p ≡ q = omega arith in rw w at h
over_in P f b st (suc n) p q s e l h = over_in P f b st n (p + 1) q (f p s) (omega arith) l (st p s (omega arith) h)

pub span_to : {S : Type 0} (P : ℕ → S → Type 0) (f : ℕ → S → S) (b : ℕ) → ((p : ℕ) (s : S) → p < b → P p s → P (p + 1) (f p s)) → (s : S) → P 0 s → P b (span f 0 b s)
unfolding span
span_to P f b st s h = over_in P f b st (b - 0) 0 b s (omega arith) (omega arith) h

-- what each step below b keeps
pub span_in : {S : Type 0} (P : S → Type 0) (f : ℕ → S → S) (b : ℕ) → ((p : ℕ) (s : S) → p < b → P s → P (f p s)) → (s : S) → P s → P (span f 0 b s)
span_in P f b st s h = span_to (λ p s. P s) f b st s h
