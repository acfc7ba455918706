-- Filling an array of seven, entry after entry. Assumes nothing.
use Rattle.std.proofs.Common.{length, ◌≡◌, refl, sym, ap, ◌∙◌, List, ℕ, zero, suc, ◌+◌, ◌≤◌, ◌<◌, arith, get_or, set, replicate}
use Rattle.std.proofs.lemmas.List.{ext_get_or}
use Rattle.std.specs.Fn.{Called, Mut}
use Rattle.std.specs.Array.{IsFromFnResult, IsFromFnResultFrom, IsMapOf, MapsFrom}
use Rattle.loops.specs.Over.{over, span}
use Rattle.loops.specs.Seven.{seven, first_seven, storing}
use Rattle.loops.proofs.Turns.{turned, ended}

-- one of 0 .. 7
pub up_to7 : (P : ℕ → Type 0) → P 0 → P 1 → P 2 → P 3 → P 4 → P 5 → P 6 → P 7 → (n : ℕ) → n ≤ 7 → P n
up_to7 P a b c d e f g h zero l = a
up_to7 P a b c d e f g h (suc zero) l = b
up_to7 P a b c d e f g h (suc (suc zero)) l = c
up_to7 P a b c d e f g h (suc (suc (suc zero))) l = d
up_to7 P a b c d e f g h (suc (suc (suc (suc zero)))) l = e
up_to7 P a b c d e f g h (suc (suc (suc (suc (suc zero))))) l = f
up_to7 P a b c d e f g h (suc (suc (suc (suc (suc (suc zero)))))) l = g
up_to7 P a b c d e f g h (suc (suc (suc (suc (suc (suc (suc zero))))))) l = h
up_to7 P a b c d e f g h (suc (suc (suc (suc (suc (suc (suc (suc n)))))))) l = absurd (omega arith)

-- a loop that stores f i at i, from 0 up to n
pub filled_is : {A : Type 0} (f : ℕ → A) (d : A) (n : ℕ) → n ≤ 7 → span (storing f) 0 n (replicate 7 d) ≡ first_seven n d f
unfolding span over
filled_is {A} f d =
    up_to7 (λ (n : ℕ). span (storing f) 0 n (replicate 7 d) ≡ first_seven n d f) refl refl refl refl refl refl refl refl

module _ {A : Type 0} (f : ℕ → A) where
  -- a turn of a loop that stores f i at each i, and the end of it
  pub stored : (i : ℕ) (xs t : List A) (a : A) → i < 7 → a ≡ f i → span (storing f) i 7 xs ≡ t → span (storing f) (i + 1) 7 (set xs i a) ≡ t
  stored i xs t a h e k = turned (storing f) 7 i xs _ t h (ap (set xs i) e) k

  pub all_stored : (d : A) (i : ℕ) (xs : List A) → 7 ≤ i → span (storing f) i 7 xs ≡ span (storing f) 0 7 (replicate 7 d) → xs ≡ seven f
  all_stored d i xs h k = ended (storing f) 7 i xs _ h k ∙ filled_is f d 7 (omega arith)

-- an entry of it
pub seven_at : {A : Type 0} (f : ℕ → A) (d : A) (i : ℕ) → i < 7 → get_or (seven f) i d ≡ f i
seven_at f d zero h = refl
seven_at f d (suc zero) h = refl
seven_at f d (suc (suc zero)) h = refl
seven_at f d (suc (suc (suc zero))) h = refl
seven_at f d (suc (suc (suc (suc zero)))) h = refl
seven_at f d (suc (suc (suc (suc (suc zero))))) h = refl
seven_at f d (suc (suc (suc (suc (suc (suc zero)))))) h = refl
seven_at f d (suc (suc (suc (suc (suc (suc (suc i))))))) h = absurd (omega arith)

-- what holds of each entry, and of what stands past the end
pub seven_all : {A : Type 0} (P : A → Type 0) (f : ℕ → A) (d : A) → P d → ((m : ℕ) → P (f m)) → (k : ℕ) → P (get_or (seven f) k d)
seven_all P f d p h zero = h 0
seven_all P f d p h (suc zero) = h 1
seven_all P f d p h (suc (suc zero)) = h 2
seven_all P f d p h (suc (suc (suc zero))) = h 3
seven_all P f d p h (suc (suc (suc (suc zero)))) = h 4
seven_all P f d p h (suc (suc (suc (suc (suc zero))))) = h 5
seven_all P f d p h (suc (suc (suc (suc (suc (suc zero)))))) = h 6
seven_all P f d p h (suc (suc (suc (suc (suc (suc (suc k))))))) = p

-- an array that `from_fn` made by a function which, below n, answers what P says, and which a call leaves as it was
module _ {F B : Type 0} (g : Mut F (ℕ × Unit {0}) B) (P : ℕ → B → Type 0) (f : F) (n : ℕ) (is : (i : ℕ) (y : B) (q : F) → i < n → Called g f (i, tt) y q → (q ≡ f) × P i y) where
  made_from : (ys : List B) (d : B) (m i : ℕ) (p : F) → p ≡ f → i + m ≡ n → IsFromFnResultFrom g p ys i m → (j k : ℕ) → i + j ≡ k → j < m → P k (get_or ys k d)
  made_from ys d zero i p e s r j k a l = absurd (omega arith)
  made_from ys d (suc m) i p e s (q, y, el, c, rest) zero k a l = let b : i ≡ k = omega arith in rw (← b, el.1 d) (is i y q (omega arith) (rw e at c)).1
  made_from ys d (suc m) i p e s (q, y, el, c, rest) (suc j) k a l = made_from ys d m (i + 1) q (is i y q (omega arith) (rw e at c)).0 (omega arith) rest j k (omega arith) (omega arith)

  pub made : (ys : List B) → IsFromFnResult g f ys n → (d : B) (i : ℕ) → i < n → P i (get_or ys i d)
  made ys r d i l = made_from ys d n 0 f refl (omega arith) r.each i i (omega arith) l

-- seven entries that are f's
pub seven_is : {A : Type 0} (f : ℕ → A) (d : A) (xs : List A) → length xs ≡ 7 → ((i : ℕ) → i < 7 → get_or xs i d ≡ f i) → xs ≡ seven f
seven_is f d xs e h = ext_get_or d xs (seven f) e (λ i l. let b : i < 7 = omega (arith, e) in h i b ∙ sym (seven_at f d i b))

-- an array of seven that `from_fn` made by a function which is h
pub made_is : {F B : Type 0} (g : Mut F (ℕ × Unit {0}) B) (f : F) (h : ℕ → B) → ((i : ℕ) (y : B) (q : F) → i < 7 → Called g f (i, tt) y q → (q ≡ f) × (y ≡ h i))
    → (ys : List B) → IsFromFnResult g f ys 7 → ys ≡ seven h
made_is g f h is ys r = seven_is h (h 0) ys r.long (made g (λ i y. y ≡ h i) f 7 is ys r (h 0))

-- an array that `map` made of xs by a function which, at the element of each number below n, answers what P says, and which a call leaves as it was
module _ {F A B : Type 0} (g : Mut F (A × Unit {0}) B) (P : ℕ → B → Type 0) (f : F) (xs : List A) (n : ℕ)
    (is : (i : ℕ) (x : A) (y : B) (q : F) → i < n → ((d : A) → get_or xs i d ≡ x) → Called g f (x, tt) y q → (q ≡ f) × P i y) where
  mapped_from : (ys : List B) (d : B) (m i : ℕ) (p : F) → p ≡ f → i + m ≡ n → MapsFrom g p xs ys i m → (j k : ℕ) → i + j ≡ k → j < m → P k (get_or ys k d)
  mapped_from ys d zero i p e s r j k a l = absurd (omega arith)
  mapped_from ys d (suc m) i p e s (q, x, y, ex, ey, c, rest) zero k a l = let b : i ≡ k = omega arith in rw (← b, ey.1 d) (is i x y q (omega arith) ex.1 (rw e at c)).1
  mapped_from ys d (suc m) i p e s (q, x, y, ex, ey, c, rest) (suc j) k a l = mapped_from ys d m (i + 1) q (is i x y q (omega arith) ex.1 (rw e at c)).0 (omega arith) rest j k (omega arith) (omega arith)

  mapped : (ys : List B) → IsMapOf g f xs ys n → (d : B) (i : ℕ) → i < n → P i (get_or ys i d)
  mapped ys r d i l = mapped_from ys d n 0 f refl (omega arith) r.each i i (omega arith) l

-- an array of seven that `map` made by a function which answers h of an element's number
pub mapped_is : {F A B : Type 0} (g : Mut F (A × Unit {0}) B) (f : F) (h : ℕ → B) (xs : List A)
    → ((i : ℕ) (x : A) (y : B) (q : F) → i < 7 → ((d : A) → get_or xs i d ≡ x) → Called g f (x, tt) y q → (q ≡ f) × (y ≡ h i)) → (ys : List B) → IsMapOf g f xs ys 7 → ys ≡ seven h
mapped_is g f h xs is ys r = seven_is h (h 0) ys r.long (mapped g (λ i y. y ≡ h i) f xs 7 is ys r (h 0))
