-- Tests as numbers; numbers below a bound, and a function that takes no two of them to the same. Assumes nothing.
use Rattle.std.proofs.Common.{◌≡◌, refl, sym, ◌∙◌, Bool, true, false, cond, ℕ, zero, suc, ◌<◌, ◌≤◌, arith, eqb, eqb-true, ne_eqb, eq-eqb}
use Rattle.std.proofs.Math.Decide.{dec_le}
use Rattle.std.proofs.Math.Logic.{dite}
use mir.Val.{bool_byte}
use borrow.Author.Tests.{eqb-false}

-- a test counts as one at most
pub byte_one : (b : Bool) → bool_byte b ≤ 1
byte_one true = omega arith
byte_one false = omega arith

-- by whether a number is another
by_eq : {P : Type 0} (a b : ℕ) (t : Bool) → eqb a b ≡ t → (a ≡ b → P) → ((a ≡ b → ⊥) → P) → P
by_eq a b true e y n = y (eqb-true a b e)
by_eq a b false e y n = n (eqb-false a b e)

pub is_or : {P : Type 0} (a b : ℕ) → (a ≡ b → P) → ((a ≡ b → ⊥) → P) → P
is_or a b y n = by_eq a b (eqb a b) refl y n

-- f takes the numbers below a to numbers below b, no two to the same
pub record Injects (f : ℕ → ℕ) (a b : ℕ) : Type 0 where
  pub into : (i : ℕ) → i < a → f i < b
  pub apart : (i j : ℕ) → i < a → j < a → f i ≡ f j → i ≡ j

-- f takes a number below n to k
pub record Meets (f : ℕ → ℕ) (n k : ℕ) : Type 0 where
  pub from : ℕ
  pub below : from < n
  pub is : f from ≡ k

-- f with the number that it takes to n sent to f n
moved : (ℕ → ℕ) → ℕ → ℕ → ℕ
moved f n i = cond (eqb (f i) n) (f n) (f i)

module _ (f : ℕ → ℕ) (n : ℕ) where
  moved_yes : (i : ℕ) → f i ≡ n → moved f n i ≡ f n
  unfolding moved
  moved_yes i e = simp (eq-eqb (f i) n e)

  moved_no : (i : ℕ) → (f i ≡ n → ⊥) → moved f n i ≡ f i
  unfolding moved
  moved_no i e = simp (ne_eqb (f i) n e)

  module _ (h : Injects f (suc n) (suc n)) where
    -- only n can go to what n goes to
    alone : (i : ℕ) → i < n → f i ≡ f n → ⊥
    alone i l e = omega (arith, h.apart i n (omega arith) (omega arith) e)

    moved_injects : Injects (moved f n) n n
    moved_injects =
        record {
          into = λ i l.
              is_or (f i) n
              (λ e. let ne : f n ≡ n → ⊥ = λ q. alone i l (e ∙ sym q) in omega (arith, moved_yes i e, h.into n (omega arith)))
              (λ e. omega (arith, moved_no i e, h.into i (omega arith)));
          apart = λ i j a b e.
              is_or (f i) n
              (λ p.
              is_or (f j) n
              (λ q. h.apart i j (omega arith) (omega arith) (p ∙ sym q))
              (λ q. absurd (alone j b (sym (moved_no j q) ∙ sym e ∙ moved_yes i p))))
              (λ p.
              is_or (f j) n
              (λ q. absurd (alone i a (sym (moved_no i p) ∙ e ∙ moved_yes j q)))
              (λ q. h.apart i j (omega arith) (omega arith) (sym (moved_no i p) ∙ e ∙ moved_no j q)));
        }

-- into the numbers below n themselves it meets each of them
pub onto : (n : ℕ) (f : ℕ → ℕ) → Injects f n n → (k : ℕ) → k < n → Meets f n k
onto zero f h k l = absurd (omega arith)
onto (suc n) f h k l =
    is_or (f n) k
    (λ e. record { from = n; below = omega arith; is = e })
    (λ ne.
    is_or k n
    (λ e.
    let m = onto n (moved f n) (moved_injects f n h) (f n) (omega (arith, h.into n (omega arith))) in
    record {
      from = m.from;
      below = omega (arith, m.below);
      is = is_or (f m.from) n (λ q. q ∙ sym e) (λ q. absurd (alone f n h m.from m.below (sym (moved_no f n m.from q) ∙ m.is)));
    })
    (λ e.
    let m = onto n (moved f n) (moved_injects f n h) k (omega arith) in
    record {
      from = m.from;
      below = omega (arith, m.below);
      is = is_or (f m.from) n (λ q. absurd (ne (sym (moved_yes f n m.from q) ∙ m.is))) (λ q. sym (moved_no f n m.from q) ∙ m.is);
    }))

-- into the numbers below b there are no more than b
pub no_more : (a b : ℕ) (f : ℕ → ℕ) → Injects f a b → a ≤ b
no_more a b f h =
    dite (dec_le a b) (λ (l : a ≤ b). l)
    (λ (l : ¬ (a ≤ b)).
    let g : Injects f b b = record { into = λ i q. h.into i (omega arith); apart = λ i j p q. h.apart i j (omega arith) (omega arith) } in
    let m = onto b f g (f b) (h.into b (omega arith)) in
    absurd (omega (arith, m.below, h.apart m.from b (omega (arith, m.below)) (omega arith) m.is)))
