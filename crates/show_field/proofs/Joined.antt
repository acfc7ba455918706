-- What a writer holds after parts that were written one behind the other. Assumes nothing.
use Rattle.std.proofs.Common.{List, ◌++◌, append_assoc, ◌≡◌, ap, ◌∙◌, sym, subst, ℕ, ◌+◌, Option}
use Rattle.std.specs.Io.KnownBytes.{Appends}
use Rattle.std.proofs.KnownBytes.{Appends-nil, Appends-trans}
use Rattle.text.specs.Joined.{joined}
use Rattle.text.proofs.Joined.{joined_last, joined_none}

pub written_none : (f : ℕ → List ℕ) (n : ℕ) (a : Option (List ℕ)) → n ≡ 0 → Appends a a (joined f n 0)
written_none f n a e = subst (λ (k : ℕ). Appends a a (joined f k 0)) (sym e) (subst (Appends a a) (joined_none f) (Appends-nil a))

pub written_more : (f : ℕ → List ℕ) (n m : ℕ) (a b c : Option (List ℕ)) → m ≡ n + 1 → Appends a b (joined f n 0) → Appends b c (f n) → Appends a c (joined f m 0)
written_more f n m a b c e p q = subst (λ (k : ℕ). Appends a c (joined f k 0)) (sym e) (subst (Appends a c) (sym (joined_last f n)) (Appends-trans a b c _ _ p q))

pub written_all : (f : ℕ → List ℕ) (n m : ℕ) (a b : Option (List ℕ)) → n ≡ m → Appends a b (joined f n 0) → Appends a b (joined f m 0)
written_all f n m a b e p = subst (λ (k : ℕ). Appends a b (joined f k 0)) e p

-- three pieces that were put behind o
pub in_turn : (o a m e : List ℕ) {p q r : List ℕ} → p ≡ o ++ a → q ≡ p ++ m → r ≡ q ++ e → r ≡ o ++ (a ++ (m ++ e))
in_turn o a m e x y z =
    z ∙ ap (λ (t : List ℕ). t ++ e) (y ∙ ap (λ (t : List ℕ). t ++ m) x) ∙ ap (λ (t : List ℕ). t ++ e) (append_assoc o a m) ∙ append_assoc o (a ++ m) e ∙ ap (λ (t : List ℕ). o ++ t) (append_assoc a m e)
