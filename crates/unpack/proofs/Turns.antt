-- Laws of the program's turns. Assumes nothing.
use Rattle.std.proofs.Common.{◌≡◌, ◌≢◌, Bool, true, false, not, ◌||◌, nat_eq, eqb-true, ℕ, ◌+◌, ◌*◌, ◌/◌, ◌%◌, List, [], ◌++◌, length, Option, Some, None, IfSome, OnOk, is_err, Result, Ok, Err, sym, ap, ◌∙◌, subst, refl, arith, append-nil, length-append, true≢false}
use borrow.Author.Tests.{eqb-false}
use Rattle.std.specs.Io.KnownBytes.{Consumes, Appends, IsAtEnd}
use Rattle.std.proofs.KnownBytes.{Consumes-nil, Consumes-trans, Appends-nil, Appends-trans}
use Rattle.unpack.specs.Text.{text}
use Rattle.unpack.proofs.Text.{in_parts}

-- what the turns so far have read and written, from a reader and a writer of known bytes: whole pairs
pub record SoFar (r₀ r w₀ w : Option (List ℕ)) : Type 0 where
  pub bytes : List ℕ
  pub pairs : ℕ
  pub even : length bytes ≡ 2 * pairs
  pub read : Consumes r₀ r bytes
  pub written : Appends w₀ w (text bytes)

pub before_first : (r w : Option (List ℕ)) → SoFar r r w w
unfolding text
before_first r w = record { bytes = []; pairs = 0; even = refl; read = Consumes-nil r; written = Appends-nil w }

-- one turn more, of a full buffer
pub next_turn : (r₀ r r' w₀ w w' : Option (List ℕ)) (bytes : List ℕ) → length bytes % 2 ≡ 0 → SoFar r₀ r w₀ w → Consumes r r' bytes → Appends w w' (text bytes) → SoFar r₀ r' w₀ w'
next_turn r₀ r r' w₀ w w' bytes e f p q = record {
  bytes = f.bytes ++ bytes;
  pairs = f.pairs + length bytes / 2;
  even = omega (arith, f.even, e, length-append f.bytes bytes);
  read = Consumes-trans _ _ _ _ _ f.read p;
  written = subst (Appends w₀ w') (sym (in_parts f.pairs f.bytes bytes f.even)) (Appends-trans _ _ _ _ _ f.written q);
}

at_end : (r₀ r w₀ w : Option (List ℕ)) (bytes : List ℕ) → Consumes r₀ r bytes → IsAtEnd r → Appends w₀ w (text bytes) → IfSome r₀ (λ xs. Appends w₀ w (text xs))
at_end None r w₀ w bytes c e a = tt
at_end (Some xs) None w₀ w bytes c e a = absurd c
at_end (Some xs) (Some ys) w₀ w bytes c e a = subst (λ (l : List ℕ). Appends w₀ w (text l)) (sym (c ∙ ap (λ (l : List ℕ). bytes ++ l) e ∙ append-nil bytes)) a

-- the last turn: the text of all that the reader had is written
pub last_turn : (r₀ r r' w₀ w w' : Option (List ℕ)) (bytes : List ℕ) → SoFar r₀ r w₀ w → Consumes r r' bytes → IsAtEnd r' → Appends w w' (text bytes) → IfSome r₀ (λ xs. Appends w₀ w' (text xs))
last_turn r₀ r r' w₀ w w' bytes f p e q =
    at_end r₀ r' w₀ w' (f.bytes ++ bytes) (Consumes-trans _ _ _ _ _ f.read p) e (subst (Appends w₀ w') (sym (in_parts f.pairs f.bytes bytes f.even)) (Appends-trans _ _ _ _ _ f.written q))

-- what a test of two lengths says
equal_of : (n m : ℕ) (b : Bool) → nat_eq n m ≡ b → not b ≡ false → n ≡ m
equal_of n m true e f = eqb-true n m e
equal_of n m false e f = absurd (true≢false f)

unequal_of : (n m : ℕ) (b : Bool) → nat_eq n m ≡ b → not b ≡ true → n ≢ m
unequal_of n m true e f = absurd (true≢false (sym f))
unequal_of n m false e f = eqb-false n m e

-- a run that goes on has written a full read
pub goes_on : {T E A : Type 0} (r : Result T E) (read size : ℕ) {last : Bool} → last ≡ (is_err r || not (nat_eq read size)) → last ≡ false → OnOk r A → A × (read ≡ size)
goes_on (Ok t) read size e f a = (a, equal_of read size _ refl (sym e ∙ f))
goes_on (Err x) read size e f a = absurd (true≢false (sym e ∙ f))

-- a last turn whose write is good was not a full read
pub on_last : {T E A B : Type 0} (r : Result T E) (read size : ℕ) {last : Bool} → last ≡ (is_err r || not (nat_eq read size)) → last ≡ true → OnOk r A → (read ≢ size → A → B) → OnOk r B
on_last (Ok t) read size e f a h = h (unequal_of read size _ refl (sym e ∙ f)) a
on_last (Err x) read size e f a h = tt
