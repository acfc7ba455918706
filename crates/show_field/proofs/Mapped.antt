-- What `map_err` leaves of an answer. Assumes nothing.
use Rattle.std.proofs.Common.{refl, sym, ◌∙◌, Result, Ok, Err, MatchResult, IfOk, ◌≡◌}
use Rattle.std.specs.Result.{IsErrAnd}

module _ {T E D : Type 0} where
  pub was_ok : (P : E → D → Type 0) (r : Result T E) (q : Result T D) {x : T} → MatchResult r (λ x. q ≡ Ok x) (λ e. IsErrAnd q (P e)) → q ≡ Ok x → r ≡ Ok x
  was_ok P (Ok y) q {x = x} h e = let g : ◌≡◌ {A = Result T D} (Ok y) (Ok x) = sym h ∙ e in let k : y ≡ x = cc in rw k refl
  was_ok P (Err d) q h e = absurd (rw e at h)

  pub was_err : (P : E → D → Type 0) (r : Result T E) (q : Result T D) {d : D} → MatchResult r (λ x. q ≡ Ok x) (λ e. IsErrAnd q (P e)) → q ≡ Err d → (e : E) × (r ≡ Err e) × P e d
  was_err P (Ok y) q h e = absurd cc
  was_err P (Err d) q h e = (d, refl, rw e at h)

  -- what holds of the value holds of what is left, and of the new error what follows from its making
  pub mapped : (P : E → D → Type 0) (A : T → Type 0) (B : D → Type 0) (r : Result T E) (q : Result T D) → MatchResult r (λ x. q ≡ Ok x) (λ e. IsErrAnd q (P e)) → IfOk r A
      → ((e : E) (d : D) → P e d → B d) → MatchResult q A B
  mapped P A B (Ok y) q h a b = rw h a
  mapped P A B (Err e) (Ok x) h a b = absurd h
  mapped P A B (Err e) (Err d) h a b = b e d h
