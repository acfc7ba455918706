-- Laws of an answer's parts. Assumes nothing.
use Rattle.std.proofs.Common.{Result, Ok, Err, Bool, true, false, ◌&&◌, ◌≡◌, refl, ℤ, pos}
use Rattle.std.proofs.lemmas.Bool.Decides.{Decides-int_eq}
use Rattle.std.specs.Ordering.{int_eq}
use Rattle.std.specs.Result.{result_unwrap_or}
use Rattle.levels.specs.Answer.{refusal_of}
use Rattle.levels.specs.declared.QMv.{QMv}
use Rattle.levels.specs.declared.Refusal.{Refusal}
use Rattle.env.specs.Hints.{says_diff}

-- an answer's refusal number and difference, by its parts
pub told_diff : (r : Result ℤ Refusal) → (refusal_of r ≡ (says_diff r).refusal) × (result_unwrap_or r (pos 0) ≡ (says_diff r).diff)
told_diff (Ok d) = (refl, refl)
told_diff (Err e) = (refl, refl)

-- packed vectors that `==` finds equal, by their parts
both_of : (s t : Bool) → (s && t) ≡ true → (s ≡ true) × (t ≡ true)
both_of true t h = (refl, h)
both_of false t h = absurd cc

pub packed_of : {a b c d : ℤ} → a ≡ b → c ≡ d → ◌≡◌ {A = QMv} (record { y = a; x = c }) (record { y = b; x = d })
packed_of p q = cc

pub same_packed : (v w : QMv) → (int_eq v.y w.y && int_eq v.x w.x) ≡ true → v ≡ w
same_packed v w h = let s = both_of (int_eq v.y w.y) (int_eq v.x w.x) h in packed_of ((Decides-int_eq v.y w.y).0 s.0) ((Decides-int_eq v.x w.x).0 s.1)
