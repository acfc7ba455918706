-- The name and the version at a file's front, byte by byte. Assumes nothing.
use Rattle.std.proofs.Common.{true, false, Bool, ◌&&◌, ◌≡◌, refl, sym, List, [], ◌∷◌, ℕ, ◌≤◌, length, eqb, arith}
use Rattle.std.proofs.Math.Bool.{and-true}
use Rattle.std.proofs.lemmas.Bool.{eqb-true, eqb-false}
use Rattle.std.specs.List.{starts_with}
use Rattle.framefile.specs.File.{is_frame_file}

both : (a b : ℕ) (s t : Bool) → eqb a b ≡ s → eqb b a ≡ t → s ≡ t
both a b true true e f = refl
both a b false false e f = refl
both a b true false e f = absurd (eqb-false b a f (sym (eqb-true a b e)))
both a b false true e f = absurd (eqb-false a b e (sym (eqb-true b a f)))

flip : (a b : ℕ) → eqb a b ≡ eqb b a
flip a b = both a b (eqb a b) (eqb b a) refl refl

chain : (a b c d e : Bool) → (a && (b && (c && (d && e)))) ≡ (a && b && c && d && e)
chain true true true true e = refl
chain true true true false e = refl
chain true true false d e = refl
chain true false c d e = refl
chain false b c d e = refl

pub named : (b : List ℕ) → 103 ≤ length b → starts_with eqb b (82 ∷ 77 ∷ 86 ∷ 70 ∷ 1 ∷ []) ≡ is_frame_file b
unfolding is_frame_file
named [] h = absurd (omega arith)
named (p ∷ []) h = absurd (omega arith)
named (p ∷ q ∷ []) h = absurd (omega arith)
named (p ∷ q ∷ r ∷ []) h = absurd (omega arith)
named (p ∷ q ∷ r ∷ s ∷ []) h = absurd (omega arith)
named (p ∷ q ∷ r ∷ s ∷ t ∷ rest) h = rw (flip 82 p, flip 77 q, flip 86 r, flip 70 s, flip 1 t, and-true (eqb t 1)) (chain (eqb p 82) (eqb q 77) (eqb r 86) (eqb s 70) (eqb t 1))
