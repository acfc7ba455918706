-- A list that is filled in a part, as std's `fill` leaves it. Assumes nothing.
use Rattle.std.proofs.Common.{◌≡◌, refl, sym, ap, ◌∙◌, List, [], ◌∷◌, ◌++◌, set, length, replicate, take, drop, ℕ, zero, suc, ◌+◌, ◌-◌, ◌<◌, ◌≤◌, arith, add-one, add-zero, append_assoc, append-nil, length-set}
use Rattle.std.proofs.Math.Seq.{take-suc-set}
use Rattle.std.proofs.lemmas.List.{take-append-drop, drop-set-lt}
use Rattle.loops.specs.Over.{over, span}
use Rattle.loops.specs.Seven.{storing}
use Rattle.store.specs.Lent.{filled}

over_parts : {A : Type 0} (v : A) (n a : ℕ) (l : List A) → a + n ≤ length l → over (storing (λ i. v)) 1 n a l ≡ take a l ++ replicate n v ++ drop (a + n) l
unfolding over
over_parts v zero a l h = rw (add-zero, append-nil) (sym (take-append-drop a l))
over_parts {A = A} v (suc n) a l h =
    let le : a < length l = omega arith in
    let lt : a < a + 1 + n = omega arith in
    let ih : over (storing (λ i. v)) 1 n (a + 1) (set l a v) ≡ take (a + 1) (set l a v) ++ replicate n v ++ drop (a + 1 + n) (set l a v) = over_parts v n (a + 1) (set l a v) (omega (arith, length-set {A = A})) in
    let t : take (a + 1) (set l a v) ≡ take a l ++ (v ∷ []) = rw add-one (take-suc-set l a v le) in
    let d : drop (a + 1 + n) (set l a v) ≡ drop (a + suc n) l = drop-set-lt (a + 1 + n) l a v lt ∙ (let e : a + 1 + n ≡ a + suc n = omega arith in ap (λ k. drop k l) e) in
    ih ∙ rw (t, d) (simp append_assoc)

pub filled_parts : {A : Type 0} (v : A) (a b : ℕ) (l : List A) → a ≤ b → b ≤ length l → filled v a b l ≡ take a l ++ replicate (b - a) v ++ drop b l
unfolding span
filled_parts v a b l o h =
    let e : a + (b - a) ≡ b = omega arith in over_parts v (b - a) a l (omega arith) ∙ ap (λ k. take a l ++ replicate (b - a) v ++ drop k l) e

-- the cells before i hold v: one more
pub items_more : {A : Type 0} (v : A) (i : ℕ) (l : List A) → i < length l → set (replicate i v ++ drop i l) i v ≡ replicate (i + 1) v ++ drop (i + 1) l
items_more v zero (x ∷ l) h = refl
items_more v (suc i) (x ∷ l) h = rw add-one (ap (λ m. v ∷ m) (rw add-one at (items_more v i l (omega arith))))
items_more v i [] h = absurd (omega arith)
