-- Cells that are copied one by one, to places before them, as a part of each list that is copied at once. Assumes nothing.
use Rattle.std.proofs.Common.{◌≡◌, refl, sym, ap, ◌∙◌, Bool, List, [], ◌∷◌, ◌++◌, set, get_or, length, take, drop, ℕ, zero, suc, ◌+◌, ◌-◌, ◌≤◌, ◌<◌, arith, pos, add-one, add-zero, append_assoc, append-nil, length-set}
use Rattle.std.proofs.Math.Seq.{take-suc-set}
use Rattle.std.proofs.lemmas.List.{take-append-drop, drop-set-lt, drop_more}
use Rattle.loops.specs.Over.{over, span}
use Rattle.store.specs.Program.{Prog, run, each}
use Rattle.store.specs.Store.{Store, Kind, field_mvs, field_refs, rd, wr, with_field}
use Rattle.field.specs.declared.Field.{Field}
use Rattle.field.specs.Copied.{copied}
use Rattle.field.specs.Lent.{stored}

-- cell p + i of a part goes from `from` to `to`
abbrev copying : {A : Type 0} → A → ℕ → ℕ → ℕ → List A → List A
copying d from to i l = set l (to + i) (get_or l (from + i) d)

pub copying_parts : {A : Type 0} (d : A) (from to n p : ℕ) (l : List A) → to + p + n ≤ from + p → from + p + n ≤ length l
    → over (copying d from to) 1 n p l ≡ copied (from + p) (to + p) n l
unfolding over
copying_parts d from to zero p l h k = rw (add-zero, append-nil) (sym (take-append-drop (to + p) l))
copying_parts {A = A} d from to (suc n) p l h k =
    let v : A = get_or l (from + p) d in
    let le : to + p < length l = omega arith in
    let lt : to + p < from + p + 1 = omega arith in
    let ls : to + p < to + p + 1 + n = omega arith in
    let e : to + (p + 1) ≡ to + p + 1 = omega arith in
    let g : from + (p + 1) ≡ from + p + 1 = omega arith in
    let ih : over (copying d from to) 1 n (p + 1) (set l (to + p) v) ≡ copied (from + (p + 1)) (to + (p + 1)) n (set l (to + p) v) = copying_parts d from to n (p + 1) (set l (to + p) v) (omega arith) (omega (arith, length-set {A = A})) in
    let t : take (to + p + 1) (set l (to + p) v) ≡ take (to + p) l ++ (v ∷ []) = rw add-one (take-suc-set l (to + p) v le) in
    let m : drop (from + p + 1) (set l (to + p) v) ≡ drop (from + p + 1) l = drop-set-lt (from + p + 1) l (to + p) v lt in
    let c : drop (from + p) l ≡ v ∷ drop (from + p + 1) l = drop_more l (from + p) d (omega arith) in
    let u : drop (to + p + 1 + n) (set l (to + p) v) ≡ drop (to + p + suc n) l = drop-set-lt (to + p + 1 + n) l (to + p) v ls ∙ (let q : to + p + 1 + n ≡ to + p + suc n = omega arith in ap (λ j. drop j l) q) in
    ih ∙ rw (e, g) (rw (t, m, u, c) (simp append_assoc))

-- a turn on the field
abbrev pub copy_turn : ℕ → ℕ → ℕ → Store → Store
copy_turn from to i s = wr (wr s field_mvs (to + i) (rd s field_mvs (from + i))) field_refs (to + i) (rd s field_refs (from + i))

pub copies : (from to n p : ℕ) (s : Store) → over (copy_turn from to) 1 n p s
    ≡ with_field s (over (copying (pos 0) from to) 1 n p s.field_y) (over (copying (pos 0) from to) 1 n p s.field_x) (over (copying 0 from to) 1 n p s.field_ref)
unfolding over
copies from to zero p s = refl
copies from to (suc n) p s = copies from to n (p + 1) (copy_turn from to p s)

-- a row's cells from column a up to b, as the program copies them
pub row_copied : (own : Kind → ℕ → Bool) (p : ℕ → Prog) (from to a b : ℕ) (f g : Field) → a ≤ b → ((x : ℕ) → a ≤ x → x < b → (s : Store) → run own (p x) s ≡ copy_turn from to x s)
    → to + b ≤ from + a → from + b ≤ length f.y.now → from + b ≤ length f.x.now → from + b ≤ length f.reference.now
    → g.y.now ≡ copied (from + a) (to + a) (b - a) f.y.now → g.x.now ≡ copied (from + a) (to + a) (b - a) f.x.now → g.reference.now ≡ copied (from + a) (to + a) (b - a) f.reference.now
    → (s : Store) → stored s g ≡ run own (each a b p) (stored s f)
unfolding span over
row_copied own p from to a b f g o h l ly lx lr ey ex er s =
    rw (ey, ex, er)
    (sym (go (b - a) a (λ x q u. h x q (omega arith)) (stored s f) ∙ copies from to (b - a) a (stored s f)
    ∙ rw (copying_parts (pos 0) from to (b - a) a f.y.now (omega arith) (omega arith), copying_parts (pos 0) from to (b - a) a f.x.now (omega arith) (omega arith), copying_parts 0 from to (b - a) a f.reference.now (omega arith) (omega arith)) refl))
  where
    go : (n i : ℕ) → ((x : ℕ) → i ≤ x → x < i + n → (s : Store) → run own (p x) s ≡ copy_turn from to x s) → (s : Store) → over (λ x. run own (p x)) 1 n i s ≡ over (copy_turn from to) 1 n i s
    go zero i k s = refl
    go (suc n) i k s = ap (over (λ x. run own (p x)) 1 n (i + 1)) (k i (omega arith) (omega arith) s) ∙ go n (i + 1) (λ x q u. k x (omega arith) (omega arith)) (copy_turn from to i s)
