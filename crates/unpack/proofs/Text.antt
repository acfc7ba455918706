-- Laws of the program's text, and the theorem that specs/Text.antt states. Assumes nothing.
use Rattle.std.proofs.Common.{Bool, true, false, cond, List, [], ◌∷◌, ◌++◌, append_assoc, append-nil, ◌≡◌, refl, ap, ◌∙◌, sym, ℕ, zero, suc, ◌+◌, ◌*◌, ◌/◌, ◌%◌, ◌≤◌, ◌<◌, add-one, arith, ℤ, pos, length, codes, length-drop, drop, get_or, get_or-take, get_or-drop, drop_of_length-le, drop-cons}
use Rattle.std.specs.Fmt.{digits}
use Rattle.std.specs.Simd.{first_chunks}
use Rattle.std.proofs.Math.Seq.{drop-length}
use Rattle.intops.specs.Choice.{eq_z}
use Rattle.levels.specs.Answer.{Said, answered, refused, number_of}
use Rattle.levels.specs.declared.Mv.{Mv}
use Rattle.levels.specs.declared.QMv.{QMv}
use Rattle.levels.specs.declared.Refusal.{Refusal}
use Rattle.levels.proofs.Refusals.{number_pos}
use Rattle.intops.specs.Bits.{highest_bit, highest_from}
use Rattle.mv.specs.Packing.{unpacked, unpack_mag, first_with, pack_code}
use Rattle.text.specs.SignedByte.{signed_byte}
use Rattle.unpack.specs.Text.{pair_line, empty_line, short_line, numbers_line, line_of, text, InParts, Example}

pub in_parts : InParts
unfolding text
in_parts zero [] b e = refl
in_parts zero (x ∷ a) b e = absurd (omega arith)
in_parts (suc k) [] b e = absurd (omega arith)
in_parts (suc k) (x ∷ []) b e = absurd (omega arith)
in_parts (suc k) (y ∷ x ∷ a) b e = rw (in_parts k a b (omega arith), append_assoc)

pub example : Example
unfolding text pair_line line_of numbers_line digits unpack_mag first_with pack_code highest_bit highest_from
example = refl

-- the text from a pair on
pub text_pair : (l : List ℕ) (i : ℕ) → i + 1 < length l → text (drop i l) ≡ pair_line (get_or l i 0) (get_or l (i + 1) 0) ++ text (drop (i + 2) l)
unfolding text
text_pair l i h =
    let two : i + 2 ≡ suc (suc i) = omega arith in
    let e = drop-cons l i 0 (omega arith) ∙ ap (λ (t : List ℕ). get_or l i 0 ∷ t) (drop-cons l (suc i) 0 (omega arith)) in
    rw (two, add-one) (ap text e)

-- the text from a lone last byte on
pub text_lone : (l : List ℕ) (i : ℕ) → i + 1 ≡ length l → text (drop i l) ≡ short_line
unfolding text
text_lone l i h =
    let e = drop-cons l i 0 (omega arith) ∙ ap (λ (t : List ℕ). get_or l i 0 ∷ t) (drop_of_length-le l {i = suc i} (omega arith)) in ap text e

-- the text from the end on
pub text_end : (l : List ℕ) (i : ℕ) → i ≡ length l → text (drop i l) ≡ []
unfolding text
text_end l i e = rw (e, drop-length)

pub pair_line_lem : {y x : ℤ} (a b : ℕ) → y ≡ signed_byte a → x ≡ signed_byte b → line_of (unpacked (record { y = y; x = x })) ≡ pair_line a b
unfolding pair_line
pair_line_lem a b e h = rw (e, h)

-- ---- the line of each answer

pub line_empty : {s : Said} (v : Mv) → s ≡ answered v → eq_z v.y (pos 2097152) ≡ true → empty_line ≡ line_of s
unfolding line_of
line_empty v e h = rw (e, h)

pub line_numbers : {s : Said} (v : Mv) → s ≡ answered v → eq_z v.y (pos 2097152) ≡ false → numbers_line v.y v.x ≡ line_of s
unfolding line_of
line_numbers v e h = rw (e, h)

pub line_half_mark : {s : Said} → s ≡ refused 2 → codes "refused 2\n" ≡ line_of s
unfolding line_of digits
line_half_mark e = rw e

-- unpacking refuses with the number 2 and with no other
two_of : (k : ℕ) (both either : Bool) (v w : Mv) → 0 < k → refused k ≡ cond both (answered v) (cond either (refused 2) (answered w)) → k ≡ 2
two_of k true either v w p e = let z : k ≡ 0 = ap (λ (s : Said). s.refusal) e in absurd (omega arith)
two_of k false true v w p e = ap (λ (s : Said). s.refusal) e
two_of k false false v w p e = let z : k ≡ 0 = ap (λ (s : Said). s.refusal) e in absurd (omega arith)

pub refused_by_two : (q : QMv) (e : Refusal) → refused (number_of e) ≡ unpacked q → number_of e ≡ 2
refused_by_two q e h = two_of (number_of e) _ _ _ _ (number_pos e) h

-- ---- the program's loop over pairs: what is put, with the text of what is still to come, is the whole text

-- byte j of pair i
pair_at : (k i j : ℕ) (l : List ℕ) → i < k → j < 2 → 2 * k ≤ length l → get_or (get_or (first_chunks 2 k l) i []) j 0 ≡ get_or l (2 * i + j) 0
pair_at zero i j l h b f = absurd (omega arith)
pair_at (suc k) zero j l h b f = let e : 2 * 0 + j ≡ j = omega arith in rw e (get_or-take 2 l j 0 b)
pair_at (suc k) (suc i) j l h b f =
    let e : 2 + (2 * i + j) ≡ 2 * suc i + j = omega arith in
    pair_at k i j (drop 2 l) (omega arith) b (omega (arith, length-drop 2 l)) ∙ get_or-drop 2 l (2 * i + j) 0 ∙ ap (λ (n : ℕ). get_or l n 0) e

pub text_step : (done more input whole : List ℕ) (pairs : List (List ℕ)) (i : ℕ) {y x : ℤ} → pairs ≡ first_chunks 2 (length input / 2) input → i < length input / 2 → y ≡ signed_byte (get_or (get_or pairs i []) 0 0) → x ≡ signed_byte (get_or (get_or pairs i []) 1 0) → more ≡ done ++ line_of (unpacked (record { y = y; x = x })) → done ++ text (drop (2 * i) input) ≡ whole → more ++ text (drop (2 * (i + 1)) input) ≡ whole
text_step done more input whole pairs i c h y x p e =
    let k = length input / 2 in
    let a : 2 * i + 0 ≡ 2 * i = omega arith in
    let f : get_or (get_or pairs i []) 0 0 ≡ get_or input (2 * i) 0 = ap (λ (l : List (List ℕ)). get_or (get_or l i []) 0 0) c ∙ pair_at k i 0 input h (omega arith) (omega arith) ∙ ap (λ (n : ℕ). get_or input n 0) a in
    let g : get_or (get_or pairs i []) 1 0 ≡ get_or input (2 * i + 1) 0 = ap (λ (l : List (List ℕ)). get_or (get_or l i []) 1 0) c ∙ pair_at k i 1 input h (omega arith) (omega arith) in
    let l = pair_line_lem (get_or input (2 * i) 0) (get_or input (2 * i + 1) 0) (rw f at y) (rw g at x) in
    let n : 2 * i + 2 ≡ 2 * (i + 1) = omega arith in
    rw (p, l, append_assoc) (rw n at (rw (text_pair input (2 * i) (omega arith)) at e))

pub text_whole : (done input whole : List ℕ) (i : ℕ) → i ≡ length input / 2 → length input % 2 ≡ 0 → done ++ text (drop (2 * i) input) ≡ whole → done ≡ whole
text_whole done input whole i h n e = sym (append-nil done) ∙ rw (text_end input (2 * i) (omega arith)) at e

pub text_short : (done input whole : List ℕ) (i : ℕ) → i ≡ length input / 2 → (length input % 2 ≡ 0 → ⊥) → done ++ text (drop (2 * i) input) ≡ whole → done ++ short_line ≡ whole
text_short done input whole i h n e = rw (text_lone input (2 * i) (omega arith)) at e
