-- What tests 9 and 12 say of a source and of a saved block. Assumes nothing.
use Rattle.std.proofs.Common.{◌≡◌, refl, sym, ap, ◌∙◌, Bool, true, false, not, ◌&&◌, ◌||◌, if◌then◌else◌, None, Some, Result, Ok, Err, ℕ, zero, suc, ◌+◌, ◌≤◌, ◌<◌, arith, add-one, leb-true, leb-false, ltb-true, eqb-true, eqb, leb, ltb, ℤ, pos, negsuc, nat_abs, get_or, w8, SFits}
use Rattle.std.specs.Int.{FitsUnsignedBits}
use Rattle.std.specs.Prelude.{OkIff}
use Rattle.std.specs.Result.{result_ok}
use borrow.Author.Tests.{eqb-false}
use lib.Signed.{lt_z}
use Rattle.intops.specs.Choice.{eq_z}
use Rattle.intops.specs.Bounds.{Within}
use Rattle.intops.proofs.Signed.{signed, signed!, ud, eq_z-true}
use Rattle.intops.proofs.Tests.{and_both, not-false}
use Rattle.levels.specs.declared.QMv.{QMv}
use Rattle.mv.specs.Packing.{is_mark_byte}
use Rattle.entry.specs.declared.Source.{Source}
use Rattle.project.specs.Project.{ref2idx}
use Rattle.project.specs.Tested.{all_below, within, entry_in_range, source_in_range, block_fine}

-- what holds of each number below n
pub all_below_lem : (n : ℕ) (p : ℕ → Bool) → all_below n p ≡ true → (i : ℕ) → i < n → p i ≡ true
unfolding all_below
all_below_lem zero p h i l = absurd (omega arith)
all_below_lem (suc n) p h i l = go (eqb i n) refl (all_below_lem n p b.0 i)
  where
    b : (all_below n p ≡ true) × (p n ≡ true)
    b = and_both (all_below n p) (p n) h

    go : (e : Bool) → eqb i n ≡ e → (i < n → p i ≡ true) → p i ≡ true
    go true e below = rw (eqb-true i n e) b.1
    go false e below = let d : i ≡ n → ⊥ = eqb-false i n e in below (omega arith)

-- a loop that joins a test of each number below n
module _ (p : ℕ → Bool) where
  pub all_turn : (i : ℕ) (b t : Bool) → b ≡ all_below i p → t ≡ p i → (b && t) ≡ all_below (i + 1) p
  unfolding all_below
  all_turn i b t e h = rw (e, h, add-one i)

  pub all_end : (n i : ℕ) (b : Bool) → i ≤ n → n ≤ i → b ≡ all_below i p → b ≡ all_below n p
  all_end n i b l h e = let q : i ≡ n = omega arith in e ∙ ap (λ (m : ℕ). all_below m p) q

-- a range around 0 is a bound on the magnitude
pub abs_within : (n : ℕ) (z : ℤ) → within (negsuc n) (pos (suc n)) z ≡ leb (nat_abs z) (suc n)
abs_within n z = go (leb (nat_abs z) (suc n)) (lt_z z (negsuc n)) (lt_z (pos (suc n)) z) refl refl refl
  where
    go : (p q r : Bool) → leb (nat_abs z) (suc n) ≡ p → lt_z z (negsuc n) ≡ q → lt_z (pos (suc n)) z ≡ r → (not q && not r) ≡ p
    go true true r e f g = absurd (omega (signed, ud z, leb-true (nat_abs z) (suc n) e))
    go true false true e f g = absurd (omega (signed, ud z, leb-true (nat_abs z) (suc n) e))
    go true false false e f g = refl
    go false true r e f g = refl
    go false false true e f g = refl
    go false false false e f g = absurd (omega (signed, ud z, leb-false (nat_abs z) (suc n) e))

pub within_bounds : (a b z : ℤ) → within a b z ≡ true → (lt_z z a ≡ false) × (lt_z b z ≡ false)
within_bounds a b z h =
    let w = and_both (not (lt_z z a)) (not (lt_z b z)) h in
    (not-false (lt_z z a) w.0, not-false (lt_z b z) w.1)

-- -1 to 6: as a slot it is below 7
pub slot_low : (z : ℤ) → within (negsuc 0) (pos 6) z ≡ true → nat_abs z < 7
slot_low z h = let w = within_bounds (negsuc 0) (pos 6) z h in omega (signed, ud z, w.0, w.1)

not_below : (n : ℕ) → lt_z (pos n) (pos 0) ≡ false
not_below n = go (lt_z (pos n) (pos 0)) refl
  where
    go : (b : Bool) → lt_z (pos n) (pos 0) ≡ b → b ≡ false
    go true e = absurd (omega (signed, ud (pos n), e))
    go false e = refl

-- a signed byte made an index: there is one unless it is negative
module _ {E : Type 0} (r : Result ℕ E) (z : ℤ) (f : SFits w8 z) (h : OkIff r (FitsUnsignedBits 64 z) (nat_abs z)) where
  pub index_of : result_ok r ≡ (if lt_z z (pos 0) then None else Some (nat_abs z))
  index_of = go r z f h
    where
      go : (r : Result ℕ E) (z : ℤ) → SFits w8 z → OkIff r (FitsUnsignedBits 64 z) (nat_abs z) → result_ok r ≡ (if lt_z z (pos 0) then None else Some (nat_abs z))
      go (Ok n) (pos m) f h = rw (h.1, not_below m)
      go (Ok n) (negsuc m) f h = absurd h.0
      go (Err e) (pos m) f h = absurd (h (omega signed!))
      go (Err e) (negsuc m) f h = refl

  pub has_index : (n : ℕ) → r ≡ Ok n → (lt_z z (pos 0) ≡ false) × (n ≡ nat_abs z)
  has_index n e = go (lt_z z (pos 0)) refl
    where
      some : Some n ≡ (if lt_z z (pos 0) then None else Some (nat_abs z))
      some = sym (ap result_ok e) ∙ index_of

      go : (b : Bool) → lt_z z (pos 0) ≡ b → (lt_z z (pos 0) ≡ false) × (n ≡ nat_abs z)
      go true q = absurd (let k = rw q at some in cc)
      go false q = (q, let k = rw q at some in cc)

  pub no_index : (e : E) → r ≡ Err e → lt_z z (pos 0) ≡ true
  no_index d e = go (lt_z z (pos 0)) refl
    where
      none : None ≡ (if lt_z z (pos 0) then None else Some (nat_abs z))
      none = sym (ap result_ok e) ∙ index_of

      go : (b : Bool) → lt_z z (pos 0) ≡ b → lt_z z (pos 0) ≡ true
      go true q = q
      go false q = absurd (let k = rw q at none in cc)

-- a fine block's reference
pub fine_low : (r : ℤ) (q : QMv) → block_fine r q ≡ true → nat_abs r < 7
unfolding block_fine
fine_low r q h = go (eq_z r (negsuc 0)) refl
  where
    rest : Bool
    rest = not ((is_mark_byte q.y || is_mark_byte q.x) && not (is_mark_byte q.y && is_mark_byte q.x))

    go : (b : Bool) → eq_z r (negsuc 0) ≡ b → nat_abs r < 7
    go true e = rw (eq_z-true r (negsuc 0) e) (omega arith)
    go false e =
        let w = within_bounds (pos 0) (pos 6) r (and_both (within (pos 0) (pos 6) r) rest (rw e at h)).0 in
        omega (signed, ud r, w.0, w.1)

-- what test 9 says of a source: its own numbers, and those of its reference b
source_parts : (s : Source) → source_in_range s ≡ true → (s.reference.0 < 7) × (s.dir < 2) × (all_below 7 (entry_in_range s) ≡ true)
unfolding source_in_range
source_parts s h =
    let t1 : Bool = ltb s.reference.0 7 in
    let t2 : Bool = within (negsuc 0) (pos 6) s.tgt in
    let t3 : Bool = ltb s.dir 2 in
    let t4 : Bool = within (negsuc 31) (pos 31) s.ref2cur in
    let e5 = and_both (t1 && t2 && t3 && t4) (all_below 7 (entry_in_range s)) h in
    let e4 = and_both (t1 && t2 && t3) t4 e5.0 in
    let e3 = and_both (t1 && t2) t3 e4.0 in
    let e2 = and_both t1 t2 e3.0 in
    (ltb-true s.reference.0 7 e2.0, ltb-true s.dir 2 e3.1, e5.1)

pub entry_parts : (s : Source) → source_in_range s ≡ true → (b : ℕ) → b < 7
    → (within (negsuc 0) (pos 6) (ref2idx s b) ≡ true) × Within 507904 (get_or s.ref2sf0 b (pos 0)) × Within 507904 (get_or s.ref2sf1 b (pos 0))
entry_parts s h b l =
    let u1 : Bool = leb (nat_abs (get_or s.ref2ref b (pos 0))) 31 in
    let u2 : Bool = within (negsuc 0) (pos 6) (get_or s.ref2idx b (pos 0)) in
    let u3 : Bool = leb (nat_abs (get_or s.ref2sf0 b (pos 0))) 507904 in
    let u4 : Bool = leb (nat_abs (get_or s.ref2sf1 b (pos 0))) 507904 in
    let d3 = and_both (u1 && u2 && u3) u4 (all_below_lem 7 (entry_in_range s) (source_parts s h).2 b l) in
    let d2 = and_both (u1 && u2) u3 d3.0 in (
      (and_both u1 u2 d2.0).1,
      record { within = leb-true (nat_abs (get_or s.ref2sf0 b (pos 0))) 507904 d2.1 },
      record { within = leb-true (nat_abs (get_or s.ref2sf1 b (pos 0))) 507904 d3.1 },
    )

-- its slots and its direction
pub record SlotsLow (s : Source) : Type 0 where
  pub reference : s.reference.0 < 7
  pub dir : s.dir < 2
  pub idx : (b : ℕ) → b < 7 → nat_abs (ref2idx s b) < 7

pub slots_low : (s : Source) → source_in_range s ≡ true → SlotsLow s
slots_low s h = record { reference = (source_parts s h).0; dir = (source_parts s h).1; idx = λ b l. slot_low (ref2idx s b) (entry_parts s h b l).0 }
