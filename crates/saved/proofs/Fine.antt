-- What a saved block says that test 12 lets through. Assumes nothing.
use Rattle.std.proofs.Common.{◌≡◌, refl, sym, ap, ◌∙◌, Bool, true, false, not, cond, ◌&&◌, ◌||◌, true≢false, ℕ, ◌<◌, arith, ne_eqb, le-ltb, ℤ, pos, negsuc, nat_abs, w8, SFits, Option, None, Some}
use lib.Signed.{lt_z}
use Rattle.intops.specs.Choice.{eq_z, with_sign}
use Rattle.intops.proofs.Signed.{abs_sign}
use Rattle.intops.proofs.Tests.{and_both}
use Rattle.levels.specs.declared.Mv.{Mv}
use Rattle.levels.specs.declared.QMv.{QMv}
use Rattle.store.specs.Store.{vec}
use Rattle.mv.specs.Sums.{is_empty}
use Rattle.mv.specs.Packing.{is_mark_byte, unpack_mag, unpacked}
use Rattle.mv.specs.Projection.{past_range}
use Rattle.mv.proofs.Packing.{least, not_mark}
use Rattle.saved.specs.declared.Block.{Block}
use Rattle.project.specs.Tested.{within, block_fine}
use Rattle.saved.specs.Code.{saved_of}
use Rattle.project.proofs.Tested.{within_bounds}

abbrev block : ℕ → Mv → Block
block b v = record { reference = b; mv = v }

-- a byte that is not the mark's, unpacked
abbrev unpacked_byte : ℤ → ℤ
unpacked_byte z = with_sign z (unpack_mag (nat_abs z))

byte_low : (z : ℤ) → SFits w8 z → is_mark_byte z ≡ false → nat_abs (unpacked_byte z) < 2048
byte_low z f e = rw (abs_sign z (unpack_mag (nat_abs z))) (least (nat_abs z) (not_mark z f e)).below

not_empty : (z : ℤ) → nat_abs z < 2048 → eq_z z (pos 2097152) ≡ false
not_empty (pos n) l = ne_eqb n 2097152 (λ e. omega arith)
not_empty (negsuc n) l = refl

-- a reference that is not negative is not -1
pub not_none : (r : ℤ) → lt_z r (pos 0) ≡ false → eq_z r (negsuc 0) ≡ false
not_none (pos n) h = refl
not_none (negsuc n) h = absurd (true≢false h)

same_marks : (a b : Bool) → not ((a || b) && not (a && b)) ≡ true → a ≡ b
same_marks true true h = refl
same_marks true false h = sym h
same_marks false true h = h
same_marks false false h = refl

module _ (r : ℤ) (q : QMv) (h : block_fine r q ≡ true) where
  abbrev half : Bool
  half = (is_mark_byte q.y || is_mark_byte q.x) && not (is_mark_byte q.y && is_mark_byte q.x)

  rest : eq_z r (negsuc 0) ≡ false → (within (pos 0) (pos 6) r ≡ true) × (not half ≡ true)
  unfolding block_fine
  rest e = and_both (within (pos 0) (pos 6) r) (not half) (rw e at h)

  -- the only negative reference
  none : lt_z r (pos 0) ≡ true → eq_z r (negsuc 0) ≡ true
  none l = go (eq_z r (negsuc 0)) refl
    where
      go : (b : Bool) → eq_z r (negsuc 0) ≡ b → b ≡ true
      go true e = refl
      go false e = sym (within_bounds (pos 0) (pos 6) r (rest e).0).0 ∙ l

  both_marks : lt_z r (pos 0) ≡ false → is_mark_byte q.y ≡ is_mark_byte q.x
  both_marks l = same_marks (is_mark_byte q.y) (is_mark_byte q.x) (rest (not_none r l)).1

  pub no_reference : lt_z r (pos 0) ≡ true → None ≡ saved_of r q
  no_reference l = rw (none l)

  pub no_vector : lt_z r (pos 0) ≡ false → is_mark_byte q.y ≡ true → None ≡ saved_of r q
  no_vector l m = rw (not_none r l, m, sym (both_marks l) ∙ m)

  pub x_too : lt_z r (pos 0) ≡ false → is_mark_byte q.y ≡ false → is_mark_byte q.x ≡ false
  x_too l m = sym (both_marks l) ∙ m

  pub has_both : lt_z r (pos 0) ≡ false → is_mark_byte q.y ≡ false → SFits w8 q.y → Some (block (nat_abs r) (vec (unpacked_byte q.y) (unpacked_byte q.x))) ≡ saved_of r q
  has_both l m f = rw (not_none r l, m, x_too l m) (rw (not_empty (unpacked_byte q.y) (byte_low q.y f m)))

  pub has_range : lt_z r (pos 0) ≡ false → is_mark_byte q.y ≡ false → SFits w8 q.y → SFits w8 q.x → past_range (vec (unpacked_byte q.y) (unpacked_byte q.x)) ≡ false
  unfolding past_range
  has_range l m f g =
      let a : nat_abs (unpacked_byte q.y) < 2048 = byte_low q.y f m in
      let b : nat_abs (unpacked_byte q.x) < 2048 = byte_low q.x g (x_too l m) in
      rw (le-ltb 65535 (nat_abs (unpacked_byte q.y)) (omega arith), le-ltb 65535 (nat_abs (unpacked_byte q.x)) (omega arith))

-- ---- what the code finds, and what the definition goes on with

abbrev some : Option Block → Bool
some None = false
some (Some b) = true

module _ (r : ℤ) (q : QMv) where
  abbrev pub read : Bool
  read = not (eq_z r (negsuc 0)) && not (is_empty (unpacked q).vector)

  pub none_read : saved_of r q ≡ None → read ≡ false
  none_read h = go read refl h
    where
      go : (b : Bool) → read ≡ b → cond b (Some (block (nat_abs r) (unpacked q).vector)) None ≡ None → b ≡ false
      go true e k = ap some k
      go false e k = refl

  pub block_read : (b : Block) → saved_of r q ≡ Some b → (read ≡ true) × (nat_abs r ≡ b.reference) × ((unpacked q).vector ≡ b.mv)
  block_read b h = go read refl h
    where
      go : (c : Bool) → read ≡ c → cond c (Some (block (nat_abs r) (unpacked q).vector)) None ≡ Some b → (c ≡ true) × (nat_abs r ≡ b.reference) × ((unpacked q).vector ≡ b.mv)
      go true e k = (refl, cc, cc)
      go false e k = absurd (true≢false (sym (ap some k)))
