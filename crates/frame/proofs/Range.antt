-- Each source of the record lies in the ranges that the loader tests. Assumes nothing.
use Rattle.std.proofs.Common.{◌≡◌, refl, Bool, true, false, cond, List, Option, Some, None, IfSome, [], ◌∷◌, ◌<◌, ◌+◌, ℕ, zero, suc, ◌≤◌, arith, ltb, eqb, ℤ, pos, negsuc, neg_ℤ, nat_abs, ◌-ℤ◌, ◌≤ℤ◌, ◌-◌, get_or, replicate, ltb-false}
use Rattle.loops.specs.Seven.{seven}
use Rattle.loops.proofs.Seven.{seven_all}
use Rattle.intops.specs.Choice.{pick_z}
use Rattle.intops.proofs.Signed.{signed, ud, ud_neg}
use Rattle.levels.specs.declared.OrderHint.{OrderHint}
use Rattle.levels.specs.declared.Slot.{Slot}
use Rattle.picks.specs.declared.Pocs.{Pocs}
use Rattle.picks.specs.declared.MfmvRef.{MfmvRef}
use Rattle.picks.specs.declared.Picks.{Picks}
use Rattle.picks.specs.Hints.{hint_of, saved_of}
use Rattle.picks.specs.Picks.{Valid}
use Rattle.entry.specs.declared.Source.{Source}
use Rattle.entry.specs.Entry.{found, or_none, found_slot, size, same_sign, ratio_z, ref_diff, saved_hint, target_byte, blank_of, cur, full_of, source_of}
use Rattle.entry.proofs.Laws.{found_low, diff_le, size_le}
use Rattle.frame.specs.declared.Sources.{Sources}
use Rattle.frame.specs.declared.Header.{Header}
use Rattle.frame.specs.Frame.{Pickable, Fine, SourceInRange, no_pick, no_source, no_sources, source_at, filled, sources_of, picked, slot_of, refusal_of}
use Rattle.frame.proofs.Laws.{picked_fine, slot_small, accepted}

ratio_go : (n : ℕ) (t : Bool) → n ≤ 507904 → nat_abs (cond t (pos n) (neg_ℤ (pos n))) ≤ 507904
ratio_go n true h = h
ratio_go n false h = omega (signed, ud (neg_ℤ (pos n)), ud_neg (pos n))

ratio_le : (a b : ℤ) → nat_abs (ratio_z a b) ≤ 507904
unfolding ratio_z
ratio_le a b = ratio_go (size a b) (same_sign a b) (size_le a b)

none_go : (o : Option ℕ) → IfSome o (λ k. k < 0 + 7) → (negsuc 0 ≤ℤ or_none o) × (or_none o ≤ℤ pos 6)
none_go None h = (omega signed, omega signed)
none_go (Some k) h = (omega signed, omega signed)

found_in : (hs : List OrderHint) (x : OrderHint) → (negsuc 0 ≤ℤ found_slot hs x) × (found_slot hs x ≤ℤ pos 6)
unfolding found_slot
found_in hs x = none_go (found hs x 7 0) (found_low hs x 7 0)

target_go : (n : ℕ) (t : Bool) → n < 7 → ltb n 128 ≡ t → (negsuc 0 ≤ℤ pick_z t (pos n) (negsuc (255 - n))) × (pick_z t (pos n) (negsuc (255 - n)) ≤ℤ pos 6)
target_go n true h e = (omega (signed, h), omega (signed, h))
target_go n false h e = absurd (omega (arith, h, ltb-false n 128 e))

target_in : (t : Option Slot) → Valid t → (negsuc 0 ≤ℤ target_byte t) × (target_byte t ≤ℤ pos 6)
target_in None h = (omega signed, omega signed)
target_in (Some t) h = target_go t.0 (ltb t.0 128) h refl

-- the source p at c from the frame, with these entries for reference m
abbrev made : MfmvRef → ℤ → (ℕ → ℤ) → (ℕ → ℤ) → (ℕ → ℤ) → (ℕ → ℤ) → Source
made p c rs ks xs ys =
    record {
      reference = p.reference;
      tgt = target_byte p.tgt;
      dir = p.dir;
      ref2cur = c;
      ref2ref = seven rs;
      ref2idx = seven ks;
      ref2sf0 = seven xs;
      ref2sf1 = seven ys;
    }

made_in : (p : MfmvRef) (c : ℤ) (rs ks xs ys : ℕ → ℤ) → Pickable p → negsuc 31 ≤ℤ c → c ≤ℤ pos 31 → ((m : ℕ) → nat_abs (rs m) ≤ 31)
    → ((m : ℕ) → (negsuc 0 ≤ℤ ks m) × (ks m ≤ℤ pos 6)) → ((m : ℕ) → nat_abs (xs m) ≤ 507904) → ((m : ℕ) → nat_abs (ys m) ≤ 507904)
    → SourceInRange (made p c rs ks xs ys)
made_in p c rs ks xs ys h l u r k x y =
    record {
      reference = h.reference;
      target_low = (target_in p.tgt h.target).0;
      target_high = (target_in p.tgt h.target).1;
      dir = h.dir;
      cur_low = l;
      cur_high = u;
      refs = seven_all (λ (z : ℤ). nat_abs z ≤ 31) rs (pos 0) (omega arith) r;
      idx_low = seven_all (λ (z : ℤ). negsuc 0 ≤ℤ z) ks (pos 0) (omega signed) (λ m. (k m).0);
      idx_high = seven_all (λ (z : ℤ). z ≤ℤ pos 6) ks (pos 0) (omega signed) (λ m. (k m).1);
      to_cur = seven_all (λ (z : ℤ). nat_abs z ≤ 507904) xs (pos 0) (omega arith) x;
      to_ref = seven_all (λ (z : ℤ). nat_abs z ≤ 507904) ys (pos 0) (omega arith) y;
    }

blank_in : (p : MfmvRef) (c : ℤ) → Pickable p → negsuc 31 ≤ℤ c → c ≤ℤ pos 31 → SourceInRange (blank_of p c)
blank_in p c h l u =
    made_in p c (λ m. pos 0) (λ m. pos 0) (λ m. pos 0) (λ m. pos 0) h l u
    (λ m. omega arith) (λ m. (omega signed, omega signed)) (λ m. omega arith) (λ m. omega arith)

full_in : (h : Pocs) (p : MfmvRef) (i : ℕ) (c : ℤ) → Pickable p → negsuc 31 ≤ℤ c → c ≤ℤ pos 31 → SourceInRange (full_of h p i c)
full_in h p i c x l u =
    made_in p c (ref_diff h i) (λ m. found_slot h.ref_poc (saved_hint h i m)) (λ m. ratio_z c (ref_diff h i m)) (λ m. ratio_z (ref_diff h i m -ℤ c) (ref_diff h i m)) x l u
    (diff_le h.nbits (hint_of h i) (saved_of h i).ref_poc) (λ m. found_in h.ref_poc (saved_hint h i m))
    (λ m. ratio_le c (ref_diff h i m)) (λ m. ratio_le (ref_diff h i m -ℤ c) (ref_diff h i m))

source_go : (h : Pocs) (p : MfmvRef) (t : Bool) → ltb 31 (nat_abs (cur h p)) ≡ t → Pickable p
    → SourceInRange (cond t (blank_of p (negsuc 31)) (full_of h p p.reference.0 (cur h p)))
source_go h p true e x = blank_in p (negsuc 31) x (omega signed) (omega signed)
source_go h p false e x =
    let l = ltb-false 31 (nat_abs (cur h p)) e in
    full_in h p p.reference.0 (cur h p) x (omega (signed, ud (cur h p))) (omega (signed, ud (cur h p)))

pub source_in : (h : Pocs) (p : MfmvRef) → Pickable p → SourceInRange (source_of h p)
unfolding source_of
source_in h p x = source_go h p (ltb 31 (nat_abs (cur h p))) refl x

-- ---- all sources of the record

abbrev pub AllIn : Sources → Type 0
AllIn s = (s.n_mfmvs ≤ 4) × ((k : ℕ) → SourceInRange (get_or s.mfmv k no_source))

none_in : SourceInRange no_source
none_in = blank_in no_pick (pos 0) (record { reference = omega arith; target = omega arith; dir = omega arith }) (omega signed) (omega signed)

nones : (n k : ℕ) → SourceInRange (get_or (replicate n no_source) k no_source)
nones zero k = none_in
nones (suc n) zero = none_in
nones (suc n) (suc k) = nones n k

filled_in : (h : Pocs) (p : Picks) → Fine p → AllIn (filled h p)
unfolding filled
filled_in h p f = (f.few, each)
  where
    go : (i : ℕ) (t : Bool) → SourceInRange (cond t (source_of h (get_or p.list i no_pick)) no_source)
    go i true = source_in h _ (f.each i)
    go i false = none_in

    each : (k : ℕ) → SourceInRange (get_or (source_at h p 0 ∷ source_at h p 1 ∷ source_at h p 2 ∷ source_at h p 3 ∷ []) k no_source)
    each zero = go 0 (ltb 0 p.count)
    each (suc zero) = go 1 (ltb 1 p.count)
    each (suc (suc zero)) = go 2 (ltb 2 p.count)
    each (suc (suc (suc zero))) = go 3 (ltb 3 p.count)
    each (suc (suc (suc (suc k)))) = none_in

-- THE THEOREM: what an accepted frame's record says of its sources passes the loader's test
pub sources_in : (f : Header) → refusal_of f ≡ 0 → AllIn (sources_of f)
unfolding sources_of
sources_in f z = go f.use_ref_frame_mvs (eqb f.pocs.nbits 0) (ltb f.pocs.n_refs 2)
  where
    none : AllIn (no_sources 0 0)
    none = (omega arith, λ k. nones 4 k)

    some : AllIn (filled f.pocs (picked f.pocs f.rp_ref f.tip (slot_of f.tip0) (slot_of f.tip1)))
    some = filled_in f.pocs _ (picked_fine f.pocs f.rp_ref f.tip (slot_of f.tip0) (slot_of f.tip1) (accepted f z).1 (slot_small f.tip0) (slot_small f.tip1))

    go : (a b c : Bool)
        → AllIn (cond a (cond b (no_sources 0 0) (cond c (no_sources 0 0) (filled f.pocs (picked f.pocs f.rp_ref f.tip (slot_of f.tip0) (slot_of f.tip1))))) (no_sources 0 0))
    go false b c = none
    go true true c = none
    go true false true = none
    go true false false = some
