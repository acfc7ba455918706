-- The theorems that specs/Theorems.antt states. Assumes nothing.
use Rattle.std.proofs.Common.{◌≡◌, refl, Bool, true, false, not, cond, ◌||◌, Option, Some, None, IfSome, [], ℕ, zero, suc, ◌+◌, ◌≤◌, ◌<◌, ◌⊎◌, inl, inr, arith, ltb, eqb, get_or, ltb-false, eqb-true, eq-eqb}
use borrow.Author.Tests.{eqb-false}
use Rattle.intops.proofs.Tests.{or_neither}
use Rattle.picks.specs.declared.Pocs.{Pocs}
use Rattle.levels.specs.declared.Slot.{Slot}
use Rattle.picks.specs.Hints.{no_hint, saved_of}
use Rattle.entry.specs.Entry.{found}
use Rattle.entry.proofs.Laws.{found_low}
use Rattle.loops.proofs.Seven.{seven_at}
use Rattle.refs.specs.Refs.{diffs, slot_if, link_in, link_of, links_from, links_of}
use Rattle.topo.specs.Topo.{number_of}
use Rattle.topo.specs.Theorems.{Among}
use Rattle.frame.specs.declared.Header.{Header}
use Rattle.frame.specs.Frame.{bad_superblock, bad_step, bad_size, refusal_of, frame_of, setup_of}
use Rattle.frame.specs.Theorems.{FrameInRange, AcceptedInRange, OrdersPermute}
use Rattle.frame.proofs.Range.{sources_in}
use Rattle.rank.proofs.Sorted as rank
use Rattle.topo.proofs.Perm as topo

-- ---- what the tests of a header that is not refused leave

passed : (t : Bool) (n x : ℕ) → cond t (suc n) x ≡ 0 → (t ≡ false) × (x ≡ 0)
passed true n x e = absurd (omega arith)
passed false n x e = (refl, e)

size_go : (n : ℕ) (t : Bool) → eqb n 0 ≡ t → cond t true (ltb 65536 n) ≡ false → (1 ≤ n) × (n ≤ 65536)
size_go n true e f = let z : ◌≡◌ {A = ℕ} 0 1 = cc in absurd (omega arith)
size_go zero false e f = absurd (eqb-false 0 0 e refl)
size_go (suc n) false e f = (omega arith, ltb-false 65536 (suc n) f)

good_size : (n : ℕ) → bad_size n ≡ false → (1 ≤ n) × (n ≤ 65536)
unfolding bad_size
good_size n e = size_go n (eqb n 0) refl e

step_go : (n : ℕ) (t u : Bool) → eqb n 1 ≡ t → eqb n 2 ≡ u → not (t || u) ≡ false → (1 ≤ n) × (n ≤ 2)
step_go n true u e f h = let k = eqb-true n 1 e in (omega arith, omega arith)
step_go n false true e f h = let k = eqb-true n 2 f in (omega arith, omega arith)
step_go n false false e f h = let z : ◌≡◌ {A = ℕ} 0 1 = cc in absurd (omega arith)

good_step : (n : ℕ) → bad_step n ≡ false → (1 ≤ n) × (n ≤ 2)
unfolding bad_step
good_step n e = step_go n (eqb n 1) (eqb n 2) refl refl e

good_superblock : (n : ℕ) → bad_superblock n ≡ false → n ≤ 2
unfolding bad_superblock
good_superblock n e = ltb-false 2 n e

in_range : (f : Header) → refusal_of f ≡ 0 → FrameInRange (frame_of f)
unfolding refusal_of frame_of
in_range f e =
    let a = passed (ltb 8 f.pocs.nbits) 2 _ e in
    let b = passed (ltb 7 f.pocs.n_refs) 3 _ a.1 in
    let c = passed (bad_superblock f.sb128) 4 _ b.1 in
    let d = passed (bad_step f.tmvp_sample_step) 5 _ c.1 in
    let g = passed (bad_size f.width || bad_size f.height) 6 _ d.1 in
    let h = or_neither (bad_size f.width) (bad_size f.height) g.0 in
    let w = good_size f.width h.0 in let t = good_size f.height h.1 in
    let p = good_step f.tmvp_sample_step d.0 in let s = sources_in f e in
    record {
      width_low = w.0;
      width_high = w.1;
      height_low = t.0;
      height_high = t.1;
      code = good_superblock f.sb128 c.0;
      step_low = p.0;
      step_high = p.1;
      slots = ltb-false 7 f.pocs.n_refs b.0;
      few = s.0;
      each = s.1;
    }

pub accepted_in_range : AcceptedInRange
unfolding setup_of
accepted_in_range f e = rw (eq-eqb (refusal_of f) 0 e) (in_range f e)

-- ---- the links are among the slots in use

abbrev Target : ℕ → Option Slot → Type 0
Target n o = (number_of o < n) ⊎ (7 ≤ number_of o)

found_target : (n : ℕ) (o : Option ℕ) → IfSome o (λ k. k < 0 + n) → Target n (slot_if o)
found_target n None h = inr (omega arith)
found_target n (Some k) h = inl (omega arith)

none_target : (n : ℕ) (t : Bool) (o : Option Slot) → Target n o → Target n (cond t None o)
none_target n true o h = inr (omega arith)
none_target n false o h = h

link_target : (h : Pocs) (i m : ℕ) → Target h.n_refs (link_of h i m)
unfolding link_in
link_target h i m =
    let x = get_or (saved_of h i).ref_poc m no_hint in
    none_target h.n_refs (eqb (saved_of h i).refcnt 0) _ (found_target h.n_refs (found h.ref_poc x h.n_refs 0) (found_low h.ref_poc x h.n_refs 0))

use_target : (n : ℕ) (t : Bool) (o : Option Slot) → Target n o → Target n (cond t o None)
use_target n true o h = h
use_target n false o h = inr (omega arith)

links_among : (h : Pocs) → h.n_refs ≤ 7 → Among h.n_refs (links_of h)
unfolding links_of links_from
links_among h l i m p q =
    rw (seven_at (links_from h) [] i (omega arith), seven_at (λ n. cond (ltb i h.n_refs) (link_of h i n) None) None m q)
    (use_target h.n_refs (ltb i h.n_refs) (link_of h i m) (link_target h i m))

pub orders_permute : OrdersPermute
orders_permute h l = (rank.is_permutation (diffs h) h.n_refs l, topo.is_permutation (links_of h) h.n_refs l (links_among h l))
