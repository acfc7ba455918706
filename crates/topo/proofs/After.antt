-- A slot stands after its references, unless a circle of references is in the way. Assumes nothing.
use Rattle.std.proofs.Common.{◌≡◌, refl, sym, ap, ◌∙◌, Bool, true, false, cond, ◌⊎◌, inl, inr, ⊎_elim, ℕ, zero, suc, ◌+◌, ◌<◌, ◌≤◌, arith, ltb, eqb, ltb-true, ltb-false, eqb-true}
use Rattle.loops.specs.Over.{span}
use Rattle.loops.proofs.Keeps.{span_in, span_to}
use Rattle.levels.specs.Slots.{slot_at, Stands}
use Rattle.topo.specs.declared.Order.{Order}
use Rattle.topo.specs.Topo.{Links, reference, free, marked, placed, link, enter, no_order, ordered}
use Rattle.topo.proofs.Laws.{marked_less, whole}
use Rattle.topo.specs.Theorems.{RefersTo, Reaches, direct, through, AfterReferences}
use Rattle.loops.proofs.Counting.{is_or}
use Rattle.topo.proofs.Perm.{place_of, Good, Run, runs, run_refl, run_trans, run_good, mark_good, entered, last_at, before_last, none_good}

-- each reference of a slot in the order stands before it, or refers back to it: a circle
abbrev After : Links → Order → Type 0
After g o = (k x : ℕ) → k < o.count → RefersTo g (slot_at o.list k) x → Stands o.list k x ⊎ Reaches g x (slot_at o.list k)

-- what a step to a slot does: its order stands, and the slot is entered
abbrev Steps : Links → ℕ → (ℕ → Order → Order) → Type 1
Steps g d go =
    (S : ℕ → Type 0) (k : ℕ) (s : Order) → k < 7 → Good S s → After g s → free s.place ≤ d → ((j : ℕ) → S j → Reaches g j k)
    → After g (go k s) × (place_of (go k s) k ≡ 7 → ⊥)

-- while the references of slot i are entered
record Turn (g : Links) (S : ℕ → Type 0) (i : ℕ) (m : Order) (p : ℕ) (s : Order) : Type 0 where
  run : Run S m s
  aft : After g s
  seen : (n : ℕ) → n < p → reference g i n < 7 → place_of s (reference g i n) ≡ 7 → ⊥

module _ (g : Links) (d : ℕ) (S : ℕ → Type 0) (i : ℕ) (o : Order) (st : Steps g d (enter d g)) (h : i < 7) (gd : Good S o) (af : After g o)
    (fr : free o.place ≤ suc d) (re : (j : ℕ) → S j → Reaches g j i) (z : place_of o i ≡ 7) where
  abbrev S' : ℕ → Type 0
  S' j = (j ≡ i) ⊎ S j

  mg : Good S' (marked i o)
  mg = mark_good (enter d g) g S i o (runs d g) h gd z

  turn_go : (p : ℕ) (s : Order) (t : Bool) → p < 7 → ltb (reference g i p) 7 ≡ t → Turn g S' i (marked i o) p s
      → Turn g S' i (marked i o) (p + 1) (cond t (enter d g (reference g i p) s) s)
  turn_go p s false l e t =
      record {
        run = t.run;
        aft = t.aft;
        seen = λ n a b. is_or n p (λ q. let c : reference g i p < 7 = rw q at b in absurd (omega (arith, c, ltb-false (reference g i p) 7 e))) (λ q. t.seen n (omega arith) b);
      }
  turn_go p s true l e t =
      let x = reference g i p in let hx : x < 7 = ltb-true _ _ e in
      let sg = run_good t.run mg.space in
      let r = runs d g S' x s hx sg in
      let to : RefersTo g i x = record { which = p; below = l; is = refl; some = hx } in
      let rs : (j : ℕ) → S' j → Reaches g j x = λ j y. ⊎_elim (λ (q : j ≡ i). rw q (direct to)) (λ q. through (re j q) to) y in
      let w = st S' x s hx sg t.aft (omega (arith, marked_less i o h gd.space.base z, t.run.grows.less)) rs in
      record {
        run = run_trans t.run r;
        aft = w.0;
        seen = λ n a b. is_or n p
            (λ q v. w.1 (ap (λ (k : ℕ). place_of (enter d g x s) (reference g i k)) (sym q) ∙ v))
            (λ q v. let u = t.seen n (omega arith) b in u (sym (r.adds.keep (reference g i n) u) ∙ v));
      }

  turns : Turn g S' i (marked i o) 7 (span (link (enter d g) g i) 0 7 (marked i o))
  turns =
      span_to (Turn g S' i (marked i o)) (link (enter d g) g i) 7 (λ p s l t. turn_go p s (ltb (reference g i p) 7) l refl t) (marked i o)
      (record { run = run_refl mg; aft = af; seen = λ n a. absurd (omega arith) })

  placed_after : After g (whole (enter d g) g i o)
  placed_after k x l r =
      let t = turns in let s = span (link (enter d g) g i) 0 7 (marked i o) in
      let gr = t.run.grows in let ad = t.run.adds in
      is_or k s.count
      (λ q.
      let la : slot_at (placed i s).list k ≡ i = ap (slot_at (placed i s).list) q ∙ last_at i o s h gd.space z gr ad in
      let to : RefersTo g i x = rw la at r in
      let ne : place_of s x ≡ 7 → ⊥ = λ v. t.seen to.which to.below (rw to.is to.some) (ap (place_of s) to.is ∙ v) in
      ⊎_elim
      (λ (y : Stands s.list s.count x). inl (record { at = y.at; below = omega (arith, y.below); is = before_last i o s h gd.space z gr ad y.at y.below ∙ y.is }))
      (λ y. inr (rw la (⊎_elim (λ (v : x ≡ i). rw v (direct (rw v at to))) (λ v. re x v) y)))
      (t.run.every x to.some ne))
      (λ q.
      let b : k < s.count = omega arith in
      let bl = before_last i o s h gd.space z gr ad k b in
      ⊎_elim
      (λ (y : Stands s.list k x). inl (record { at = y.at; below = y.below; is = before_last i o s h gd.space z gr ad y.at (omega (arith, y.below)) ∙ y.is }))
      (λ y. inr (rw bl y))
      (t.aft k x b (rw bl at r)))

step_go : (g : Links) (d : ℕ) (S : ℕ → Type 0) (i : ℕ) (o : Order) → Steps g d (enter d g) → i < 7 → Good S o → After g o → free o.place ≤ suc d → ((j : ℕ) → S j → Reaches g j i)
    → (t : Bool) → eqb (place_of o i) 7 ≡ t → After g (cond t (whole (enter d g) g i o) o)
step_go g d S i o st h gd af fr re false e = af
step_go g d S i o st h gd af fr re true e = placed_after g d S i o st h gd af fr re (eqb-true _ _ e)

steps : (d : ℕ) (g : Links) → Steps g d (enter d g)
unfolding enter
steps zero g S i o h gd af fr re = (af, λ (v : place_of o i ≡ 7). omega (arith, marked_less i o h gd.space.base v))
steps (suc d) g S i o h gd af fr re =
    (step_go g d S i o (steps d g) h gd af fr re (eqb (place_of o i) 7) refl, entered d g S i o h gd)

-- in the dependency order a slot stands after its references, circles apart
pub after_references : AfterReferences
unfolding ordered
after_references g n k y h =
    (span_in (λ (o : Order). Good (λ (j : ℕ). ⊥) o × After g o) (enter 7 g) n
    (λ p o l w. (
      run_good (runs 7 g (λ (j : ℕ). ⊥) p o (omega arith) w.0) w.0.space,
      (steps 7 g (λ (j : ℕ). ⊥) p o (omega arith) w.0 w.1 (omega (arith, w.0.space.base.room)) (λ j b. absurd b)).0,
    ))
    no_order (none_good, λ k x l. absurd (omega arith))).1 k y
