-- Entering a slot: what it keeps, and that a depth of the slots not yet entered is deep enough. Assumes nothing.
use Rattle.std.proofs.Common.{Option, Some, None, ◌≡◌, refl, sym, ap, ◌∙◌, Bool, true, false, cond, List, [], ◌∷◌, ℕ, zero, suc, ◌+◌, ◌-◌, ◌<◌, ◌≤◌, le_of_suc-le-suc, arith, ltb, eqb, length, get_or, set, length-set, ltb-true, eqb-true, ne_eqb, eq-eqb, lt-ltb, le-ltb}
use mir.Val.{bool_byte}
use Rattle.loops.specs.Over.{over, span}
use Rattle.loops.proofs.Keeps.{span_in}
use Rattle.levels.specs.declared.Slot.{Slot}
use Rattle.levels.specs.Slots.{slot}
use Rattle.topo.specs.declared.Order.{Order}
use Rattle.topo.specs.Topo.{Links, number_of, reference, free, marked, placed, link, enter, no_order}
use Rattle.topo.specs.Theorems.{DeepEnough}

-- entering a slot leaves one fewer
pub free_less : (ps : List ℕ) (i : ℕ) → i < length ps → get_or ps i 0 ≡ 7 → free (set ps i 0) + 1 ≡ free ps
unfolding free
free_less [] i h e = absurd (omega arith)
free_less (p ∷ ps) zero h e = rw e (omega arith)
free_less (p ∷ ps) (suc i) h e = omega (arith, free_less ps i (le_of_suc-le-suc h) e)

one_no : (c : ℕ) → (c ≡ 7 → ⊥) → bool_byte (eqb c 7) ≡ 0
one_no c n = ap bool_byte (ne_eqb c 7 n)

-- a place is no slot more
pub free-set : (ps : List ℕ) (i c : ℕ) → (c ≡ 7 → ⊥) → free (set ps i c) ≤ free ps
unfolding free
free-set [] i c n = omega arith
free-set (p ∷ ps) zero c n = omega (arith, one_no c n)
free-set (p ∷ ps) (suc i) c n = omega (arith, free-set ps i c n)

-- there is room for every slot that is not entered
pub record Room (o : Order) : Type 0 where
  pub seven : length o.place ≡ 7
  pub room : o.count + free o.place ≤ 7

-- what entering does to an order: it enters some
pub record Grown (o r : Order) : Type 0 where
  pub len : length r.place ≡ length o.place
  pub less : free r.place ≤ free o.place
  pub sum : r.count + free r.place ≤ o.count + free o.place

pub grown_refl : (o : Order) → Grown o o
grown_refl o = record { len = refl; less = omega arith; sum = omega arith }

pub grown_trans : {o p r : Order} → Grown o p → Grown p r → Grown o r
grown_trans g h = record { len = h.len ∙ g.len; less = omega arith; sum = omega arith }

pub grown_room : {o r : Order} → Grown o r → Room o → Room r
grown_room g m = record { seven = g.len ∙ m.seven; room = omega arith }

-- the marked order has one slot fewer to enter
pub marked_less : (i : ℕ) (o : Order) → i < 7 → Room o → get_or o.place i 0 ≡ 7 → free (marked i o).place + 1 ≡ free o.place
marked_less i o h m e = free_less o.place i (omega (arith, m.seven)) e

pub marked_room : (i : ℕ) (o : Order) → i < 7 → Room o → get_or o.place i 0 ≡ 7 → Room (marked i o)
marked_room i o h m e = record { seven = length-set o.place i 0 ∙ m.seven; room = omega (arith, marked_less i o h m e, m.room) }

-- from the marked order with its references to the placed one
pub placed_grown : (i : ℕ) (o s : Order) → i < 7 → Room o → get_or o.place i 0 ≡ 7 → Grown (marked i o) s → Grown o (placed i s)
placed_grown i o s h m e g =
    let l = marked_less i o h m e in
    let c : s.count ≡ 7 → ⊥ = λ z. omega (arith, l, g.sum, m.room) in
    let f = free-set s.place i s.count c in
    record {
      len = length-set s.place i s.count ∙ g.len ∙ length-set o.place i 0;
      less = omega (arith, l, f, g.less);
      sum = omega (arith, l, f, g.sum);
    }

module _ (go : ℕ → Order → Order) (g : Links) (i n : ℕ) (m s : Order) where
  link_go : (t : Bool) → ltb (reference g i n) 7 ≡ t → Grown m s
      → (reference g i n < 7 → Grown s (go (reference g i n) s))
      → Grown m (cond t (go (reference g i n) s) s)
  link_go true e k h = grown_trans k (h (ltb-true _ _ e))
  link_go false e k h = k

  link_grown : Grown m s → (reference g i n < 7 → Grown s (go (reference g i n) s)) → Grown m (link go g i n s)
  link_grown k h = link_go (ltb (reference g i n) 7) refl k h

-- two folds whose steps are the same at each state of which P holds, where the first's steps keep P
module _ {S : Type 0} (P : S → Type 0) (f g : ℕ → S → S) (k : (p : ℕ) (s : S) → P s → P (f p s)) (e : (p : ℕ) (s : S) → P s → f p s ≡ g p s) where
  over_same : (n p : ℕ) (s : S) → P s → over f 1 n p s ≡ over g 1 n p s
  unfolding over
  over_same zero p s h = refl
  over_same (suc n) p s h = over_same n (p + 1) (f p s) (k p s h) ∙ ap (over g 1 n (p + 1)) (e p s h)

  span_same : (a b : ℕ) (s : S) → P s → span f a b s ≡ span g a b s
  unfolding span
  span_same a b s h = over_same (b - a) a s h

-- a step that grows each order with room
abbrev pub Grows : (ℕ → Order → Order) → Type 0
Grows go = (k : ℕ) (s : Order) → k < 7 → Room s → Grown s (go k s)

-- the references of a slot, and the slot
abbrev pub whole : (ℕ → Order → Order) → Links → ℕ → Order → Order
whole go g i o = placed i (span (link go g i) 0 7 (marked i o))

module _ (go : ℕ → Order → Order) (g : Links) (i : ℕ) (o : Order) (ih : Grows go) (h : i < 7) (m : Room o) where
  -- each step from the marked order on
  pub link_keeps : get_or o.place i 0 ≡ 7 → (p : ℕ) (s : Order) → Grown (marked i o) s → Grown (marked i o) (link go g i p s)
  link_keeps z p s k = link_grown go g i p (marked i o) s k (λ l. ih _ s l (grown_room k (marked_room i o h m z)))

  grown_go : (t : Bool) → eqb (get_or o.place i 0) 7 ≡ t → Grown o (cond t (whole go g i o) o)
  grown_go false e = grown_refl o
  grown_go true e =
      let z = eqb-true _ _ e in
      placed_grown i o _ h m z (span_in (Grown (marked i o)) (link go g i) 7 (λ p s l. link_keeps z p s) (marked i o) (grown_refl _))

-- entering a slot enters some and keeps the room
pub grown : (d : ℕ) (g : Links) → Grows (enter d g)
unfolding enter
grown zero g i o h m = grown_refl o
grown (suc d) g i o h m = grown_go (enter d g) g i o (grown d g) h m (eqb (get_or o.place i 0) 7) refl

-- with no slot left every slot is entered
none_left : (i : ℕ) (o : Order) → i < 7 → Room o → free o.place ≡ 0 → eqb (get_or o.place i 0) 7 ≡ false
none_left i o h m e = ne_eqb _ _ (λ (z : get_or o.place i 0 ≡ 7). omega (arith, marked_less i o h m z))

stops : (d : ℕ) (g : Links) (i : ℕ) (o : Order) → i < 7 → Room o → free o.place ≡ 0 → enter d g i o ≡ o
unfolding enter
stops zero g i o h m e = refl
stops (suc d) g i o h m e = rw (none_left i o h m e)

link_same : (f k : ℕ → Order → Order) (g : Links) (i n : ℕ) (s : Order)
    → (reference g i n < 7 → f (reference g i n) s ≡ k (reference g i n) s) → (t : Bool) → ltb (reference g i n) 7 ≡ t
    → cond t (f (reference g i n) s) s ≡ cond t (k (reference g i n) s) s
link_same f k g i n s e true h = e (ltb-true _ _ h)
link_same f k g i n s e false h = refl

same_go : (f k : ℕ → Order → Order) (g : Links) (i : ℕ) (o : Order) → Grows f → i < 7 → Room o
    → ((j : ℕ) (s : Order) → j < 7 → Room s → free s.place + 1 ≤ free o.place → f j s ≡ k j s)
    → (t : Bool) → eqb (get_or o.place i 0) 7 ≡ t → cond t (whole f g i o) o ≡ cond t (whole k g i o) o
same_go f k g i o ih h m e false w = refl
same_go f k g i o ih h m e true w =
    let z = eqb-true _ _ w in
    ap (placed i)
    (span_same (Grown (marked i o)) (link f g i) (link k g i) (link_keeps f g i o ih h m z)
    (λ p s q. link_same f k g i p s (λ l. e _ s l (grown_room q (marked_room i o h m z)) (omega (arith, q.less, marked_less i o h m z))) (ltb (reference g i p) 7) refl)
    0 7 (marked i o) (grown_refl _))

-- a depth of as many as are left is deep enough: more makes no difference
pub enough : (d e : ℕ) (g : Links) (i : ℕ) (o : Order) → i < 7 → Room o → free o.place ≤ d → free o.place ≤ e → enter d g i o ≡ enter e g i o
unfolding enter
enough zero e g i o h m a b = sym (stops e g i o h m (omega arith))
enough (suc d) zero g i o h m a b = stops (suc d) g i o h m (omega arith)
enough (suc d) (suc e) g i o h m a b =
    same_go (enter d g) (enter e g) g i o (grown d g) h m
    (λ j s l r q. enough d e g j s l r (omega arith) (omega arith))
    (eqb (get_or o.place i 0) 7) refl

step : (d : ℕ) (g : Links) (i : ℕ) (o : Order) → enter (suc d) g i o ≡ cond (eqb (get_or o.place i 0) 7) (whole (enter d g) g i o) o
unfolding enter
step d g i o = refl

-- so `enter 7` is its own step
pub unrolled : (g : Links) (i : ℕ) (o : Order) → i < 7 → Room o → enter 7 g i o ≡ cond (eqb (get_or o.place i 0) 7) (whole (enter 7 g) g i o) o
unrolled g i o h m = enough 7 8 g i o h m (omega (arith, m.room)) (omega (arith, m.room)) ∙ step 7 g i o

-- the two ways of the code
pub seen : (g : Links) (i : ℕ) (o : Order) → i < 7 → Room o → (get_or o.place i 0 ≡ 7 → ⊥) → o ≡ enter 7 g i o
seen g i o h m n = sym (unrolled g i o h m ∙ simp (ne_eqb _ _ n))

-- the slot i goes to the end, at the place j that is its index
pub entered : (g : Links) (i j : ℕ) (o s : Order) → j ≡ i → j < 7 → Room o → get_or o.place j 0 ≡ 7
    → s ≡ span (link (enter 7 g) g j) 0 7 (marked j o)
    → record { list = set s.list s.count (slot i); place = set s.place j s.count; count = s.count + 1 } ≡ enter 7 g i o
entered g i j o s q h m z e =
    let w : placed j s ≡ enter 7 g j o = sym (unrolled g j o h m ∙ simp (eq-eqb _ _ z) (ap (placed j) (sym e))) in
    rw (← q) w

-- a link that is no slot
pub none_number : (o : Option Slot) → ((s : Slot) → o ≡ Some s → ⊥) → 7 ≤ number_of o
none_number None h = omega arith
none_number (Some s) h = absurd (h s refl)

-- a turn of the loop: with a reference to enter, with one that is entered, with none
module _ (g : Links) (i n : ℕ) (m s s' : Order) (k : Grown m s) (r : Room m) where
  pub turn_yes : reference g i n < 7 → s' ≡ enter 7 g (reference g i n) s → Grown m s' × (s' ≡ link (enter 7 g) g i n s)
  turn_yes h e = (rw e (grown_trans k (grown 7 g _ s h (grown_room k r))), simp (lt-ltb _ _ h) e)

  pub turn_seen : (j : ℕ) → j ≡ reference g i n → reference g i n < 7 → (get_or s.place j 0 ≡ 7 → ⊥) → s' ≡ s → Grown m s' × (s' ≡ link (enter 7 g) g i n s)
  turn_seen j w h q e = turn_yes h (e ∙ seen g _ s h (grown_room k r) (λ z. q (ap (λ (x : ℕ). get_or s.place x 0) w ∙ z)))

  pub turn_no : 7 ≤ reference g i n → s' ≡ s → Grown m s' × (s' ≡ link (enter 7 g) g i n s)
  turn_no h e = (rw e k, simp (le-ltb _ _ h) e)

pub none_room : Room no_order
unfolding free
none_room = record { seven = refl; room = omega arith }

-- the depth of 7 is no limit
pub deep_enough : DeepEnough
deep_enough g i o h l m = unrolled g i o h (record { seven = l; room = m })
