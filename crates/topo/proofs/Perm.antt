-- Every slot in use is entered exactly once. Assumes nothing.
use Rattle.std.proofs.Common.{◌≡◌, refl, sym, ap, ◌∙◌, Bool, true, false, cond, ◌⊎◌, inl, inr, ⊎_elim, ℕ, zero, suc, ◌<◌, ◌≤◌, arith, ltb, eqb, length, get_or, length-set, get_or-set_same, get_or-set_other, ltb-true, eqb-true}
use Rattle.std.proofs.Math.Logic.{dite}
use Rattle.std.proofs.Math.Decide.{dec_le}
use Rattle.std.proofs.Math.ListN.{get_or-replicate}
use borrow.Author.Tests.{eqb-false}
use Rattle.loops.specs.Over.{over, span}
use Rattle.levels.specs.Slots.{slot, slot_at, Stands}
use Rattle.topo.specs.declared.Order.{Order}
use Rattle.topo.specs.Topo.{Links, reference, marked, placed, link, enter, no_order, ordered}
use Rattle.topo.specs.Theorems.{Among, IsPermutation}
use Rattle.loops.proofs.Counting.{is_or, no_more}
use Rattle.loops.proofs.Keeps.{span_in, span_to}
use Rattle.loops.proofs.Slots.{stored_here, stored_else, permutes}
use Rattle.topo.proofs.Small.{ordered_below}
use Rattle.topo.proofs.Laws.{Room, Grown, grown, grown_refl, grown_trans, grown_room, marked_less, marked_room, whole, none_room}

-- a slot's place
abbrev pub place_of : Order → ℕ → ℕ
place_of o i = get_or o.place i 0

-- what is at 7 unless it is not
settle : (a : ℕ) → ((a ≡ 7 → ⊥) → ⊥) → a ≡ 7
settle a h = is_or a 7 (λ e. e) (λ n. absurd (h n))

-- ---- what entering adds: places stand, the order grows at its end, by slots that were not entered

pub record Added (o r : Order) : Type 0 where
  pub keep : (j : ℕ) → (place_of o j ≡ 7 → ⊥) → place_of r j ≡ place_of o j
  pub more : o.count ≤ r.count
  pub old : (k : ℕ) → k < o.count → slot_at r.list k ≡ slot_at o.list k
  pub new : (k : ℕ) → o.count ≤ k → k < r.count → place_of o (slot_at r.list k) ≡ 7
  pub long : length r.list ≡ length o.list

added_refl : (o : Order) → Added o o
added_refl o = record { keep = λ j n. refl; more = omega arith; old = λ k h. refl; new = λ k a b. absurd (omega arith); long = refl }

added_trans : {o p r : Order} → Added o p → Added p r → Added o r
added_trans {o} {p} {r} f g =
    record {
      keep = λ j n. g.keep j (λ (e : place_of p j ≡ 7). n (sym (f.keep j n) ∙ e)) ∙ f.keep j n;
      more = omega (arith, f.more, g.more);
      old = λ k h. g.old k (omega (arith, f.more)) ∙ f.old k h;
      new = λ k a b.
          dite (dec_le p.count k)
          (λ (l : p.count ≤ k). settle (place_of o (slot_at r.list k)) (λ n. n (sym (f.keep (slot_at r.list k) n) ∙ g.new k l b)))
          (λ (l : ¬ (p.count ≤ k)). let q : k < p.count = omega arith in ap (place_of o) (g.old k q) ∙ f.new k a q);
      long = g.long ∙ f.long;
    }

-- room for all, in the list too
pub record Space (o : Order) : Type 0 where
  pub base : Room o
  pub listed : length o.list ≡ 7

-- no slot stands twice: where it stands is its place
abbrev pub Once : Order → Type 0
Once o = (k : ℕ) → k < o.count → (slot_at o.list k < 7) × (place_of o (slot_at o.list k) ≡ k)

-- each entered slot stands in the order, those of S apart (they wait for their references)
abbrev pub Whole : (ℕ → Type 0) → Order → Type 0
Whole S o = (j : ℕ) → j < 7 → (place_of o j ≡ 7 → ⊥) → Stands o.list o.count j ⊎ S j

-- a slot that is not entered, marked, its references entered, and placed
module _ (i : ℕ) (o s : Order) (h : i < 7) (m : Space o) (z : place_of o i ≡ 7) (gr : Grown (marked i o) s) (ad : Added (marked i o) s) where
  mark_same : place_of (marked i o) i ≡ 0
  mark_same = get_or-set_same o.place i 0 0 (omega (arith, m.base.seven))

  mark_other : (j : ℕ) → (j ≡ i → ⊥) → place_of (marked i o) j ≡ place_of o j
  mark_other j n = get_or-set_other o.place i j 0 0 n

  small : s.count < 7
  small = omega (arith, marked_less i o h m.base z, gr.sum, m.base.room)

  put_same : place_of (placed i s) i ≡ s.count
  put_same = get_or-set_same s.place i s.count 0 (omega (arith, gr.len, length-set o.place i 0, m.base.seven))

  put_other : (j : ℕ) → (j ≡ i → ⊥) → place_of (placed i s) j ≡ place_of s j
  put_other j n = get_or-set_other s.place i j s.count 0 n

  pub last_at : slot_at (placed i s).list s.count ≡ i
  last_at = stored_here s.list s.count i (omega (arith, small, ad.long, m.listed))

  pub before_last : (k : ℕ) → k < s.count → slot_at (placed i s).list k ≡ slot_at s.list k
  before_last k l = stored_else s.list k s.count i (λ (e : k ≡ s.count). omega arith)

  whole_added : Added o (placed i s)
  whole_added =
      record {
        keep = λ j n.
            let ne : j ≡ i → ⊥ = λ (e : j ≡ i). n (ap (place_of o) e ∙ z) in
            put_other j ne ∙ ad.keep j (λ e. n (sym (mark_other j ne) ∙ e)) ∙ mark_other j ne;
        more = omega (arith, ad.more);
        old = λ k l. before_last k (omega (arith, ad.more)) ∙ ad.old k l;
        new = λ k a b.
            is_or k s.count
            (λ e. ap (λ (x : ℕ). place_of o (slot_at (placed i s).list x)) e ∙ ap (place_of o) last_at ∙ z)
            (λ n.
            let l : k < s.count = omega arith in
            let q = ad.new k a l in
            let ne : slot_at s.list k ≡ i → ⊥ = λ (e : slot_at s.list k ≡ i). let w : place_of (marked i o) i ≡ 7 = ap (place_of (marked i o)) (sym e) ∙ q in omega (arith, w, mark_same) in
            ap (place_of o) (before_last k l) ∙ sym (mark_other (slot_at s.list k) ne) ∙ q);
        long = length-set s.list s.count (slot i) ∙ ad.long;
      }

  -- no slot of the order is this one before it is placed
  not_yet : Once o → (k : ℕ) → k < s.count → slot_at s.list k ≡ i → ⊥
  not_yet on k l e =
      dite (dec_le o.count k)
      (λ (a : o.count ≤ k). let w : place_of (marked i o) i ≡ 7 = ap (place_of (marked i o)) (sym e) ∙ ad.new k a l in omega (arith, w, mark_same))
      (λ (a : ¬ (o.count ≤ k)).
      let b : k < o.count = omega arith in
      let w : place_of o i ≡ k = ap (place_of o) (sym e ∙ ad.old k b) ∙ (on k b).1 in
      omega (arith, w, z, m.base.room))

  mark_once : Once o → Once (marked i o)
  mark_once on k l =
      let ne : slot_at o.list k ≡ i → ⊥ = λ (e : slot_at o.list k ≡ i). let w : place_of o i ≡ k = ap (place_of o) (sym e) ∙ (on k l).1 in omega (arith, w, z, m.base.room) in
      ((on k l).0, mark_other (slot_at o.list k) ne ∙ (on k l).1)

  put_once : Once o → Once s → Once (placed i s)
  put_once on os k l =
      is_or k s.count
      (λ e.
      let w : slot_at (placed i s).list k ≡ i = ap (slot_at (placed i s).list) e ∙ last_at in
      (omega (arith, w, h), ap (place_of (placed i s)) w ∙ put_same ∙ sym e))
      (λ n.
      let b : k < s.count = omega arith in
      let w = before_last k b in
      (omega (arith, w, (os k b).0), ap (place_of (placed i s)) w ∙ put_other (slot_at s.list k) (not_yet on k b) ∙ (os k b).1))

  mark_whole : (S : ℕ → Type 0) → Whole S o → Whole (λ (j : ℕ). (j ≡ i) ⊎ S j) (marked i o)
  mark_whole S w j l n =
      is_or j i (λ e. inr (inl e))
      (λ ne. ⊎_elim inl (λ x. inr (inr x)) (w j l (λ e. n (mark_other j ne ∙ e))))

  put_whole : (S : ℕ → Type 0) → Whole (λ (j : ℕ). (j ≡ i) ⊎ S j) s → Whole S (placed i s)
  put_whole S w j l n =
      is_or j i
      (λ e. inl (record { at = s.count; below = omega arith; is = last_at ∙ sym e }))
      (λ ne.
      ⊎_elim
      (λ (st : Stands s.list s.count j). inl (record { at = st.at; below = omega (arith, st.below); is = before_last st.at st.below ∙ st.is }))
      (λ x. ⊎_elim (λ e. absurd (ne e)) (λ y. inr y) x)
      (w j l (λ e. n (put_other j ne ∙ e))))

-- ---- the whole insertion

pub record Good (S : ℕ → Type 0) (o : Order) : Type 0 where
  pub space : Space o
  pub once : Once o
  pub every : Whole S o

pub record Run (S : ℕ → Type 0) (o r : Order) : Type 0 where
  pub grows : Grown o r
  pub adds : Added o r
  pub once : Once r
  pub every : Whole S r

pub run_refl : {S : ℕ → Type 0} {o : Order} → Good S o → Run S o o
run_refl {S} {o} g = record { grows = grown_refl o; adds = added_refl o; once = g.once; every = g.every }

pub run_trans : {S : ℕ → Type 0} {o p r : Order} → Run S o p → Run S p r → Run S o r
run_trans f g = record { grows = grown_trans f.grows g.grows; adds = added_trans f.adds g.adds; once = g.once; every = g.every }

pub run_good : {S : ℕ → Type 0} {o r : Order} → Run S o r → Space o → Good S r
run_good f s = record { space = record { base = grown_room f.grows s.base; listed = f.adds.long ∙ s.listed }; once = f.once; every = f.every }

abbrev Runs : (ℕ → Order → Order) → Type 1
Runs go = (S : ℕ → Type 0) (k : ℕ) (s : Order) → k < 7 → Good S s → Run S s (go k s)

link_go : (go : ℕ → Order → Order) (S : ℕ → Type 0) (x : ℕ) (m s : Order) (t : Bool) → ltb x 7 ≡ t → Runs go → Space m → Run S m s → Run S m (cond t (go x s) s)
link_go go S x m s true e ih sp r = run_trans r (ih S x s (ltb-true _ _ e) (run_good r sp))
link_go go S x m s false e ih sp r = r

module _ (go : ℕ → Order → Order) (g : Links) (S : ℕ → Type 0) (i : ℕ) (o : Order) (ih : Runs go) (h : i < 7) (gd : Good S o) where
  pub mark_good : place_of o i ≡ 7 → Good (λ (j : ℕ). (j ≡ i) ⊎ S j) (marked i o)
  mark_good z =
      record {
        space = record { base = marked_room i o h gd.space.base z; listed = gd.space.listed };
        once = mark_once i o (marked i o) h gd.space z (grown_refl _) (added_refl _) gd.once;
        every = mark_whole i o (marked i o) h gd.space z (grown_refl _) (added_refl _) S gd.every;
      }

  inner : (z : place_of o i ≡ 7) → Run (λ (j : ℕ). (j ≡ i) ⊎ S j) (marked i o) (span (link go g i) 0 7 (marked i o))
  inner z =
      span_in (Run (λ (j : ℕ). (j ≡ i) ⊎ S j) (marked i o)) (link go g i) 7
      (λ p s l r. link_go go (λ (j : ℕ). (j ≡ i) ⊎ S j) (reference g i p) (marked i o) s (ltb (reference g i p) 7) refl ih (mark_good z).space r)
      (marked i o) (run_refl (mark_good z))

  run_go : (t : Bool) → eqb (place_of o i) 7 ≡ t → Grown o (cond t (whole go g i o) o) → Run S o (cond t (whole go g i o) o)
  run_go false e gr = run_refl gd
  run_go true e gr =
      let z = eqb-true _ _ e in let r = inner z in let s = span (link go g i) 0 7 (marked i o) in
      record {
        grows = gr;
        adds = whole_added i o s h gd.space z r.grows r.adds;
        once = put_once i o s h gd.space z r.grows r.adds gd.once r.once;
        every = put_whole i o s h gd.space z r.grows r.adds S r.every;
      }

pub runs : (d : ℕ) (g : Links) → Runs (enter d g)
unfolding enter
runs zero g S i o h gd = run_refl gd
runs (suc d) g S i o h gd = run_go (enter d g) g S i o (runs d g) h gd (eqb (place_of o i) 7) refl (grown (suc d) g i o h gd.space.base)

-- a slot that `enter` was given is entered
entered_go : (go : ℕ → Order → Order) (g : Links) (S : ℕ → Type 0) (i : ℕ) (o : Order) → Runs go → i < 7 → Good S o → (t : Bool) → eqb (place_of o i) 7 ≡ t
    → place_of (cond t (whole go g i o) o) i ≡ 7 → ⊥
entered_go go g S i o ih h gd false e w = eqb-false _ _ e w
entered_go go g S i o ih h gd true e w =
    let z = eqb-true _ _ e in let r = inner go g S i o ih h gd z in
    omega (arith, w, put_same i o (span (link go g i) 0 7 (marked i o)) h gd.space z r.grows r.adds, small i o (span (link go g i) 0 7 (marked i o)) h gd.space z r.grows r.adds)

pub entered : (d : ℕ) (g : Links) (S : ℕ → Type 0) (i : ℕ) (o : Order) → i < 7 → Good S o → place_of (enter (suc d) g i o) i ≡ 7 → ⊥
unfolding enter
entered d g S i o h gd = entered_go (enter d g) g S i o (runs d g) h gd (eqb (place_of o i) 7) refl

-- ---- the order of the first n slots

none_place : (j : ℕ) → j < 7 → place_of no_order j ≡ 7
none_place j h = get_or-replicate 7 j 7 0 h

pub none_good : Good (λ (j : ℕ). ⊥) no_order
none_good =
    record {
      space = record { base = none_room; listed = refl };
      once = λ k l. absurd (omega arith);
      every = λ j l n. absurd (n (none_place j l));
    }

-- after n turns the first n slots are entered
in_order : (g : Links) (n : ℕ) → n ≤ 7 → Good (λ (j : ℕ). ⊥) (ordered g n) × ((j : ℕ) → j < n → place_of (ordered g n) j ≡ 7 → ⊥)
unfolding ordered
in_order g n h =
    span_to (λ (p : ℕ) (o : Order). Good (λ (j : ℕ). ⊥) o × ((j : ℕ) → j < p → place_of o j ≡ 7 → ⊥)) (enter 7 g) n
    (λ p o l w.
    let r = runs 7 g (λ (j : ℕ). ⊥) p o (omega arith) w.0 in (
      run_good r w.0.space,
      λ j b e.
          is_or j p (λ q. entered 6 g (λ (x : ℕ). ⊥) p o (omega arith) w.0 (ap (place_of (enter 7 g p o)) (sym q) ∙ e))
          (λ q. let u = w.1 j (omega arith) in u (sym (r.adds.keep j u) ∙ e)),
    ))
    no_order (none_good, λ j l. absurd (omega arith))

pub ordered_good : (g : Links) (n : ℕ) → n ≤ 7 → Good (λ (j : ℕ). ⊥) (ordered g n)
ordered_good g n h = (in_order g n h).0

pub each_stands : (g : Links) (n i : ℕ) → n ≤ 7 → i < n → Stands (ordered g n).list (ordered g n).count i
each_stands g n i h l =
    let x = in_order g n h in
    ⊎_elim (λ st. st) (λ b. absurd b) (x.0.every i (omega arith) (x.1 i l))

pub stands_once : (g : Links) (n j k : ℕ) → n ≤ 7 → j < (ordered g n).count → k < (ordered g n).count → slot_at (ordered g n).list j ≡ slot_at (ordered g n).list k → j ≡ k
stands_once g n j k h a b e =
    let on = (ordered_good g n h).once in
    sym (on j a).1 ∙ ap (place_of (ordered g n)) e ∙ (on k b).1

-- ---- a permutation

none_listed : (g : Links) → (ordered g 0).count ≡ 0
unfolding ordered span over
none_listed g = refl

module _ (g : Links) (n : ℕ) (h : n ≤ 7) where
  abbrev o : Order
  o = ordered g n

  -- each slot in use stands at its place
  at_place : (i : ℕ) → i < n → (place_of o i < o.count) × (slot_at o.list (place_of o i) ≡ i)
  at_place i l =
      let st = each_stands g n i h l in
      let e : st.at ≡ place_of o i = sym ((ordered_good g n h).once st.at st.below).1 ∙ ap (place_of o) st.is in
      (omega (arith, e, st.below), ap (slot_at o.list) (sym e) ∙ st.is)

  -- with references among the slots in use, only these stand
  low : Among n g → (k : ℕ) → 0 < n → slot_at o.list k < n
  low am k l = ordered_below n g (λ i m a b c. ⊎_elim (λ q. q) (λ q. absurd (omega arith)) (am i m a b)) n (omega arith) l k

  low_listed : Among n g → (k : ℕ) → k < o.count → slot_at o.list k < n
  low_listed am k l =
      is_or n 0
      (λ e. let z : o.count ≡ 0 = ap (λ (m : ℕ). (ordered g m).count) e ∙ none_listed g in absurd (omega arith))
      (λ e. low am k (omega arith))

  -- so there are no more places than slots in use, and no fewer
  count_is : Among n g → o.count ≡ n
  count_is am =
      let most : o.count ≤ n = no_more o.count n (slot_at o.list) (record { into = low_listed am; apart = λ j k a b e. stands_once g n j k h a b e }) in
      let least : n ≤ o.count =
      no_more n o.count (place_of o)
      (record { into = λ i l. (at_place i l).0; apart = λ i j a b e. sym (at_place i a).1 ∙ ap (slot_at o.list) e ∙ (at_place j b).1 }) in
      omega arith

-- the dependency order is a permutation of the slots in use
pub is_permutation : IsPermutation
is_permutation g n h am =
    let c = count_is g n h am in
    (c, permutes (ordered g n).list n (place_of (ordered g n)) (λ i l. (omega (arith, (at_place g n h i l).0), (at_place g n h i l).1)) (omega (arith, (ordered_good g n h).space.listed)))
