-- The order's places and slots are in range. Assumes nothing.
use Rattle.std.proofs.Common.{◌≡◌, refl, Bool, true, false, cond, ℕ, zero, suc, ◌<◌, ◌≤◌, arith, ltb, eqb, get_or, ltb-true}
use Rattle.loops.specs.Over.{span}
use Rattle.loops.proofs.Keeps.{set_has, span_in}
use Rattle.loops.proofs.Slots.{zeros}
use Rattle.levels.specs.declared.Slot.{Slot}
use Rattle.levels.specs.Slots.{slot, slot_at}
use Rattle.topo.specs.declared.Order.{Order}
use Rattle.topo.specs.Topo.{Links, reference, marked, link, enter, no_order, ordered}
use Rattle.topo.proofs.Laws.{Room, grown, grown_room, none_room, whole}

-- every slot of the list is below b
abbrev pub Below : ℕ → Order → Type 0
Below b o = (k : ℕ) → slot_at o.list k < b

-- the references of the slots below b are below b, or none
abbrev pub Closed : ℕ → Links → Type 0
Closed b g = (i m : ℕ) → i < b → m < 7 → reference g i m < 7 → reference g i m < b

module _ (b : ℕ) (g : Links) (cl : Closed b g) where
  abbrev Keeps : (ℕ → Order → Order) → Type 0
  Keeps go = (k : ℕ) (s : Order) → k < b → Below b s → Below b (go k s)

  link_go : (go : ℕ → Order → Order) (i m : ℕ) (s : Order) (t : Bool) → ltb (reference g i m) 7 ≡ t → i < b → m < 7 → Keeps go → Below b s
      → Below b (cond t (go (reference g i m) s) s)
  link_go go i m s true e l lm ih h = ih (reference g i m) s (cl i m l lm (ltb-true _ _ e)) h
  link_go go i m s false e l lm ih h = h

  below_go : (go : ℕ → Order → Order) (i : ℕ) (o : Order) (t : Bool) → i < b → Keeps go → Below b o → Below b (cond t (whole go g i o) o)
  below_go go i o false l ih h = h
  below_go go i o true l ih h =
      let s = span (link go g i) 0 7 (marked i o) in
      let q : Below b s = span_in (Below b) (link go g i) 7 (λ m s lm k. link_go go i m s (ltb (reference g i m) 7) refl l lm ih k) (marked i o) h in
      λ k. set_has (λ (x : Slot). x.0 < b) s.list s.count k (slot i) (slot 0) l (q k)

  enter_below : (d : ℕ) → Keeps (enter d g)
  unfolding enter
  enter_below zero i o l h = h
  enter_below (suc d) i o l h = below_go (enter d g) i o (eqb (get_or o.place i 0) 7) l (enter_below d) h

  pub ordered_below : (n : ℕ) → n ≤ b → 0 < b → Below b (ordered g n)
  unfolding ordered
  ordered_below n h z = span_in (Below b) (enter 7 g) n (λ p s l k. enter_below 7 p s (omega arith) k) no_order (λ k. zeros b 7 k z)

-- every slot of the list is a slot
pub ordered_small : (g : Links) (n : ℕ) → n ≤ 7 → (k : ℕ) → slot_at (ordered g n).list k < 7
ordered_small g n h = ordered_below 7 g (λ i m l lm s. s) n h (omega arith)

-- and there is room for those that are not entered
pub ordered_room : (g : Links) (n : ℕ) → n ≤ 7 → Room (ordered g n)
unfolding ordered
ordered_room g n h = span_in Room (enter 7 g) n (λ p s l k. grown_room (grown 7 g p s (omega arith) k) k) no_order none_room
