-- Laws of the loads of a frame, and the theorem that specs/Frame.antt states. Assumes nothing.
use Rattle.std.proofs.Common.{◌≡◌, refl, ap, ◌∙◌, sym, Bool, true, false, cond, List, [], ◌∷◌, ◌++◌, ℕ, suc, ◌+◌, ◌-◌, ◌*◌, ◌/◌, ◌%◌, ◌≤◌, ◌<◌, add-one, arith, eqb, ℤ, length, get_or, drop, drop_of_length-le, drop-cons, eq-eqb, ne_eqb}
use Rattle.std.proofs.Math.Nat.{sub-zero}
use borrow.Author.Tests.{eqb-false}
use Rattle.frame.specs.declared.Frame.{Frame}
use Rattle.store.specs.Store.{Store}
use Rattle.store.specs.Calls.{called, as_listed}
use Rattle.load.specs.Asked.{asked_of, call_of}
use Rattle.load.specs.Load.{Call, side_of, high_of}
use Rattle.load.specs.Calls.{answer, load}
use Rattle.sources.proofs.Rounds.{Parts, IsSameParts, store_in, same_parts, same_parts_after}
use Rattle.loads.specs.Frame.{row_calls, rows_calls, rows_of, frame_calls, after, until_refused, NoneRefused}

-- ---- a call and those that follow

until_on : (c : Call) (cs : List Call) (s : Store) → answer c s ≡ 0 → until_refused (c ∷ cs) s ≡ until_refused cs (called answer load c s)
unfolding until_refused
until_on c cs s e = rw (eq-eqb (answer c s) 0 e)

until_stop : (c : Call) (cs : List Call) (s : Store) → (answer c s ≡ 0 → ⊥) → until_refused (c ∷ cs) s ≡ after (answer c s) (called answer load c s)
unfolding until_refused
until_stop c cs s h = rw (ne_eqb (answer c s) 0 h)

until_go : (t : Bool) (c : Call) (cs ds : List Call) (s : Store) → eqb (answer c s) 0 ≡ t → ((u : Store) → until_refused (cs ++ ds) u ≡ cond (eqb (until_refused cs u).number 0) (until_refused ds (until_refused cs u).store) (until_refused cs u))
    → until_refused (c ∷ (cs ++ ds)) s ≡ cond (eqb (until_refused (c ∷ cs) s).number 0) (until_refused ds (until_refused (c ∷ cs) s).store) (until_refused (c ∷ cs) s)
unfolding until_refused
until_go true c cs ds s e h = rw e (h _)
until_go false c cs ds s e h = rw (e, e)

-- the calls of two lists: the second's where none of the first's is refused
until_both : (cs ds : List Call) (s : Store) → until_refused (cs ++ ds) s ≡ cond (eqb (until_refused cs s).number 0) (until_refused ds (until_refused cs s).store) (until_refused cs s)
unfolding until_refused
until_both [] ds s = refl
until_both (c ∷ cs) ds s = until_go (eqb (answer c s) 0) c cs ds s refl (until_both cs ds)

past_first : (cs ds : List Call) (s u : Store) (n : ℕ) → after n u ≡ until_refused cs s → n ≡ 0 → until_refused (cs ++ ds) s ≡ until_refused ds u
past_first cs ds s u n e z = until_both cs ds s ∙ rw (← e, eq-eqb n 0 z)

in_first : (cs ds : List Call) (s u : Store) (n : ℕ) → after n u ≡ until_refused cs s → (n ≡ 0 → ⊥) → until_refused (cs ++ ds) s ≡ after n u
in_first cs ds s u n e z = until_both cs ds s ∙ rw (← e, ne_eqb n 0 z)

-- ---- a loop over calls: what is left, on the store as it is, is the whole of it on the store where it began

pub record Going (left all : List Call) (p q : Parts) : Type 0 where
  pub like : IsSameParts p q
  pub is : until_refused left (store_in p) ≡ until_refused all (store_in q)

pub going_first : (cs : List Call) (p : Parts) → Going cs cs p p
going_first cs p = record { like = same_parts p; is = refl }

-- a row at which a superblock row begins, by the number of superblock rows above it
record Place (f : Frame) (row : ℕ) : Type 0 where
  is : row ≡ row / side_of f * side_of f
  next_on : (row + side_of f) % side_of f ≡ 0
  next : (row + side_of f) / side_of f ≡ row / side_of f + 1
  below : row < high_of f → row / side_of f < rows_of f
  past : high_of f ≤ row → rows_of f ≤ row / side_of f

first_place : (f : Frame) → (0 % side_of f ≡ 0) × (0 / side_of f ≡ 0)
first_place f = go (eqb f.sb128 0) (eqb f.sb128 1)
  where
    go : (p q : Bool) → let d : ℕ = cond p 8 (cond q 16 32) in (0 % d ≡ 0) × (0 / d ≡ 0)
    go true q = (refl, refl)
    go false true = (refl, refl)
    go false false = (refl, refl)

row_place : (f : Frame) (row : ℕ) → row % side_of f ≡ 0 → Place f row
row_place f row on =
    let (a, b, c, d, e) = go (eqb f.sb128 0) (eqb f.sb128 1) on in
    record { is = a; next_on = b; next = c; below = d; past = e }
  where
    go : (p q : Bool) → let d : ℕ = cond p 8 (cond q 16 32) in row % d ≡ 0 → (row ≡ row / d * d) × ((row + d) % d ≡ 0) × ((row + d) / d ≡ row / d + 1) × (row < high_of f → row / d < (high_of f + (d - 1)) / d) × (high_of f ≤ row → (high_of f + (d - 1)) / d ≤ row / d)
    go true q h = (omega arith, omega arith, omega arith, (λ l. omega arith), (λ l. omega arith))
    go false true h = (omega arith, omega arith, omega arith, (λ l. omega arith), (λ l. omega arith))
    go false false h = (omega arith, omega arith, omega arith, (λ l. omega arith), (λ l. omega arith))

module _ (f : Frame) (traj holes : Bool) (planes : List ℤ) where
  -- ---- the tiles of a superblock row
  module _ (row : ℕ) (ends : List ℕ) (i start bottom n : ℕ) (all : List Call) (p q o : Parts) where
    row_first : i < length ends → bottom ≡ row + side_of f
        → row_calls f traj holes planes row start (drop i ends) ≡ call_of f (asked_of true traj holes start (get_or ends i 0) row bottom) planes ∷ row_calls f traj holes planes row (get_or ends i 0) (drop (i + 1) ends)
    unfolding row_calls
    row_first h e = rw (add-one, drop-cons ends i 0 h, e)

    pub row_on : i < length ends → bottom ≡ row + side_of f
        → n ≡ answer (call_of f (asked_of true traj holes start (get_or ends i 0) row bottom) planes) (store_in p)
        → store_in q ≡ called answer load (call_of f (asked_of true traj holes start (get_or ends i 0) row bottom) planes) (store_in p)
        → n ≡ 0 → IsSameParts q p → Going (row_calls f traj holes planes row start (drop i ends)) all p o
        → Going (row_calls f traj holes planes row (get_or ends i 0) (drop (i + 1) ends)) all q o
    row_on h e a l z k g =
        record {
          like = same_parts_after k g.like;
          is = ap (until_refused (row_calls f traj holes planes row (get_or ends i 0) (drop (i + 1) ends))) l ∙ sym (until_on _ _ (store_in p) (sym a ∙ z)) ∙ ap (λ (cs : List Call). until_refused cs (store_in p)) (sym (row_first h e)) ∙ g.is;
        }

    pub row_stop : i < length ends → bottom ≡ row + side_of f
        → n ≡ answer (call_of f (asked_of true traj holes start (get_or ends i 0) row bottom) planes) (store_in p)
        → store_in q ≡ called answer load (call_of f (asked_of true traj holes start (get_or ends i 0) row bottom) planes) (store_in p)
        → (n ≡ 0 → ⊥) → Going (row_calls f traj holes planes row start (drop i ends)) all p o
        → after n (store_in q) ≡ until_refused all (store_in o)
    row_stop h e a l z g =
        rw (a, l) (sym (until_stop _ _ (store_in p) (λ x. z (a ∙ x))) ∙ ap (λ (cs : List Call). until_refused cs (store_in p)) (sym (row_first h e)) ∙ g.is)

  pub row_end : (row : ℕ) (ends : List ℕ) (i start : ℕ) (all : List Call) (p o : Parts) → length ends ≤ i → Going (row_calls f traj holes planes row start (drop i ends)) all p o → after 0 (store_in p) ≡ until_refused all (store_in o)
  unfolding row_calls until_refused
  row_end row ends i start all p o h g = (rw (drop_of_length-le ends {i = i} h) at g.is)

  -- ---- the superblock rows of the frame

  -- before the superblock row that begins at `row`: what is left of the frame's calls from there on, on the lists as they are, is all of them on the lists as they were
  pub record GoingOn (ends : List ℕ) (row : ℕ) (p q : Parts) : Type 0 where
    pub on : row % side_of f ≡ 0
    pub left : Going (rows_calls f traj holes planes ends (rows_of f - row / side_of f) (row / side_of f)) (frame_calls f traj holes planes ends) p q

  pub rows_begin : (ends : List ℕ) (p : Parts) → GoingOn ends 0 p p
  unfolding frame_calls
  rows_begin ends p = let (on, z) = first_place f in record { on = on; left = rw (z, sub-zero) (going_first _ p) }

  module _ (ends : List ℕ) (row n : ℕ) (p q o : Parts) where
    rows_first : row < high_of f → row % side_of f ≡ 0 → rows_calls f traj holes planes ends (rows_of f - row / side_of f) (row / side_of f) ≡ row_calls f traj holes planes row 0 ends ++ rows_calls f traj holes planes ends (rows_of f - (row / side_of f + 1)) (row / side_of f + 1)
    unfolding rows_calls
    rows_first h r =
        let w = row_place f row r in
        let b = w.below h in
        let e : rows_of f - row / side_of f ≡ suc (rows_of f - (row / side_of f + 1)) = omega arith in
        rw (e, ← w.is)

    pub rows_on : row < high_of f → after n (store_in q) ≡ until_refused (row_calls f traj holes planes row 0 ends) (store_in p) → n ≡ 0 → IsSameParts q p → GoingOn ends row p o → GoingOn ends (row + side_of f) q o
    rows_on h l z k g =
        let w = row_place f row g.on in
        record {
          on = w.next_on;
          left = rw w.next (record {
            like = same_parts_after k g.left.like;
            is = sym (ap (λ (cs : List Call). until_refused cs (store_in p)) (rows_first h g.on) ∙ past_first _ _ (store_in p) (store_in q) n l z) ∙ g.left.is;
          });
        }

    pub rows_stop : row < high_of f → after n (store_in q) ≡ until_refused (row_calls f traj holes planes row 0 ends) (store_in p) → (n ≡ 0 → ⊥) → GoingOn ends row p o → after n (store_in q) ≡ until_refused (frame_calls f traj holes planes ends) (store_in o)
    rows_stop h l z g = sym (ap (λ (cs : List Call). until_refused cs (store_in p)) (rows_first h g.on) ∙ in_first _ _ (store_in p) (store_in q) n l z) ∙ g.left.is

  pub rows_end : (ends : List ℕ) (row : ℕ) (p o : Parts) → high_of f ≤ row → GoingOn ends row p o → after 0 (store_in p) ≡ until_refused (frame_calls f traj holes planes ends) (store_in o)
  unfolding rows_calls until_refused
  rows_end ends row p o h g = let w = (row_place f row g.on).past h in let e : rows_of f - row / side_of f ≡ 0 = omega arith in (rw e at g.left.is)

-- ---- the theorem

none_go : (t : Bool) (c : Call) (cs : List Call) (s : Store) → eqb (answer c s) 0 ≡ t → ((u : Store) → (until_refused cs u).number ≡ 0 → (until_refused cs u).store ≡ as_listed answer load cs u)
    → (until_refused (c ∷ cs) s).number ≡ 0 → (until_refused (c ∷ cs) s).store ≡ as_listed answer load (c ∷ cs) s
unfolding until_refused
none_go true c cs s e h = rw e (h _)
none_go false c cs s e h = rw e (λ z. absurd (eqb-false (answer c s) 0 e z))

pub none_refused : NoneRefused
unfolding until_refused
none_refused [] s z = refl
none_refused (c ∷ cs) s z = none_go (eqb (answer c s) 0) c cs s refl (none_refused cs) z
