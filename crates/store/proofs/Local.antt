-- A program is local to its owner's cells; two with no cell in common commute. Assumes nothing.
use Rattle.std.proofs.Common.{◌≡◌, refl, sym, ap, ◌∙◌, Bool, true, false, cond, true≢false, List, [], ◌∷◌, ℕ, zero, suc, ◌+◌, suc-ne-zero, ℤ, pos, nat_abs, length, get_or, set, length-set, get_or-set_other, ext_get_or}
use Rattle.std.proofs.Math.Path.{fun_ext}
use Rattle.std.proofs.Math.Nat.{suc_inj}
use Rattle.levels.specs.declared.Mv.{Mv}
use Rattle.loops.specs.Over.{over}
use Rattle.store.specs.Store.{SameLengths, Store, Kind, field_mvs, field_refs, trajs, maps, pack, byte_cell, blank, rd, wr}
use Rattle.store.specs.Program.{Prog, done, read, write, test, seq, loop, snapshot, read_own, run}

pub like_refl : (s : Store) → SameLengths s s
like_refl s = record { field_y = refl; field_x = refl; field_ref = refl; traj_y = refl; traj_x = refl; map_y = refl; map_x = refl }

pub like_trans : {s t u : Store} → SameLengths s t → SameLengths t u → SameLengths s u
like_trans p q = record { field_y = p.field_y ∙ q.field_y; field_x = p.field_x ∙ q.field_x; field_ref = p.field_ref ∙ q.field_ref; traj_y = p.traj_y ∙ q.traj_y; traj_x = p.traj_x ∙ q.traj_x; map_y = p.map_y ∙ q.map_y; map_x = p.map_x ∙ q.map_x }

pub like_sym : {s t : Store} → SameLengths s t → SameLengths t s
like_sym p = record { field_y = sym p.field_y; field_x = sym p.field_x; field_ref = sym p.field_ref; traj_y = sym p.traj_y; traj_x = sym p.traj_x; map_y = sym p.map_y; map_x = sym p.map_x }

abbrev pub Agree : (Kind → ℕ → Bool) → Store → Store → Type 0
Agree own s t = (k : Kind) (i : ℕ) → own k i ≡ true → rd s k i ≡ rd t k i

pub record Local (own : Kind → ℕ → Bool) (f : Store → Store) : Type 0 where
  pub keeps : (s : Store) → SameLengths (f s) s
  pub frame : (s : Store) (k : Kind) (i : ℕ) → own k i ≡ false → rd (f s) k i ≡ rd s k i
  pub agree : (s t : Store) → SameLengths s t → Agree own s t → Agree own (f s) (f t)

module _ {A : Type 0} where
  set_agree : (l m : List A) (i n : ℕ) (v d : A) → length l ≡ length m → get_or l n d ≡ get_or m n d → get_or (set l i v) n d ≡ get_or (set m i v) n d
  set_agree [] [] i n v d q h = refl
  set_agree [] (y ∷ ys) i n v d q h = absurd (suc-ne-zero (length ys) (sym q))
  set_agree (x ∷ xs) [] i n v d q h = absurd (suc-ne-zero (length xs) q)
  set_agree (x ∷ xs) (y ∷ ys) zero zero v d q h = refl
  set_agree (x ∷ xs) (y ∷ ys) zero (suc n) v d q h = h
  set_agree (x ∷ xs) (y ∷ ys) (suc i) zero v d q h = h
  set_agree (x ∷ xs) (y ∷ ys) (suc i) (suc n) v d q h = set_agree xs ys i n v d (suc_inj q) h

y_of : {v w : Mv} → v ≡ w → v.y ≡ w.y
y_of e = ap (λ (v : Mv). v.y) e

x_of : {v w : Mv} → v ≡ w → v.x ≡ w.x
x_of e = ap (λ (v : Mv). v.x) e

byte_of : {m n : ℕ} → byte_cell m ≡ byte_cell n → m ≡ n
byte_of e = ap (λ (v : Mv). nat_abs v.y) e

wr_like : (s : Store) (k : Kind) (i : ℕ) (v : Mv) → SameLengths (wr s k i v) s
wr_like s field_mvs i v = record { field_y = length-set s.field_y i v.y; field_x = length-set s.field_x i v.x; field_ref = refl; traj_y = refl; traj_x = refl; map_y = refl; map_x = refl }
wr_like s field_refs i v = record { field_y = refl; field_x = refl; field_ref = length-set s.field_ref i (nat_abs v.y); traj_y = refl; traj_x = refl; map_y = refl; map_x = refl }
wr_like s trajs i v = record { field_y = refl; field_x = refl; field_ref = refl; traj_y = length-set s.traj_y i v.y; traj_x = length-set s.traj_x i v.x; map_y = refl; map_x = refl }
wr_like s maps i v = record { field_y = refl; field_x = refl; field_ref = refl; traj_y = refl; traj_x = refl; map_y = length-set s.map_y i v.y; map_x = length-set s.map_x i v.x }

-- a store to a cell leaves the others: those of another kind by computing
wr_other : (s : Store) (k j : Kind) (i n : ℕ) (v : Mv) → ((j ≡ k) → n ≡ i → ⊥) → rd (wr s k i v) j n ≡ rd s j n
wr_other s field_mvs field_mvs i n v h = rw (get_or-set_other s.field_y i n v.y (pos 0) (h refl), get_or-set_other s.field_x i n v.x (pos 0) (h refl))
wr_other s field_mvs field_refs i n v h = refl
wr_other s field_mvs trajs i n v h = refl
wr_other s field_mvs maps i n v h = refl
wr_other s field_refs field_mvs i n v h = refl
wr_other s field_refs field_refs i n v h = rw (get_or-set_other s.field_ref i n (nat_abs v.y) 0 (h refl))
wr_other s field_refs trajs i n v h = refl
wr_other s field_refs maps i n v h = refl
wr_other s trajs field_mvs i n v h = refl
wr_other s trajs field_refs i n v h = refl
wr_other s trajs trajs i n v h = rw (get_or-set_other s.traj_y i n v.y (pos 0) (h refl), get_or-set_other s.traj_x i n v.x (pos 0) (h refl))
wr_other s trajs maps i n v h = refl
wr_other s maps field_mvs i n v h = refl
wr_other s maps field_refs i n v h = refl
wr_other s maps trajs i n v h = refl
wr_other s maps maps i n v h = rw (get_or-set_other s.map_y i n v.y (pos 0) (h refl), get_or-set_other s.map_x i n v.x (pos 0) (h refl))

wr_agree : (s t : Store) (k j : Kind) (i n : ℕ) (v : Mv) → SameLengths s t → rd s j n ≡ rd t j n → rd (wr s k i v) j n ≡ rd (wr t k i v) j n
wr_agree s t field_mvs field_mvs i n v l h = rw (set_agree s.field_y t.field_y i n v.y (pos 0) l.field_y (y_of h), set_agree s.field_x t.field_x i n v.x (pos 0) l.field_x (x_of h))
wr_agree s t field_mvs field_refs i n v l h = h
wr_agree s t field_mvs trajs i n v l h = h
wr_agree s t field_mvs maps i n v l h = h
wr_agree s t field_refs field_mvs i n v l h = h
wr_agree s t field_refs field_refs i n v l h = rw (set_agree s.field_ref t.field_ref i n (nat_abs v.y) 0 l.field_ref (byte_of h))
wr_agree s t field_refs trajs i n v l h = h
wr_agree s t field_refs maps i n v l h = h
wr_agree s t trajs field_mvs i n v l h = h
wr_agree s t trajs field_refs i n v l h = h
wr_agree s t trajs trajs i n v l h = rw (set_agree s.traj_y t.traj_y i n v.y (pos 0) l.traj_y (y_of h), set_agree s.traj_x t.traj_x i n v.x (pos 0) l.traj_x (x_of h))
wr_agree s t trajs maps i n v l h = h
wr_agree s t maps field_mvs i n v l h = h
wr_agree s t maps field_refs i n v l h = h
wr_agree s t maps trajs i n v l h = h
wr_agree s t maps maps i n v l h = rw (set_agree s.map_y t.map_y i n v.y (pos 0) l.map_y (y_of h), set_agree s.map_x t.map_x i n v.x (pos 0) l.map_x (x_of h))

module _ (own : Kind → ℕ → Bool) where
  pub local_id : Local own (λ s. s)
  local_id = record { keeps = like_refl; frame = λ s k i h. refl; agree = λ s t l a. a }

  pub local_seq : (f g : Store → Store) → Local own f → Local own g → Local own (λ s. g (f s))
  local_seq f g F G = record {
    keeps = λ s. like_trans (G.keeps (f s)) (F.keeps s);
    frame = λ s k i h. G.frame (f s) k i h ∙ F.frame s k i h;
    agree = λ s t l a. G.agree (f s) (f t) (like_trans (F.keeps s) (like_trans l (like_sym (F.keeps t)))) (F.agree s t l a);
  }

  local_cond : (b : Bool) (f g : Store → Store) → (b ≡ true → Local own f) → (b ≡ false → Local own g) → Local own (λ s. cond b (f s) (g s))
  local_cond true f g F G = F refl
  local_cond false f g F G = G refl

  local_write : (k : Kind) (i : ℕ) (v : Mv) → own k i ≡ true → Local own (λ s. wr s k i v)
  local_write k i v o = record {
    keeps = λ s. wr_like s k i v;
    frame = λ s j n h. wr_other s k j i n v (λ p q. true≢false (sym o ∙ (cc) ∙ h));
    agree = λ s t l a j n h. wr_agree s t k j i n v l (a j n h);
  }

  local_read : (k : Kind) (i : ℕ) (f : Mv → Store → Store) → ((v : Mv) → Local own (f v)) → Local own (λ s. f (read_own own s k i) s)
  local_read k i f F = go (own k i) refl
    where
      go : (b : Bool) → own k i ≡ b → Local own (λ s. f (cond b (rd s k i) (blank k)) s)
      go true o = record {
        keeps = λ s. (F (rd s k i)).keeps s;
        frame = λ s. (F (rd s k i)).frame s;
        agree = λ s t l a. rw (a k i o) ((F (rd t k i)).agree s t l a);
      }
      go false o = F (blank k)

  local_over : (d n p : ℕ) (g : ℕ → Store → Store) → ((i : ℕ) → Local own (g i)) → Local own (over g d n p)
  unfolding over
  local_over d zero p g G = local_id
  local_over d (suc n) p g G = local_seq (g p) (over g d n (p + d)) (G p) (local_over d n (p + d) g G)

  reads_same : (s t : Store) → Agree own s t → read_own own s ≡ read_own own t
  reads_same s t a = fun_ext (λ k. fun_ext (λ i. go k i (own k i) (a k i)))
    where
      go : (k : Kind) (i : ℕ) (b : Bool) → (b ≡ true → rd s k i ≡ rd t k i) → cond b (rd s k i) (blank k) ≡ cond b (rd t k i) (blank k)
      go k i true h = h refl
      go k i false h = refl

  local_snapshot : (f : (Kind → ℕ → Mv) → Store → Store) → ((r : Kind → ℕ → Mv) → Local own (f r)) → Local own (λ s. f (read_own own s) s)
  local_snapshot f F = record {
    keeps = λ s. (F (read_own own s)).keeps s;
    frame = λ s. (F (read_own own s)).frame s;
    agree = λ s t l a. rw (reads_same s t a) ((F (read_own own t)).agree s t l a);
  }

  -- a guarded program is local: nothing to show of its cells
  pub local_run : (p : Prog) → Local own (run own p)
  local_run done = local_id
  local_run (read k i f) = local_read k i (λ v. run own (f v)) (λ v. local_run (f v))
  local_run (write k i v) = local_cond (own k i) (λ s. wr s k i v) (λ s. s) (local_write k i v) (λ o. local_id)
  local_run (test b p q) = local_cond b (run own p) (run own q) (λ o. local_run p) (λ o. local_run q)
  local_run (seq p q) = local_seq (run own p) (run own q) (local_run p) (local_run q)
  local_run (loop d n p b) = local_over d n p (λ i. run own (b i)) (λ i. local_run (b i))
  local_run (snapshot f) = local_snapshot (λ r. run own (f r)) (λ r. local_run (f r))

pub pack_same : {a a' b b' : List ℤ} {c c' : List ℕ} {d d' e e' f f' g g' : List ℤ} → a ≡ a' → b ≡ b' → c ≡ c' → d ≡ d' → e ≡ e' → f ≡ f' → g ≡ g'
    → pack a b c d e f g ≡ pack a' b' c' d' e' f' g'
pack_same p q r s t u v = cc

-- stores with the same lengths and cells are the same
pub same_store : (s t : Store) → SameLengths s t → ((k : Kind) (i : ℕ) → rd s k i ≡ rd t k i) → s ≡ t
same_store s t l h = pack_same
    (ext_get_or (pos 0) s.field_y t.field_y l.field_y (λ i k. y_of (h field_mvs i))) (ext_get_or (pos 0) s.field_x t.field_x l.field_x (λ i k. x_of (h field_mvs i)))
    (ext_get_or 0 s.field_ref t.field_ref l.field_ref (λ i k. byte_of (h field_refs i)))
    (ext_get_or (pos 0) s.traj_y t.traj_y l.traj_y (λ i k. y_of (h trajs i))) (ext_get_or (pos 0) s.traj_x t.traj_x l.traj_x (λ i k. x_of (h trajs i)))
    (ext_get_or (pos 0) s.map_y t.map_y l.map_y (λ i k. y_of (h maps i))) (ext_get_or (pos 0) s.map_x t.map_x l.map_x (λ i k. x_of (h maps i)))

module _ (P Q : Kind → ℕ → Bool) (apart : (k : Kind) (i : ℕ) → P k i ≡ true → Q k i ≡ false) (f g : Store → Store) (F : Local P f) (G : Local Q g) where
  pub local_comm : (s : Store) → g (f s) ≡ f (g s)
  local_comm s = same_store (g (f s)) (f (g s)) len (λ k i. go k i (P k i) refl (Q k i) refl)
    where
      other : (k : Kind) (i : ℕ) → Q k i ≡ true → (b : Bool) → P k i ≡ b → b ≡ false
      other k i h true p = cc (apart k i p)
      other k i h false p = refl

      len : SameLengths (g (f s)) (f (g s))
      len = like_trans (like_trans (G.keeps (f s)) (F.keeps s)) (like_sym (like_trans (F.keeps (g s)) (G.keeps s)))

      go : (k : Kind) (i : ℕ) (b : Bool) → P k i ≡ b → (c : Bool) → Q k i ≡ c → rd (g (f s)) k i ≡ rd (f (g s)) k i
      go k i true p c q =
          G.frame (f s) k i (apart k i p)
          ∙ sym (F.agree (g s) s (G.keeps s) (λ j n h. G.frame s j n (apart j n h)) k i p)
      go k i false p true q =
          G.agree (f s) s (F.keeps s) (λ j n h. F.frame s j n (other j n h (P j n) refl)) k i q
          ∙ sym (F.frame (g s) k i p)
      go k i false p false q = G.frame (f s) k i q ∙ F.frame s k i p ∙ sym (F.frame (g s) k i p ∙ G.frame s k i q)
