-- What holds of every trajectory that the owner has, and of the empty one, holds after a program that writes only such trajectories.
-- The owned trajectories lie within both lists, as an accepted call's do. Assumes nothing.
use Rattle.std.proofs.Common.{◌≡◌, refl, Bool, true, false, cond, ℕ, zero, suc, ◌+◌, ◌<◌, eqb-true, eqb, pos, length, get_or-set_same, get_or-set_other}
use borrow.Author.Tests.{eqb-false}
use Rattle.levels.specs.declared.Mv.{Mv}
use Rattle.loops.specs.Over.{over}
use Rattle.store.specs.Store.{Store, Kind, field_mvs, field_refs, trajs, maps, blank, rd, wr}
use Rattle.store.specs.Program.{Prog, done, read, write, test, seq, loop, snapshot, read_own, run}
use Rattle.store.proofs.Local.{local_run}

module _ (Q : Mv → Type 0) where
  -- the program writes good trajectories, if those that it reads are good: one fact for each write
  abbrev pub Keeps : Prog → Type 0
  Keeps done = Unit {0}
  Keeps (read trajs i f) = (v : Mv) → Q v → Keeps (f v)
  Keeps (read field_mvs i f) = (v : Mv) → Keeps (f v)
  Keeps (read field_refs i f) = (v : Mv) → Keeps (f v)
  Keeps (read maps i f) = (v : Mv) → Keeps (f v)
  Keeps (write trajs i v) = Q v
  Keeps (write field_mvs i v) = Unit {0}
  Keeps (write field_refs i v) = Unit {0}
  Keeps (write maps i v) = Unit {0}
  Keeps (test b p q) = (b ≡ true → Keeps p) × (b ≡ false → Keeps q)
  Keeps (seq p q) = Keeps p × Keeps q
  Keeps (loop d n p b) = (i : ℕ) → Keeps (b i)
  Keeps (snapshot f) = (r : Kind → ℕ → Mv) → ((i : ℕ) → Q (r trajs i)) → Keeps (f r)

module _ (own : Kind → ℕ → Bool) (Q : Mv → Type 0) (blank_good : Q (blank trajs)) where
  pub record Good (s : Store) : Type 0 where
    pub within : (i : ℕ) → own trajs i ≡ true → (i < length s.traj_y) × (i < length s.traj_x)
    pub good : (i : ℕ) → own trajs i ≡ true → Q (rd s trajs i)

  good_read : (s : Store) (i : ℕ) → Good s → Q (read_own own s trajs i)
  good_read s i g = go (own trajs i) (g.good i)
    where
      go : (b : Bool) → (b ≡ true → Q (rd s trajs i)) → Q (cond b (rd s trajs i) (blank trajs))
      go true h = h refl
      go false h = blank_good

  keep_within : (s : Store) (p : Prog) → Good s → (i : ℕ) → own trajs i ≡ true → (i < length (run own p s).traj_y) × (i < length (run own p s).traj_x)
  keep_within s p g i o = let l = (local_run own p).keeps s in rw (l.traj_y, l.traj_x) (g.within i o)

  good_wr : (s : Store) (i : ℕ) (v : Mv) → own trajs i ≡ true → Good s → Q v → (j : ℕ) → own trajs j ≡ true → Q (rd (wr s trajs i v) trajs j)
  good_wr s i v o g q j oj = go (eqb j i) refl
    where
      go : (b : Bool) → eqb j i ≡ b → Q (rd (wr s trajs i v) trajs j)
      go true e =
          rw (eqb-true j i e)
          (rw (get_or-set_same s.traj_y i v.y (pos 0) (g.within i o).0, get_or-set_same s.traj_x i v.x (pos 0) (g.within i o).1) q)
      go false e =
          rw (get_or-set_other s.traj_y i j v.y (pos 0) (eqb-false j i e), get_or-set_other s.traj_x i j v.x (pos 0) (eqb-false j i e)) (g.good j oj)

  good_over : (d n p : ℕ) (f : ℕ → Store → Store) → ((i : ℕ) (s : Store) → Good s → Good (f i s)) → (s : Store) → Good s → Good (over f d n p s)
  unfolding over
  good_over d zero p f F s g = g
  good_over d (suc n) p f F s g = good_over d n (p + d) f F (f p s) (F p s g)

  -- a write of another kind leaves the trajectories
  good_other : (s t : Store) → Good s → s.traj_y ≡ t.traj_y → s.traj_x ≡ t.traj_x → (b : Bool) → Good (cond b t s)
  good_other s t g p q true = record { within = rw (← p, ← q) g.within; good = rw (← p, ← q) g.good }
  good_other s t g p q false = g

  pub good_run : (p : Prog) → Keeps Q p → (s : Store) → Good s → Good (run own p s)
  good_run done h s g = g
  good_run (read trajs i f) h s g = good_run (f (read_own own s trajs i)) (h (read_own own s trajs i) (good_read s i g)) s g
  good_run (read field_mvs i f) h s g = good_run (f (read_own own s field_mvs i)) (h (read_own own s field_mvs i)) s g
  good_run (read field_refs i f) h s g = good_run (f (read_own own s field_refs i)) (h (read_own own s field_refs i)) s g
  good_run (read maps i f) h s g = good_run (f (read_own own s maps i)) (h (read_own own s maps i)) s g
  good_run (write trajs i v) h s g = record { within = keep_within s (write trajs i v) g; good = go (own trajs i) refl }
    where
      go : (b : Bool) → own trajs i ≡ b → (j : ℕ) → own trajs j ≡ true → Q (rd (cond b (wr s trajs i v) s) trajs j)
      go true o j oj = good_wr s i v o g h j oj
      go false o j oj = g.good j oj
  good_run (write field_mvs i v) h s g = good_other s (wr s field_mvs i v) g refl refl (own field_mvs i)
  good_run (write field_refs i v) h s g = good_other s (wr s field_refs i v) g refl refl (own field_refs i)
  good_run (write maps i v) h s g = good_other s (wr s maps i v) g refl refl (own maps i)
  good_run (test true p q) h s g = good_run p (h.0 refl) s g
  good_run (test false p q) h s g = good_run q (h.1 refl) s g
  good_run (seq p q) h s g = good_run q h.1 (run own p s) (good_run p h.0 s g)
  good_run (loop d n p b) h s g = good_over d n p (λ i. run own (b i)) (λ i u w. good_run (b i) (h i) u w) s g
  good_run (snapshot f) h s g = good_run (f (read_own own s)) (h (read_own own s) (λ i. good_read s i g)) s g
