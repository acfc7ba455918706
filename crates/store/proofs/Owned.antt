-- A program whose every cell is its owner's does with guards what it does without. Assumes nothing.
use Rattle.std.proofs.Common.{◌≡◌, refl, Bool, true, false, ℕ, ◌+◌, ◌*◌, ◌<◌}
use Rattle.levels.specs.declared.Mv.{Mv}
use Rattle.loops.proofs.Same.{over_same}
use Rattle.store.specs.Store.{Store, Kind, rd}
use Rattle.store.specs.Program.{Prog, done, read, write, test, seq, loop, snapshot, read_own, run, every_cell}

module _ (own : Kind → ℕ → Bool) where
  -- with guards it does what it does without
  abbrev pub Idle : Prog → Prog → Type 0
  Idle p q = (s : Store) → run own p s ≡ run every_cell q s

  -- one fact for each cell that is read or written
  abbrev pub Owned : Prog → Type 0
  Owned done = Unit {0}
  Owned (read k i f) = (own k i ≡ true) × ((v : Mv) → Owned (f v))
  Owned (write k i v) = own k i ≡ true
  Owned (test b p q) = (b ≡ true → Owned p) × (b ≡ false → Owned q)
  Owned (seq p q) = Owned p × Owned q
  Owned (loop d n p b) = (j : ℕ) → j < n → Owned (b (p + j * d))
  Owned (snapshot f) = (s : Store) → run own (f (read_own own s)) s ≡ run every_cell (f (rd s)) s

  -- two programs' loops, turn by turn
  pub idle_loop : (d n p : ℕ) (b c : ℕ → Prog) → ((j : ℕ) → j < n → Idle (b (p + j * d)) (c (p + j * d))) → Idle (loop d n p b) (loop d n p c)
  idle_loop d n p b c h s = over_same d n p (λ i. run own (b i)) (λ i. run every_cell (c i)) h s

  pub idle_seq : (p q p' q' : Prog) → Idle p p' → Idle q q' → Idle (seq p q) (seq p' q')
  idle_seq p q p' q' h k s = rw (h s) (k (run every_cell p' s))

  pub owned_run : (p : Prog) → Owned p → Idle p p
  owned_run done h s = refl
  owned_run (read k i f) h s = rw h.0 (owned_run (f (rd s k i)) (h.1 (rd s k i)) s)
  owned_run (write k i v) h s = rw h
  owned_run (test true p q) h s = owned_run p (h.0 refl) s
  owned_run (test false p q) h s = owned_run q (h.1 refl) s
  owned_run (seq p q) h s = idle_seq p q p q (owned_run p h.0) (owned_run q h.1) s
  owned_run (loop d n p b) h s = idle_loop d n p b b (λ j l. owned_run (b (p + j * d)) (h j l)) s
  owned_run (snapshot f) h s = h s
