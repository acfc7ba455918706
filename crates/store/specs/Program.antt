-- Programs over the store: in them the load is defined. `run` carries one out. Assumes nothing.
use Rattle.std.specs.Prelude.{Bool, true, cond, ℕ, ◌+◌, ◌-◌, ◌/◌}
use Rattle.levels.specs.declared.Mv.{Mv}
use Rattle.loops.specs.Over.{over}
use Rattle.store.specs.Store.{Store, Kind, blank, rd, wr}

-- done: nothing. read: a cell, for the rest of the program. write: a cell. test: one program where a test holds, else the other. seq: one program, then another.
-- loop: step, number of turns, start, and a program for each turn's number. snapshot: a program that is handed the cells as they stand when it begins
pub data Prog : Type 0 where
  done : Prog
  read : Kind → ℕ → (Mv → Prog) → Prog
  write : Kind → ℕ → Mv → Prog
  test : Bool → Prog → Prog → Prog
  seq : Prog → Prog → Prog
  loop : ℕ → ℕ → ℕ → (ℕ → Prog) → Prog
  snapshot : ((Kind → ℕ → Mv) → Prog) → Prog

-- `own` says whose a cell is. 01: "the cell belongs to its column: a load of other columns takes it as empty and leaves it"
module _ (own : Kind → ℕ → Bool) where
  -- a cell as the owner reads it: another's is empty
  abbrev pub read_own : Store → Kind → ℕ → Mv
  read_own s k i = cond (own k i) (rd s k i) (blank k)

  -- the store as the owner writes it: another's cell is left
  abbrev pub write_own : Store → Kind → ℕ → Mv → Store
  write_own s k i v = cond (own k i) (wr s k i v) s

  -- what a program makes of a store
  abbrev pub run : Prog → Store → Store
  run done s = s
  run (read k i f) s = run (f (read_own s k i)) s
  run (write k i v) s = write_own s k i v
  run (test b p q) s = cond b (run p s) (run q s)
  run (seq p q) s = run q (run p s)
  run (loop d n p b) s = over (λ i. run (b i)) d n p s
  run (snapshot f) s = run (f (read_own s)) s

-- an owner of every cell: nothing is guarded
abbrev pub every_cell : Kind → ℕ → Bool
every_cell k i = true

-- ---- notation: `v ← cell k i` reads a cell; lines go one after the other; `when b do` is an `if` with no `else`

abbrev pub ◌>>=◌ : ((Mv → Prog) → Prog) → (Mv → Prog) → Prog
◌>>=◌ reads f = reads f

abbrev pub ◌>>◌ : Prog → Prog → Prog
◌>>◌ p q = seq p q

abbrev pub when : Bool → Prog → Prog
when b p = test b p done

abbrev pub cell : Kind → ℕ → (Mv → Prog) → Prog
cell k i f = read k i f

-- the cell where b holds; where not, nothing is read, and it counts as empty
abbrev pub cell_if : Bool → Kind → ℕ → (Mv → Prog) → Prog
cell_if b k i f = test b (read k i f) (f (blank k))

-- for x in a..b
abbrev pub each : ℕ → ℕ → (ℕ → Prog) → Prog
each a b f = loop 1 (b - a) a f

-- for x in (a..b).step_by(d)
abbrev pub each_by : ℕ → ℕ → ℕ → (ℕ → Prog) → Prog
each_by d a b f = loop d ((b - a + (d - 1)) / d) a f
