-- A whole run of a program over lines: line after line is read and taken, until one ends it. Which bytes the input gives, no definition can say. Assumes nothing.
use Rattle.std.specs.Prelude.{Bool, false, List, [], ◌≡◌, ℕ, suc, ◌-◌, ◌^◌}
use Rattle.lines.specs.Line.{Reader, before, next_line, reader, Reads}

-- what a run keeps from turn to turn: the buffer of bytes, of which some are still to be taken, the line that was read, and what the lines have come to
pub record Kept (S : Type 0) : Type 0 where
  pub input : List ℕ
  pub line : Reader
  pub state : S

abbrev pub kept : {S : Type 0} → List ℕ → Reader → S → Kept S
kept i l s = record { input = i; line = l; state = s }

-- a turn: the line after the last is read, and then taken; k is what the turn finds, m what it leaves
pub record Turned {S : Type 0} (Taken : Reader → S → S → Type 0) (k m : Kept S) : Type 0 where
  pub reads : Reads (2 ^ 64 - 1) k.input (reader (next_line k.line.state) [] [] k.line.room k.line.most) m.input m.line
  pub takes : Taken m.line k.state m.state

-- a run of so many turns, over lines of at most so many letters and numbers, and what it left: each turn goes on where the one before it stopped, and only the last may have ended the run
pub data Ran {S : Type 0} (room most : ℕ) (IsNew : S → Type 0) (Taken : Reader → S → S → Type 0) (over : S → Bool) : ℕ → Kept S → Type 0 where
  none : {k : Kept S} → k.line ≡ reader (before 0 0 0) [] [] room most → IsNew k.state → Ran room most IsNew Taken over 0 k
  then : {n : ℕ} {k m : Kept S} → Ran room most IsNew Taken over n k → over k.state ≡ false → Turned Taken k m → Ran room most IsNew Taken over (suc n) m

-- the end of a run that left this line and this state: its line has ended the run, or no turn may follow
pub record Ended {S : Type 0} (room most : ℕ) (IsNew : S → Type 0) (Taken : Reader → S → S → Type 0) (over : S → Bool) (line : Reader) (state : S) : Type 0 where
  pub turns : ℕ
  pub input : List ℕ
  pub is_end : over state ≡ false → turns ≡ 2 ^ 64
  pub ran : Ran room most IsNew Taken over turns (kept input line state)
