-- The loads of a whole frame: every tile of every superblock row, in whole-frame mode (docs/FRAME_FILE.md). Assumes nothing.
use Rattle.std.specs.Prelude.{◌≡◌, Bool, true, cond, List, [], ◌∷◌, ◌++◌, ℕ, zero, suc, ◌+◌, ◌-◌, ◌*◌, ◌/◌, eqb, ℤ}
use Rattle.frame.specs.declared.Frame.{Frame}
use Rattle.store.specs.Store.{Store}
use Rattle.store.specs.Calls.{called, as_listed}
use Rattle.load.specs.Asked.{asked_of, call_of}
use Rattle.load.specs.Load.{Call, side_of, high_of}
use Rattle.load.specs.Calls.{answer, load}

-- H / S superblock rows, rounded up
abbrev pub rows_of : Frame → ℕ
rows_of f = (high_of f + (side_of f - 1)) / side_of f

module _ (f : Frame) (traj holes : Bool) (planes : List ℤ) where
  -- the calls of a superblock row, from left to right: a tile column begins where the one before it ends
  unfoldable pub row_calls : ℕ → ℕ → List ℕ → List Call
  row_calls row start [] = []
  row_calls row start (end ∷ ends) = call_of f (asked_of true traj holes start end row (row + side_of f)) planes ∷ row_calls row end ends

  -- those of n superblock rows from row i on, downwards
  unfoldable pub rows_calls : List ℕ → ℕ → ℕ → List Call
  rows_calls ends zero i = []
  rows_calls ends (suc n) i = row_calls (i * side_of f) 0 ends ++ rows_calls ends n (i + 1)

  -- those of the frame
  unfoldable pub frame_calls : List ℕ → List Call
  frame_calls ends = rows_calls ends (rows_of f) 0

-- an answer's number, and the store beside it
pub record After : Type 0 where
  pub number : ℕ
  pub store : Store

abbrev pub after : ℕ → Store → After
after n s = record { number = n; store = s }

-- the calls one after the other, up to the first that is refused: its number, or 0, and the store then
unfoldable pub until_refused : List Call → Store → After
until_refused [] s = after 0 s
until_refused (c ∷ cs) s = cond (eqb (answer c s) 0) (until_refused cs (called answer load c s)) (after (answer c s) (called answer load c s))

-- ---- what is proved of it besides (proofs/Frame.antt)

-- where no call is refused, the store is that of the whole list
abbrev pub NoneRefused : Type 0
NoneRefused = (cs : List Call) (s : Store) → (until_refused cs s).number ≡ 0 → (until_refused cs s).store ≡ as_listed answer load cs s
