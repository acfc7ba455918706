-- The kinds of cases, and what replay makes of a line. What is read, no definition can say; what is put into a buffer to be written, Report.antt says. Assumes nothing.
use Rattle.std.specs.Prelude.{◌≡◌, ℕ, List, ℤ, Option, Some, None, IsSome, ◌≢◌, codes}
use Rattle.lines.specs.declared.Found.TheVariants.{Line, AllRead}
use Rattle.lines.specs.Line.{Reader, counted_up}
use Rattle.cases.specs.declared.Verdict.{Verdict}
use Rattle.cases.specs.declared.Verdict.TheVariants.{Agrees, Differs as Differing, NotACase as NoCase}
use Rattle.leaf_cases.specs.Agrees.{ProjectAgrees, ScaleAgrees, QuantizeAgrees, DequantizeAgrees, HintAgrees, SmoothAgrees, GapAgrees}
use Rattle.frame_cases.specs.FrameCase.{FrameAgrees}
use Rattle.replay.specs.declared.kinds.Kind.{Kind}
use Rattle.replay.specs.declared.kinds.Kind.TheVariants.{Project, Scale, Quantize, Dequantize, Hint, Smooth, Gap, Frame}
use Rattle.replay.specs.declared.End.{End}
use Rattle.replay.specs.declared.End.TheVariants.{AllRead as Over, Differs, NotACase}

-- the word of a kind
abbrev pub name : Kind → List ℕ
name Project = codes "project"
name Scale = codes "scale"
name Quantize = codes "quantize"
name Dequantize = codes "dequantize"
name Hint = codes "hint"
name Smooth = codes "smooth"
name Gap = codes "gap"
name Frame = codes "frame"

-- the place of a kind's tally
abbrev pub number : Kind → ℕ
number Project = 0
number Scale = 1
number Quantize = 2
number Dequantize = 3
number Hint = 4
number Smooth = 5
number Gap = 6
number Frame = 7

-- what a line of this kind with the numbers n states, is what the definition gives; nothing is promised of a line that does not agree
abbrev pub Holds : List ℤ → Kind → Type 0
Holds n Project = ProjectAgrees n
Holds n Scale = ScaleAgrees n
Holds n Quantize = QuantizeAgrees n
Holds n Dequantize = DequantizeAgrees n
Holds n Hint = HintAgrees n
Holds n Smooth = SmoothAgrees n
Holds n Gap = GapAgrees n
Holds n Frame = FrameAgrees n

-- how a verdict ends the run, if it does
abbrev pub end_of : Verdict → Option End
end_of Agrees = None
end_of Differing = Some Differs
end_of NoCase = Some NotACase

-- a case of this kind leaves the run: it goes on if the case holds and is counted; else it ends, not as one that has read all, and nothing is counted
pub record Judged (k : Kind) (n : List ℤ) (before after : List ℕ) (r : Option End) : Type 0 where
  pub goes_on : r ≡ None → Holds n k × (after ≡ counted_up (number k) before)
  pub stops : IsSome r → after ≡ before
  pub not_over : r ≢ Some Over

-- the run goes on past a line of word w and numbers n: it is of a kind, holds, and is counted
pub record GoesOn (w : List ℕ) (n : List ℤ) (before after : List ℕ) : Type 0 where
  pub kind : Kind
  pub named : w ≡ name kind
  pub holds : Holds n kind
  pub counted : after ≡ counted_up (number kind) before

-- what is made of what the reader found: r says how the run has ended, if it has
pub record Taken (l : Reader) (before after : List ℕ) (r : Option End) : Type 0 where
  pub goes_on : r ≡ None → GoesOn l.word l.numbers before after
  pub stops : IsSome r → after ≡ before
  pub at_end : r ≡ Some Over → l.state.found ≡ Some AllRead
  pub ends : l.state.found ≡ Some AllRead → r ≡ Some Over
  pub no_line : (l.state.found ≢ Some Line) → (l.state.found ≢ Some AllRead) → r ≡ Some NotACase
