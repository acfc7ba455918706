-- The words of lines, and the kinds of cases that are counted. What is read, no definition can say; what is put into a buffer to be written, Report.antt says. Assumes nothing.
use Rattle.std.specs.Prelude.{ℕ, List, codes}
use Rattle.replay_loads.specs.declared.words.Word.{Word}
use Rattle.replay_loads.specs.declared.words.Word.TheVariants.{Case, Setup, Set, Call, Changed, Check, Pass}
use Rattle.replay_loads.specs.declared.words.Kind.{Kind}
use Rattle.replay_loads.specs.declared.words.Kind.TheVariants.{Load, RefusedLoad, Pass as OnePass}

-- the word that a line starts with
abbrev pub name : Word → List ℕ
name Case = codes "case"
name Setup = codes "setup"
name Set = codes "set"
name Call = codes "call"
name Changed = codes "changed"
name Check = codes "check"
name Pass = codes "pass"

-- the place of a kind's tally
abbrev pub number : Kind → ℕ
number Load = 0
number RefusedLoad = 1
number OnePass = 2
