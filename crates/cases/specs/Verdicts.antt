-- What a test, and a verdict, says. Assumes nothing.
use Rattle.std.specs.Prelude.{Bool, true, false, Option, Some, None}
use Rattle.cases.specs.declared.Verdict.{Verdict}
use Rattle.cases.specs.declared.Verdict.TheVariants.{Agrees, Differs, NotACase}

-- p holds where the test is true
abbrev pub WhenTrue : Bool → Type 0 → Type 0
WhenTrue true p = p
WhenTrue false p = Unit {0}

-- p holds where the verdict is that the case agrees
abbrev pub WhenAgrees : Verdict → Type 0 → Type 0
WhenAgrees Agrees p = p
WhenAgrees Differs p = Unit {0}
WhenAgrees NotACase p = Unit {0}

-- the verdict of a judge that says whether its case agrees, or that it is none
abbrev pub verdict_of : Option Bool → Verdict
verdict_of (Some true) = Agrees
verdict_of (Some false) = Differs
verdict_of None = NotACase
