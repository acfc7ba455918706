-- What the program's arguments ask for (docs/FRAME_FILE.md). Which arguments the program gets, `Env::arg` answers; nothing is proved of that. Assumes nothing.
use Rattle.std.specs.Prelude.{Result, Ok, Err, cond, List, ℕ, ltb, codes}
use Rattle.std.specs.Str.{bytes_eq}
use Rattle.show_field.specs.declared.Wanted.{Wanted}
use Rattle.show_field.specs.declared.Wanted.TheVariants.{Text, Picture}
use Rattle.show_field.specs.declared.problems.Problem.{Problem}
use Rattle.show_field.specs.declared.problems.Problem.TheVariants.{Usage}

-- what a word asks for: one of the two forms; any other word, for the usage's line
abbrev pub wanted_by : List ℕ → Result Wanted Problem
wanted_by word =
    cond (bytes_eq word (codes "text")) (Ok Text)
    (cond (bytes_eq word (codes "picture")) (Ok Picture)
    (Err Usage))

-- count: how many arguments there are, with the program's own name; arg: the first after the name. None asks for text, more than one for the usage's line
unfoldable pub asked : ℕ → List ℕ → Result Wanted Problem
asked count arg =
    cond (ltb count 2) (Ok Text)
    (cond (ltb 2 count) (Err Usage)
    (wanted_by arg))
