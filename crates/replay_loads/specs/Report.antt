-- What replay_loads writes at the end of a run. Assumes nothing.
use Rattle.std.specs.Prelude.{ℕ, List, ◌++◌, Option, Some, None, codes, slice_index}
use Rattle.lines.specs.Report.{total, agreed_text, differs_text, why_text, all_text}
use Rattle.replay_loads.specs.declared.asked.Asked.{Asked}
use Rattle.replay_loads.specs.declared.asked.Asked.TheVariants.{Call, Pass}
use Rattle.replay_loads.specs.declared.book.Book.{Book}
use Rattle.replay_loads.specs.declared.book.End.{End}
use Rattle.replay_loads.specs.declared.book.End.TheVariants.{AllTaken, Differs, NotALine, NoRoom}

-- how many of each kind agreed (`number`)
unfoldable pub tallies_text : List ℕ → List ℕ
tallies_text t = agreed_text (codes "loads") (slice_index t 0) ++ agreed_text (codes "refused loads") (slice_index t 1) ++ agreed_text (codes "passes") (slice_index t 2)

-- the word of a line that asks for this
abbrev pub call_text : Asked → List ℕ
call_text (Call n) = codes "call"
call_text (Pass n) = codes "pass"

-- the last line: all agree, or the call that differs, or the line of the input at which a list has no room, or the last that was taken, where no turn may follow, or the one that may not stand there
abbrev pub end_text : Option End → ℕ → ℕ → List ℕ
end_text (Some AllTaken) sum line = all_text sum
end_text (Some (Differs l a)) sum line = differs_text l (call_text a)
end_text (Some NoRoom) sum line = why_text line (codes "no room for the lists of this case")
end_text (Some NotALine) sum line = why_text line (codes "not a line that may stand here")
end_text None sum line = why_text line (codes "too many lines")

-- the whole report
unfoldable pub report_text : Book → ℕ → List ℕ → List ℕ
report_text b line t = tallies_text t ++ end_text b.ended (total t) line
