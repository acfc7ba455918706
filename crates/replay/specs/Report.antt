-- What replay writes at the end of a run. Assumes nothing.
use Rattle.std.specs.Prelude.{ℕ, List, [], ◌∷◌, ◌++◌, Option, Some, None, flat_map, codes, slice_index}
use Rattle.lines.specs.Line.{Reader}
use Rattle.lines.specs.Report.{total, agreed_text, differs_text, why_text, all_text}
use Rattle.replay.specs.declared.kinds.Kind.{Kind}
use Rattle.replay.specs.declared.kinds.Kind.TheVariants.{Project, Scale, Quantize, Dequantize, Hint, Smooth, Gap, Frame}
use Rattle.replay.specs.declared.End.{End}
use Rattle.replay.specs.declared.End.TheVariants.{AllRead, Differs, NotACase}
use Rattle.replay.specs.Kinds.{name, number}

-- the line of a kind: its word, and how many of its cases agreed
abbrev pub kind_line : List ℕ → Kind → List ℕ
kind_line t k = agreed_text (name k) (slice_index t (number k))

-- all kinds, in the order of their lines
abbrev pub kinds : List Kind
kinds = Project ∷ Scale ∷ Quantize ∷ Dequantize ∷ Hint ∷ Smooth ∷ Gap ∷ Frame ∷ []

-- the lines of the kinds
unfoldable pub kinds_text : List ℕ → List ℕ
kinds_text t = flat_map (kind_line t) kinds

-- the last line: all agree, or the line of the input that is no case, or the last that was taken, where no turn may follow, or the one that differs, with its word
abbrev pub end_text : Option End → ℕ → ℕ → List ℕ → List ℕ
end_text (Some AllRead) sum line word = all_text sum
end_text (Some NotACase) sum line word = why_text line (codes "not a case")
end_text (Some Differs) sum line word = differs_text line word
end_text None sum line word = why_text line (codes "too many lines")

-- the whole report
unfoldable pub report_text : Option End → Reader → List ℕ → List ℕ
report_text r l t = kinds_text t ++ end_text r (total t) l.state.line l.word
