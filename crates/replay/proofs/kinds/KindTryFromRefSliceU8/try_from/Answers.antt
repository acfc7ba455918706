use Rattle.std.proofs.Common.{sym, ◌∙◌, rules}
use borrow.Author.Tests.{tests}
use Rattle.std.proofs.lemmas.Iterator.{YieldsList-from_slice}
use Rattle.std.proofs.lemmas.Iterator.Search.{find_from_yields_List}
use Rattle.std.specs.Str.{bytes_eq}
use Rattle.replay.specs.Kinds.{name}
use Rattle.replay.specs.Report.{kinds}
use Rattle.replay.proofs.Laws.{named}
use Rattle.replay.proofs.kinds.KindTryFromRefSliceU8.try_from.Goals as goal

pub returns : goal.returns
returns c =
    let first = find_from_yields_List (λ k. bytes_eq (name k) c.args.word.now) _ _ _ c.find.ensures.ran (YieldsList-from_slice kinds c.iter.ensures.rest) (λ x b q k. search (rules, tests)) in
    named c.args.word.now c.ok_or.result (sym c.ok_or.ensures.ok_part ∙ c.copied.ensures ∙ first)
