-- `checks::entries_in_range` meets its contract. Assumes nothing.
use Rattle.std.proofs.Common.{refl, ◌∙◌, rules, tests}
use Rattle.std.proofs.lemmas.Iterator.{YieldsList-from_range}
use Rattle.std.proofs.lemmas.Iterator.Search.{all_from_yields_List}
use Rattle.project.specs.Tested.{entry_in_range}
use Rattle.checks.proofs.Lists.{numbers_below}
use Rattle.checks.proofs.entries_in_range.Goals as goal

pub returns : goal.returns
returns c =
    let test = entry_in_range c.args.s.now in
    all_from_yields_List test _ _ _ c.all.ensures.ran (YieldsList-from_range 0 7 7 (cc) refl) (λ x b q k. search (rules, tests)) ∙ numbers_below test 7
