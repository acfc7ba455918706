-- `picks::SlotHints::has_on_side` meets its contract. Assumes nothing.
use Rattle.std.proofs.Common.{refl, ◌∙◌, rules, tests}
use Rattle.std.proofs.lemmas.Iterator.{YieldsList-from_range}
use Rattle.std.proofs.lemmas.Iterator.Search.{any_from_yields_List}
use Rattle.picks.specs.Hints.{on_side, some_on_side}
use Rattle.picks.proofs.Sides.{side_is}
use Rattle.picks.proofs.SlotHints.has_on_side.Goals as goal

pub returns : goal.returns
returns c =
    let s = c.args.self.now in let test = on_side s.hints.now.pocs s.slot.0 c.args.late in
    any_from_yields_List test _ _ _ c.any.ensures.ran (YieldsList-from_range 0 7 7 (cc) refl) (λ x b q k. search (rules, tests)) ∙ side_is s.hints.now.pocs s.slot.0 c.args.late
