-- `frame::first_later` meets its contract. Assumes nothing.
use Rattle.std.proofs.Common.{◌≡◌, refl, sym, ap, ◌∙◌, arith, rules, true, false, length, get_or}
use Rattle.std.specs.Option.{unwrap_or}
use Rattle.std.proofs.lemmas.List.{get_or_default, take_all}
use Rattle.std.proofs.lemmas.Iterator.{YieldsList-from_slice, IsFirst-from_position, index_from_first}
use Rattle.std.proofs.lemmas.Iterator.Adapters.{serves_from_places}
use borrow.Author.Tests.{tests}
use Rattle.levels.specs.declared.Slot.{Slot}
use Rattle.levels.specs.Slots.{slot}
use Rattle.frame.specs.Frame.{leading}
use Rattle.frame.proofs.Laws.{lead, lead_hit, lead_miss, lead_is}
use Rattle.frame.proofs.first_later.Goals as goal

pub position-later-requires-clause-callable : goal.position-later-requires-clause-callable
position-later-requires-clause-callable c =
    serves_from_places (YieldsList-from_slice c.args.order.now c.iter.ensures.rest) (λ x q k. search rules) (λ x k l e.
    let f : x.now ≡ get_or c.args.order.now k (slot 0) = e ∙ get_or_default c.args.order.now k x.now (slot 0) (omega (arith, l)) in
    rw f (c.requires k))

pub returns-clause-value : goal.returns-clause-value
unfolding lead
returns-clause-value c =
    let a = c.args in let sg = a.sign.now in let xs = a.order.now in let r = c.position-later.result in
    let ran = IsFirst-from_position _ _ r (λ (s : Slot). get_or sg s.0 false ≡ false) (λ (s : Slot). get_or sg s.0 false ≡ true) c.position-later.ensures.ran
    (YieldsList-from_slice xs c.iter.ensures.rest) (λ x q k. search (rules, tests)) (λ x q k. search (rules, tests)) in
    let e : lead sg xs ≡ unwrap_or r (length xs) = index_from_first (lead sg) (λ (s : Slot). get_or sg s.0 false ≡ false) (λ (s : Slot). get_or sg s.0 false ≡ true) refl (lead_hit sg) (lead_miss sg) xs r ran in
    let t = take_all (length xs) xs (omega arith) in
    let q : lead sg xs ≡ leading sg xs (length xs) 0 = omega (arith, lead_is sg xs (length xs) 0 (omega arith), ap (lead sg) t) in
    c.unwrap_or.ensures ∙ sym e ∙ q
