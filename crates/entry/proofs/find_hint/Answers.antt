-- `entry::find_hint` meets its contract. Assumes nothing.
use Rattle.std.proofs.Common.{◌≡◌, ◌+◌, ◌<◌, ℕ, Option, Some, None, IfSome, cond, ltb, arith, ap, ◌∙◌, sym, rules, tests, length, take}
use Rattle.std.specs.List.{position_or_len}
use Rattle.std.proofs.lemmas.List.{length-take-le}
use Rattle.std.proofs.lemmas.Iterator.{YieldsList-from_slice}
use Rattle.std.proofs.lemmas.Iterator.Search.{position_from_yields_List}
use Rattle.entry.specs.Entry.{found}
use Rattle.entry.proofs.Laws.{has_hint, found_first, found_low}
use Rattle.entry.proofs.find_hint.Goals as goal

below : (o : Option ℕ) (n : ℕ) → IfSome o (λ k. k < 0 + n) → IfSome o (λ k. k < n)
below None n h = tt
below (Some k) n h = omega (arith, h)

pub returns-clause-value : goal.returns-clause-value
returns-clause-value c =
    let hs = c.args.hints.now in let x = c.args.x in let n = c.args.n in
    let l : length hs ≡ 7 = search rules in
    let front = take n hs in
    let m : length front ≡ n = length-take-le n hs (omega (arith, l)) in
    let q = position_or_len (has_hint x) front in
    let r = position_from_yields_List (has_hint x) _ _ c.position.result c.position.ensures.ran (YieldsList-from_slice front c.iter.ensures.rest) (λ y b q k. search (rules, tests)) in
    let z : 0 + q ≡ q = omega arith in
    r ∙ ap (λ k. cond (ltb q k) (Some q) None) m ∙ ap (λ k. cond (ltb q n) (Some k) None) (sym z) ∙ sym (found_first hs x n 0 (omega (arith, l)))

pub returns-clause-below : goal.returns-clause-below
returns-clause-below c = rw (returns-clause-value c) (below (found c.args.hints.now c.args.x c.args.n 0) c.args.n (found_low c.args.hints.now c.args.x c.args.n 0))
