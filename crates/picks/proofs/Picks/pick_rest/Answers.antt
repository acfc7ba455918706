-- `picks::Picks::pick_rest` meets its contract. Assumes nothing.
use Rattle.std.proofs.Common.{◌≡◌, refl, sym, arith, ap, ◌∙◌, ℕ, ◌+◌, ◌-◌, length, take, get_or, [], ◌∷◌, List}
use Rattle.std.proofs.lemmas.List.{take_all}
use Rattle.levels.specs.declared.Slot.{Slot}
use Rattle.levels.specs.Slots.{slot}
use Rattle.loops.proofs.Turns.{turned, ended}
use Rattle.picks.specs.Picks.{from_end, both_ways, rest}
use Rattle.picks.proofs.Laws.{front_less}
use Rattle.picks.proofs.Picks.pick_rest.Goals as goal

pub loop-s-init : goal.loop-s-init
unfolding rest
loop-s-init c =
    let a = c.args in let left = c.into_iter-s-iterator.result.iter.rest.now in
    let e : left ≡ a.list.now = rw (c.into_iter-s-iterator.ensures.into_iter_gives, c.rev-s-items.ensures.source, c.iter.ensures.rest) in
    let z : length a.list.now - length a.list.now ≡ 0 = omega arith in
    rw e (sym (take_all (length a.list.now) a.list.now (omega arith)), omega arith, rw z)

pub loop-s-preserved : goal.loop-s-preserved
loop-s-preserved c =
    let l = c.loop-s in let a = c.args in
    let before = l.s-iterator.iter.rest.now in let left = c.next.new.self.iter.rest.now in
    let (n, f, s) = front_less a.list.now left before c.in-Some.s.now c.in-Some.ensures.steps l.invariant.0 in
    let k : length left ≡ (length a.list.now) - 1 - ((length a.list.now) - length before) = omega (arith, l.invariant.1) in
    let e : c.both_ways.new.self ≡ from_end a.diffs.now a.list.now (length a.list.now) ((length a.list.now) - length before) l.self =
    c.both_ways.ensures ∙ ap (λ (x : Slot). both_ways a.diffs.now x l.self) (s ∙ ap (λ (i : ℕ). get_or a.list.now i (slot 0)) k) in
    let q : (length a.list.now) - length left ≡ (length a.list.now) - length before + 1 = omega (arith, l.invariant.1) in
    (f, omega (arith, l.invariant.1), rw q (turned (from_end a.diffs.now a.list.now (length a.list.now)) (length a.list.now) ((length a.list.now) - length before) l.self _ _ (omega (arith, l.invariant.1)) e l.invariant.2))

pub returns : goal.returns
returns c =
    let l = c.loop-s in let a = c.args in
    let q : (length a.list.now) - length l.s-iterator.iter.rest.now ≡ (length a.list.now) = omega (arith, c.in-None.ensures.steps.0) in
    ended (from_end a.diffs.now a.list.now (length a.list.now)) (length a.list.now) (length a.list.now) l.self _ (omega arith) (rw q at l.invariant.2)
