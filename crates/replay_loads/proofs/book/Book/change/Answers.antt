use Rattle.std.proofs.Common.{ℕ, ◌+◌, ◌%◌, ◌^◌, ap, refl, rules, w64}
use mir.Facts.{to_z-of_z}
use mir.Val.{SFits}
use Rattle.cases.specs.Numbers.{at}
use Rattle.replay_loads.specs.Calls.{names}
use Rattle.replay_loads.proofs.book.Book.change.Goals as goal

pub returns : goal.returns
returns c =
    let call = c.in-Some.call in
    let f : SFits w64 (at c.args.n.now 2) = search rules in
    let more = simp to_z-of_z at c.to_usize.ensures in
    names {c = call} c.if-not-is_set.false c.in-Some.is (λ i. ap (λ (k : ℕ). (call.changed + k) % 2 ^ 64) (more i)) refl
