-- `load_cases::agrees` meets its contract. Assumes nothing.
use Rattle.std.proofs.Common.{refl, sym, ◌∙◌, arith, w64, SFits, rules}
use Rattle.std.proofs.lemmas.Option.{same_Some}
use borrow.Author.Rules.{sfits_of}
use Rattle.intops.proofs.Signed.{same_bits}
use Rattle.store.specs.Store.{Store}
use Rattle.field.specs.Lent.{store_of}
use Rattle.cases.specs.Numbers.{at}
use Rattle.cases.proofs.Verdicts.{passed}
use Rattle.load_cases.proofs.LoadCase.{left_by, agreed}
use Rattle.load_cases.proofs.agrees.Goals.{Start}
use Rattle.load_cases.proofs.agrees.Goals as goal

-- the store as it is lent
abbrev was : Start → Store
was s = let a = s.args in store_of a.field.now a.trajectories.now a.maps.now

pub asked_at-requires : goal.asked_at-requires
asked_at-requires c = record { long = omega (arith, c.if-n-ne8.false); tile = passed c.all_within.result c.if-not-all_within.false-raw c.all_within.ensures }

pub returns-clause-agrees : goal.returns-clause-agrees
returns-clause-agrees c = λ e.
    let n = c.args.n.now in
    let f : SFits w64 (at n 7) = sfits_of c.stated-1.given in
    let g : SFits w64 c.from.result = search rules in
    let k = c.run_call-number.ensures in
    let s = was (goal.at.returns-clause-agrees c).Start in
    agreed c.setup_of-frame.result c.args.setup.now n c.args.planes.now s c.args.want.now
    (passed c.is_record.result c.if-not-is_record.false-raw c.is_record.ensures)
    (left_by c.setup_of-frame.result c.args.planes.now s c.asked_at.ensures refl (k.answer, k.stored))
    (sym (same_bits g f c.if-from-stated.false) ∙ c.from.ensures)
    (rw (same_Some _ _ e) at c.same_parts.ensures.listed)
