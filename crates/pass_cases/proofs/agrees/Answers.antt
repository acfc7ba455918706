-- `pass_cases::agrees` meets its contract. Assumes nothing.
use Rattle.std.proofs.lemmas.Option.{same_Some}
use Rattle.store.specs.Store.{Store}
use Rattle.field.specs.Lent.{store_of}
use Rattle.pass_cases.proofs.PassCase.{agreed}
use Rattle.pass_cases.proofs.agrees.Goals.{Start}
use Rattle.pass_cases.proofs.agrees.Goals as goal

-- the store as it is lent
abbrev was : Start → Store
was s = let a = s.args in store_of a.field.now a.trajectories.now a.maps.now

pub returns-clause-agrees : goal.returns-clause-agrees
returns-clause-agrees c = λ e.
    agreed c.setup_of-frame.result c.args.setup.now c.args.n.now (was (goal.at.returns-clause-agrees c).Start) c.args.want.now c.asked_at-asked.ensures c.if-not-is_record.ensures
    c.in_ok-pass.ensures c.in_ok-run_on_tile.ensures.ran (rw (same_Some _ _ e) at c.same_parts.ensures.listed)
