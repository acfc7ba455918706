-- `lent::put_mv` meets its contract. Assumes nothing.
use Rattle.std.proofs.Common.{rules, ◌≡◌, refl, w32, SFits}
use Rattle.std.specs.Prelude.{Ok}
use Rattle.intops.proofs.Signed.{back}
use Rattle.lent.proofs.put_mv.Goals as goal

pub returns-in-Ok : goal.returns-in-Ok
returns-in-Ok c =
    let v = c.in-Ok.mv in
    let e : c.args.answer ≡ Ok v = search rules in
    let f : SFits w32 v.y = search rules in let g : SFits w32 v.x = search rules in
    rw e (simp back (record { number = refl; buffer = refl }))
