-- `cases::seven` meets its contract. Assumes nothing.
use Rattle.std.proofs.Common.{◌+◌, rules}
use Rattle.std.proofs.lemmas.Option.{get_or_from_slice_get}
use Rattle.loops.proofs.Seven.{made}
use Rattle.cases.specs.Numbers.{at, IsNumber}
use Rattle.cases.proofs.seven.Goals as goal

pub returns : goal.returns
returns g c = λ i x l e.
    let m = made _ (λ i x. IsNumber g.T.TryFrom.try_from_gives (at c.args.n.now (c.args.k + i)) x) _ 7 (λ i y q l k. search rules) _ c.from_fn.ensures.items x i l in
    rw (get_or_from_slice_get _ i x x e) at m
