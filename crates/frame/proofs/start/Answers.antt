-- `frame::start` meets its contract. Assumes nothing.
use Rattle.std.proofs.Common.{◌≡◌, rules, ◌/◌, false}
use borrow.Author.Tests.{tests}
use Rattle.loops.proofs.Seven.{made}
use Rattle.frame.specs.Frame.{no_plane, started}
use Rattle.frame.proofs.Laws.{both_is}
use Rattle.frame.proofs.start.Goals as goal

pub returns : goal.returns
unfolding started
returns c =
    let f = no_plane c.args.present.now c.args.n in let r = c.from_fn-taken.ensures.items in
    rw (both_is f c.from_fn-taken.result r.long (made _ (λ i y. y ≡ f (i / 2)) _ 14 (λ i y q l k. search (rules, tests)) _ r false))
