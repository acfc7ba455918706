-- `frame::fill_sources` meets its contract. Assumes nothing.
use Rattle.std.proofs.Common.{◌≡◌, rules}
use borrow.Author.Tests.{tests}
use Rattle.loops.proofs.Seven.{made}
use Rattle.frame.specs.Frame.{no_source, source_at, filled}
use Rattle.frame.proofs.Laws.{four_is}
use Rattle.frame.proofs.fill_sources.Goals as goal

pub returns : goal.returns
unfolding filled
returns c =
    let f = source_at c.args.h.now.pocs c.args.p.now in let r = c.from_fn-mfmv.ensures.items in
    rw (four_is f c.from_fn-mfmv.result r.long (made _ (λ i y. y ≡ f i) _ 4 (λ i y q l k. search (rules, tests)) _ r no_source), c.used_mask.ensures)
