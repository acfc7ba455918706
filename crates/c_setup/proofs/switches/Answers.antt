-- `c_setup::switches` meets its contract. Assumes nothing.
use Rattle.std.proofs.Common.{get_or, rules}
use Rattle.loops.proofs.Seven.{mapped_is}
use Rattle.c_setup.specs.Setup.{on}
use Rattle.c_setup.proofs.switches.Goals as goal

pub returns : goal.returns
returns c = mapped_is _ _ (λ i. on (get_or c.args.bytes i 0)) c.args.bytes (λ i x y q l e k. rw (e 0) (search rules)) _ c.map.ensures.items
