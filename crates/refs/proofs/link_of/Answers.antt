-- `refs::link_of` meets its contract. Assumes nothing.
use Rattle.std.proofs.Common.{◌≡◌, rules, ne_eqb}
use Rattle.refs.specs.Refs.{link_in, slot_if}
use Rattle.refs.proofs.link_of.Goals as goal

pub returns : goal.returns
unfolding link_in
returns c =
    let k : c.map.result ≡ slot_if c.find_hint.result = search rules in
    rw (ne_eqb _ _ c.if-saved-eq0.false, ← c.find_hint.ensures.value) k
