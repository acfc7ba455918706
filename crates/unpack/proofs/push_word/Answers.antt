use Rattle.std.proofs.Common.{ℕ, List, ◌++◌, ◌∙◌, ap, take-suc, take_all, append_assoc, add-one}
use Rattle.unpack.proofs.push_word.Goals as goal

pub loop-byte-preserved : goal.loop-byte-preserved
loop-byte-preserved g c = c.push.ensures.items ∙ rw (c.loop-byte.invariant, add-one, append_assoc, take-suc c.args.word.now c.loop-byte.byte-index 0 c.loop-byte-test.true)

pub returns : goal.returns
returns g c = c.loop-byte.invariant ∙ ap (λ (l : List ℕ). c.args.out.now.items ++ l) (take_all c.loop-byte.byte-index c.args.word.now c.loop-byte-test.false)
