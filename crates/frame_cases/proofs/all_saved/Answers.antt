-- `frame_cases::all_saved` meets its contract. Assumes nothing.
use Rattle.std.proofs.Common.{◌+◌, ◌*◌, rules}
use Rattle.loops.proofs.Seven.{made_is}
use Rattle.frame_cases.specs.FrameCase.{saved_at, all_saved}
use Rattle.frame_cases.proofs.all_saved.Goals as goal

pub returns : goal.returns
unfolding all_saved
returns c = λ h. let n = c.args.n.now in made_is _ _ (λ i. saved_at n (20 + 8 * i)) (λ i y q l k. search (rules, h)) _ c.from_fn.ensures.items
