-- `frame::frame_of` meets its contract. Assumes nothing.
use Rattle.std.proofs.Common.{rules, w8, SFits}
use Rattle.intops.proofs.Signed.{back}
use Rattle.frame.specs.Frame.{frame_of}
use Rattle.frame.proofs.frame_of.Goals as goal

pub returns : goal.returns
unfolding frame_of
returns c =
    let f : SFits w8 c.args.f.now.tip0 = search rules in let g : SFits w8 c.args.f.now.tip1 = search rules in
    let k = c.of-c.result in
    rw (c.sources_of-sources.ensures, c.tip_of.ensures, c.flip_mask.ensures, c.all_abs_diffs.ensures, k.diffs, k.signs, c.of-c.ensures, c.tip_pair-pair.ensures.first, c.tip_pair-pair.ensures.second, c.requires)
    (simp back)
