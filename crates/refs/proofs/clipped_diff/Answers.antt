-- `refs::clipped_diff` meets its contract. Assumes nothing.
use Rattle.std.proofs.Common.{◌≡◌, ap, ◌∙◌, ◌≤◌, pos, nat_abs, w32, SFits, w8, negsuc, rules}
use Rattle.intops.proofs.Signed.{back, signed, clip_abs, ud}
use Rattle.refs.specs.Refs.{clipped}
use Rattle.intops.specs.Choice.{clip_z}
use Rattle.refs.proofs.clipped_diff.Goals.{After-iclip}
use Rattle.refs.proofs.clipped_diff.Goals as goal

clip_is : (c : After-iclip) → c.iclip.result ≡ clip_z (negsuc 30) (pos 31) c.diff.result
clip_is c = let f : SFits w32 c.diff.result = search rules in simp back at c.iclip.ensures

fits : (c : After-iclip) → SFits w32 c.iclip.result × SFits w8 c.iclip.result
fits c =
    let e : nat_abs c.iclip.result ≤ 31 = rw (clip_is c) (clip_abs 30 c.diff.result) in
    let f : SFits w32 c.iclip.result = search rules in
    (f, omega (signed, ud c.iclip.result))

pub returns : goal.returns
unfolding clipped
returns c = let (f, g) = fits c in simp back (clip_is c ∙ ap (clip_z (negsuc 30) (pos 31)) c.diff.ensures)
