-- `landing::back_at` meets its contract. Assumes nothing.
use Rattle.std.proofs.Common.{ap, ◌∙◌, w32, SFits, rules}
use Rattle.intops.proofs.Signed.{back}
use Rattle.tile.specs.Layout.{moved, on_step}
use Rattle.tile.specs.Tiles.{geometry}
use Rattle.landing.proofs.back_at.Goals as goal

pub returns : goal.returns
returns c =
    let f = c.ranges.v in let g : SFits w32 c.back_cells.result = search rules in
    c.on_step.ensures ∙ ap (on_step (geometry c.args.t.now)) ((simp back at c.moved_by.ensures) ∙ ap (moved c.args.x) (simp back at c.back_cells.ensures))
