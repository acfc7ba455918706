-- `traj::map_to` meets its contract. Assumes nothing.
use Rattle.std.proofs.Common.{ap, ◌∙◌, ℕ, ◌+◌, ◌-◌, ◌*◌, min, arith}
use Rattle.tile.specs.Layout.{block_start}
use Rattle.tile.specs.Tiles.{geometry}
use Rattle.tile.proofs.Places.{small, start_low}
use Rattle.traj.proofs.map_to.Goals as goal

pub overflow_add-end : goal.overflow_add-end
overflow_add-end c =
    let t = geometry c.args.t.now in let k = c.args.t.now.sound in
    omega (arith, c.block_start.ensures, start_low t k (t.right + (t.block - 1)), k.right, k.wide, k.stride_low, small t k)

pub returns : goal.returns
unfolding block_start
returns c = let t = geometry c.args.t.now in c.min.ensures ∙ ap (λ (e : ℕ). min t.wide e) (c.saturating_sub.ensures ∙ ap (λ (b : ℕ). b + t.block - c.args.k * t.block) c.block_start.ensures)
