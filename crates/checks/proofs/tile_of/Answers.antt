-- `checks::tile_of` meets its contract. Assumes nothing.
use Rattle.std.proofs.Common.{[], arith}
use Rattle.tile.specs.Sound.{Sound}
use Rattle.load.specs.Asked.{call_of}
use Rattle.load.specs.Load.{tile_of}
use Rattle.load.proofs.Accepted.{in_range, columns, sound}
use Rattle.checks.proofs.tile_of.Goals.{Start}
use Rattle.checks.proofs.tile_of.Goals as goal

sound_at : (c : Start) → Sound (tile_of (call_of c.args.setup.now c.args.asked []))
sound_at c = let q = call_of c.args.setup.now c.args.asked [] in sound q (in_range c.args.setup.now c.requires.setup) (columns q c.requires.tile)

pub overflow_mul-result : goal.overflow_mul-result
unfolding tile_of
overflow_mul-result c = rw (c.first_row.ensures, c.stride_of-stride.ensures.value) (omega (arith, (sound_at (goal.at.overflow_mul-result c).Start).offset_low))

pub invariant_of-result : goal.invariant_of-result
unfolding tile_of
invariant_of-result c =
    record { sound = rw (c.min.ensures, c.first_row.ensures, c.stride_of-stride.ensures.value, c.high_of-high.ensures.value, c.wide_of.ensures, c.edge_of.ensures, c.block_of.ensures, c.side_of.ensures.value, c.from.ensures) (sound_at (goal.at.invariant_of-result c).Start) }

pub returns : goal.returns
unfolding tile_of
returns c =
    λ traj holes p. rw (c.min.ensures, c.first_row.ensures, c.stride_of-stride.ensures.value, c.high_of-high.ensures.value, c.wide_of.ensures, c.edge_of.ensures, c.block_of.ensures, c.side_of.ensures.value, c.from.ensures)
