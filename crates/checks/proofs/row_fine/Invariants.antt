-- `checks::row_fine` meets its contract. Assumes nothing.
use Rattle.std.proofs.Common.{◌≡◌, ◌+◌, ◌*◌, ◌≤◌}
use Rattle.tile.specs.Tiles.{geometry}
use Rattle.project.specs.Tested.{all_below}
use Rattle.checks.specs.Code.{line_fine}
use Rattle.checks.proofs.row_fine.Given as goal

abbrev pub invariant-loop-j : goal.invariant-loop-j
invariant-loop-j l =
    (l.j ≤ l.n) × (l.ok ≡ all_below l.j (λ k. line_fine (geometry l.t) l.planes l.slot l.dir (l.t.top + k * l.t.step)))
