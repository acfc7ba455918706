-- `checks::sources_fine` meets its contract. Assumes nothing.
use Rattle.std.proofs.Common.{◌≡◌, ◌≤◌}
use Rattle.tile.specs.Tiles.{geometry}
use Rattle.project.specs.Tested.{all_below}
use Rattle.checks.specs.Code.{fine_at}
use Rattle.checks.proofs.sources_fine.Given as goal

abbrev pub invariant-loop-n : goal.invariant-loop-n
invariant-loop-n l = (l.n ≤ l.setup.sources.n_mfmvs) × (l.ok ≡ all_below l.n (fine_at (geometry l.t) l.planes l.setup))
