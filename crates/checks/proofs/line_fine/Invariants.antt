-- `checks::line_fine` meets its contract. Assumes nothing.
use Rattle.std.proofs.Common.{◌≡◌, ◌+◌, ◌*◌, ◌≤◌}
use Rattle.project.specs.Project.{saved_ref, saved_mv}
use Rattle.project.specs.Tested.{all_below, block_fine}
use Rattle.checks.proofs.line_fine.Given as goal

abbrev pub invariant-loop-i : goal.invariant-loop-i
invariant-loop-i l =
    (l.i ≤ l.n) × (l.ok ≡ all_below l.i (λ k. let at = 6 * (l.start + k * l.t.step) in block_fine (saved_ref l.planes at l.dir) (saved_mv l.planes at l.dir)))
