-- `checks::row_fine` meets its contract. Assumes nothing.
use Rattle.std.proofs.Common.{refl, ap, ◌∙◌, Bool, ℕ, ◌+◌, ◌*◌, ◌<◌, arith}
use Rattle.loops.proofs.Same.{turn_below}
use Rattle.tile.specs.Tiles.{geometry}
use Rattle.tile.proofs.Places.{small}
use Rattle.project.specs.Tested.{all_below}
use Rattle.project.proofs.Tested.{all_turn, all_end}
use Rattle.checks.specs.Code.{line_fine}
use Rattle.checks.proofs.row_fine.Goals.{In-loop-j}
use Rattle.checks.proofs.row_fine.Goals as goal

below : (c : In-loop-j) → let t = c.args.t.now in t.top + c.loop-j.j * t.step < t.bottom
below c =
    let t = c.args.t.now in
    turn_below t.step t.top t.bottom c.loop-j.j (small (geometry t) t.sound).0 (rw c.count-n.ensures at c.loop-j-test.true)

pub count-n-requires-clause-order : goal.count-n-requires-clause-order
count-n-requires-clause-order c = omega (arith, c.args.t.now.sound.rows)

pub count-n-requires-clause-low : goal.count-n-requires-clause-low
count-n-requires-clause-low c = let k = c.args.t.now.sound in omega (arith, k.frame_end, k.high_low)

pub loop-j-init : goal.loop-j-init
unfolding all_below
loop-j-init c = (omega arith, refl)

pub line_fine-ok-requires-clause-row : goal.line_fine-ok-requires-clause-row
line_fine-ok-requires-clause-row c = omega (arith, below (goal.at.line_fine-ok-requires-clause-row c).In-loop-j, c.args.t.now.sound.frame_end)

pub loop-j-preserved : goal.loop-j-preserved
loop-j-preserved c =
    let l = c.loop-j in let a = c.args in let t = a.t.now in
    (omega arith, all_turn (λ k. line_fine (geometry t) a.planes.now a.slot a.dir (t.top + k * t.step)) l.j l.ok _ l.invariant.1 c.line_fine-ok.ensures)

pub returns : goal.returns
returns c =
    let l = c.loop-j in let a = c.args in let t = a.t.now in
    let p : ℕ → Bool = λ k. line_fine (geometry t) a.planes.now a.slot a.dir (t.top + k * t.step) in
    all_end p _ l.j l.ok l.invariant.0 c.loop-j-test.false l.invariant.1 ∙ ap (λ (m : ℕ). all_below m p) c.count-n.ensures
