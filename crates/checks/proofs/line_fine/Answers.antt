-- `checks::line_fine` meets its contract. Assumes nothing.
use Rattle.std.proofs.Common.{ap, ◌∙◌, ◌≡◌, refl, Bool, ℕ, ◌+◌, ◌-◌, ◌*◌, ◌/◌, ◌≤◌, ◌<◌, arith}
use Rattle.loops.proofs.Same.{turn_below}
use Rattle.tile.specs.Tiles.{geometry}
use Rattle.tile.proofs.Places.{small}
use Rattle.project.specs.Project.{saved_at, saved_ref, saved_mv}
use Rattle.project.specs.Tested.{all_below, block_fine}
use Rattle.project.proofs.Tested.{all_turn, all_end}
use Rattle.checks.proofs.Bounds.{line_within}
use Rattle.checks.proofs.line_fine.Goals.{In-loop-i, Start}
use Rattle.checks.proofs.line_fine.Goals as goal

-- what is known where the row begins, and of a block of it
row : (s : Start) → let t = s.args.t.now in (s.args.slot * t.high + s.args.y < 57344) × ((s.args.slot * t.high + s.args.y) * t.stride + t.stride ≤ 7 * (t.high * t.stride))
row s = let t = s.args.t.now in let k = t.sound in let w = line_within (geometry t) s.args.slot s.args.y s.requires.slot s.requires.row in (omega (arith, w.0, k.high_low), w.1)

col : (c : In-loop-i) → let t = c.args.t.now in c.loop-i.i * t.step < t.stride
col c =
    let t = c.args.t.now in let k = t.sound in
    omega (arith, turn_below t.step 0 t.wide c.loop-i.i (small (geometry t) k).0 (rw c.count-n.ensures at c.loop-i-test.true), k.wide)

pub count-n-requires-clause-low : goal.count-n-requires-clause-low
count-n-requires-clause-low c = let k = c.args.t.now.sound in omega (arith, k.wide, k.stride_low)

pub loop-i-init : goal.loop-i-init
unfolding all_below
loop-i-init c = (omega arith, refl)

pub block_fine-ok-requires-clause-block : goal.block_fine-ok-requires-clause-block
block_fine-ok-requires-clause-block c = omega (arith, col (goal.at.block_fine-ok-requires-clause-block c).In-loop-i, row (goal.at.block_fine-ok-requires-clause-block c).Start, c.requires.planes)

pub loop-i-preserved : goal.loop-i-preserved
loop-i-preserved c =
    let l = c.loop-i in let a = c.args in let t = a.t.now in
    let start : ℕ = (a.slot * t.high + a.y) * t.stride in
    let p : ℕ → Bool = λ k. let at = 6 * (start + k * t.step) in block_fine (saved_ref a.planes.now at a.dir) (saved_mv a.planes.now at a.dir) in
    (omega arith, all_turn p l.i l.ok _ l.invariant.1 c.block_fine-ok.ensures)

pub returns : goal.returns
unfolding saved_at
returns c =
    let l = c.loop-i in let a = c.args in let t = a.t.now in
    let start : ℕ = (a.slot * t.high + a.y) * t.stride in
    let p : ℕ → Bool = λ k. let at = 6 * (start + k * t.step) in block_fine (saved_ref a.planes.now at a.dir) (saved_mv a.planes.now at a.dir) in
    let z : t.wide - 0 ≡ t.wide = omega arith in
    let n : c.count-n.result ≡ (t.wide + (t.step - 1)) / t.step = c.count-n.ensures ∙ ap (λ (m : ℕ). (m + (t.step - 1)) / t.step) z in
    all_end p _ l.i l.ok l.invariant.0 c.loop-i-test.false l.invariant.1 ∙ ap (λ (m : ℕ). all_below m p) n
