-- `checks::sources_fine` meets its contract. Assumes nothing.
use Rattle.std.proofs.Common.{refl, ap, ◌∙◌, false, ℕ, arith, get_or}
use Rattle.tile.specs.Tiles.{geometry}
use Rattle.project.specs.Tested.{all_below}
use Rattle.project.proofs.Tested.{SlotsLow, slots_low, all_turn, all_end}
use Rattle.load.proofs.Accepted.{in_range}
use Rattle.checks.specs.Code.{is_fine, fine_at}
use Rattle.checks.proofs.Defaults.{bare, in_range_at, fine_default}
use Rattle.checks.proofs.sources_fine.Goals.{In-loop-n}
use Rattle.checks.proofs.sources_fine.Goals as goal

low : (c : In-loop-n) → SlotsLow (get_or c.args.setup.now.sources.mfmv c.loop-n.n bare)
low c =
    let f = c.args.setup.now in
    slots_low _ (in_range_at f.sources.mfmv c.loop-n.n ∙ (in_range f c.requires.setup).sources c.loop-n.n c.loop-n-test.true)

pub loop-n-init : goal.loop-n-init
unfolding all_below
loop-n-init c = (omega arith, refl)

pub offset_bounds-sources-n : goal.offset_bounds-sources-n
offset_bounds-sources-n c = omega (arith, c.loop-n-test.true, (in_range c.args.setup.now c.requires.setup).few)

pub bounds-sources-n : goal.bounds-sources-n
bounds-sources-n c = omega (arith, c.loop-n-test.true, (in_range c.args.setup.now c.requires.setup).few)

pub bounds-setup-index : goal.bounds-setup-index
bounds-setup-index c = omega (arith, c.index.ensures, (low (goal.at.bounds-setup-index c).In-loop-n).reference)

pub source_fine-ok-requires-clause-slot : goal.source_fine-ok-requires-clause-slot
source_fine-ok-requires-clause-slot c = (low (goal.at.source_fine-ok-requires-clause-slot c).In-loop-n).reference

pub source_fine-ok-requires-clause-direction : goal.source_fine-ok-requires-clause-direction
source_fine-ok-requires-clause-direction c = (low (goal.at.source_fine-ok-requires-clause-direction c).In-loop-n).dir

pub loop-n-preserved : goal.loop-n-preserved
loop-n-preserved c =
    let l = c.loop-n in let a = c.args in let f = a.setup.now in let t = geometry a.t.now in
    let s = get_or f.sources.mfmv l.n bare in (
      omega (arith, c.loop-n-test.true),
      all_turn (fine_at t a.planes.now f) l.n l.ok _ l.invariant.1
          (c.source_fine-ok.ensures ∙ ap (λ (n : ℕ). is_fine t a.planes.now (get_or f.rp_ref n false) s) c.index.ensures ∙ fine_default t a.planes.now f.rp_ref f.sources.mfmv l.n),
    )

pub returns : goal.returns
returns c = let l = c.loop-n in all_end _ _ l.n l.ok l.invariant.0 c.loop-n-test.false l.invariant.1
