-- `sources::project_sources` meets its contract. Assumes nothing.
use Rattle.std.proofs.Common.{◌≡◌, sym, ap, ◌∙◌, arith, Bool, true, false, ℕ, get_or}
use Rattle.store.specs.Program.{Prog, run}
use Rattle.store.proofs.Lent.{at_holds, at_again, at_done}
use Rattle.tile.specs.Owner.{owns}
use Rattle.tile.specs.Tiles.{geometry}
use Rattle.project.specs.Tested.{source_in_range}
use Rattle.project.proofs.Tested.{slots_low}
use Rattle.field.specs.Lent.{store_of}
use Rattle.checks.proofs.Defaults.{bare, in_range_at, fine_default}
use Rattle.sources.proofs.Defaults.{source_at_lem, looked}
use Rattle.sources.proofs.Rounds.{source_at, parts, parts_lent, sources_done}
use Rattle.sources.proofs.project_sources.Goals.{In-loop-n}
use Rattle.sources.proofs.project_sources.Goals as goal

-- test 9 of the turn's source, as code reads it
ranged : (c : In-loop-n) → source_in_range (get_or c.args.setup.now.sources.mfmv c.loop-n.n bare) ≡ true
ranged c = in_range_at c.args.setup.now.sources.mfmv c.loop-n.n ∙ c.requires.fine.range c.loop-n.n c.loop-n-test.true

pub bounds-setup-index : goal.bounds-setup-index
bounds-setup-index c = omega (arith, c.index.ensures, (slots_low _ (ranged (goal.at.bounds-setup-index c).In-loop-n)).reference)

pub loop-n-init : goal.loop-n-init
loop-n-init c = at_holds parts_lent (owns (geometry c.args.t.now)) _ 0 _ _

pub project_source-requires-clause-source : goal.project_source-requires-clause-source
project_source-requires-clause-source c = ranged (goal.at.project_source-requires-clause-source c).In-loop-n

pub project_source-requires-clause-fine : goal.project_source-requires-clause-fine
project_source-requires-clause-fine c =
    let a = c.args in let f = a.setup.now in let l = c.loop-n in let t = geometry a.t.now in
    rw c.index.ensures (looked t a.planes.now _ (get_or f.sources.mfmv l.n bare) (fine_default t a.planes.now f.rp_ref f.sources.mfmv l.n ∙ c.requires.fine.blocks l.n c.loop-n-test.true))

pub loop-n-preserved : goal.loop-n-preserved
loop-n-preserved c =
    let a = c.args in let f = a.setup.now in let l = c.loop-n in let k = c.project_source in let t = geometry a.t.now in
    at_again parts_lent (owns t) (source_at t a.asked.traj f.rp_ref a.planes.now f.sources) 0 f.sources.n_mfmvs l.n (parts l.field l.trajectories l.maps) _ (parts k.new.field k.new.trajectories k.new.maps) c.loop-n-test.true l.invariant
    (record { field = k.ensures.same_field; trajs = k.ensures.same_trajectories; maps = k.ensures.same_maps })
    (λ u. k.ensures.stored f.rp_ref (ap (λ (m : ℕ). get_or f.rp_ref m false) (sym c.index.ensures)) ∙ ap (λ (p : Prog). run (owns t) p (store_of l.field l.trajectories l.maps)) (source_at_lem t a.asked.traj a.planes.now f.rp_ref f.sources.mfmv l.n))

pub returns-clause-stored : goal.returns-clause-stored
returns-clause-stored c =
    let a = c.args in let f = a.setup.now in let l = c.loop-n in let t = geometry a.t.now in
    λ q se pe te le. sources_done t q f.sources f.rp_ref a.asked.traj a.planes.now se pe te le _ _
    (at_done parts_lent (owns t) (source_at t a.asked.traj f.rp_ref a.planes.now f.sources) 0 f.sources.n_mfmvs l.n _ _ c.loop-n-test.false l.invariant (store_of l.field l.trajectories l.maps))
