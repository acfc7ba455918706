-- `sample::sample` meets its contract. Assumes nothing.
use Rattle.std.proofs.Common.{◌≡◌, sym, ◌∙◌, arith, drop, ℤ, List}
use Rattle.tile.specs.Tiles.{geometry}
use Rattle.project.specs.Project.{saved_at}
use Rattle.saved.specs.Code.{saved_of}
use Rattle.saved.proofs.Parts.{block_in, block_same}
use Rattle.sample.proofs.Steps.{saved_in, sample_off, sample_on, same_sample}
use Rattle.sample.proofs.sample.Goals.{After-block_at}
use Rattle.sample.proofs.sample.Goals as goal

saved_is : (c : After-block_at) (planes : List ℤ) → let t = geometry c.args.t.now in let s = c.args.s.now in
    drop (saved_at t s.reference.0 t.top 0) planes ≡ c.args.part.now → saved_in t planes s c.args.at.y c.args.at.x ≡ c.block_at.result
saved_is c planes e =
    let a = c.args in
    sym ((rw (c.from.ensures, c.saved_at-i.ensures) at c.block_at.ensures.block)
    ∙ block_same (geometry a.t.now) planes a.part.now a.s.now.reference.0 a.at.y a.at.x c.requires.top e saved_of a.s.now.dir)

pub block_at-requires-clause-inside : goal.block_at-requires-clause-inside
block_at-requires-clause-inside c =
    let t = geometry c.args.t.now in
    rw c.saved_at-i.ensures (omega (arith, block_in t c.args.at.y c.args.at.x c.requires.top c.requires.bottom (omega (arith, c.requires.column, c.args.t.now.sound.wide)), c.requires.long))

pub returns-in_default-clause-stored : goal.returns-in_default-clause-stored
returns-in_default-clause-stored c =
    let a = c.args in
    λ planes u e h. rw (same_sample (geometry a.t.now) a.traj planes a.at.y a.at.x h)
    (sample_off (geometry a.t.now) a.traj planes a.s.now a.at.y a.at.x (saved_is (goal.at.returns-in_default-clause-stored c).After-block_at planes e ∙ c.in_default.is) _)

pub returns-clause-stored : goal.returns-clause-stored
returns-clause-stored c =
    let a = c.args in
    λ planes u e h.
    rw (same_sample (geometry a.t.now) a.traj planes a.at.y a.at.x h)
    (sample_on (geometry a.t.now) a.traj planes a.s.now a.at.y a.at.x c.in-Some.block (saved_is (goal.at.returns-clause-stored c).After-block_at planes e ∙ c.in-Some.is) a.field.now a.trajectories.now a.maps.now
    c.intersect_at.new.trajectories c.intersect_at.new.maps c.intersect_at.ensures.stored _ c.project_mv.ensures.stored)
