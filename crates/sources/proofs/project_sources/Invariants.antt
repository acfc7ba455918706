-- `sources::project_sources` meets its contract. Assumes nothing.
use Rattle.store.proofs.Lent.{At}
use Rattle.tile.specs.Owner.{owns}
use Rattle.tile.specs.Tiles.{geometry}
use Rattle.sources.proofs.Rounds.{source_at, parts, parts_lent}
use Rattle.sources.proofs.project_sources.Given as goal

abbrev pub invariant-loop-n : goal.invariant-loop-n
invariant-loop-n l =
    let f = l.setup in
    At parts_lent (owns (geometry l.t)) (source_at (geometry l.t) l.asked.traj f.rp_ref l.planes f.sources) 0 f.sources.n_mfmvs l.n
    (parts l.field l.trajectories l.maps) (parts l.initial.field l.initial.trajectories l.initial.maps)
