-- `pass_cases::accepted_tile` meets its contract. Assumes nothing.
use Rattle.std.proofs.Common.{[], refl}
use Rattle.field.specs.Lent.{store_of}
use Rattle.pass_cases.proofs.accepted_tile.Goals as goal

pub returns : goal.returns
returns c =
    let a = c.args in
    let e = c.in_ok-t.ensures a.asked.traj a.asked.holes [] in
    let s = store_of a.field.now a.trajectories.now a.maps.now in
    let k = c.of-lengths.ensures a.trajectories.now.y.now a.trajectories.now.x.now in
    record { accepted = record { setup = e.0; tile = e.1; long = λ p q. (let k = a.asked in c.in_ok-check_lengths.ensures k.traj k.holes k.col_start k.col_end k.row_start k.row_end p s) (rw (c.high_of.ensures.value, c.stride_of.ensures.value) q) refl refl k }; tile = e.2 }
