-- `intersect::extend` meets its contract. Assumes nothing.
use Rattle.std.proofs.Common.{rules, ◌≡◌, sym, ap, ◌∙◌, true, false, ◌<◌, arith, w32, SFits}
use Rattle.intops.proofs.Signed.{back}
use Rattle.levels.specs.declared.Mv.{Mv}
use Rattle.store.specs.Store.{vec}
use Rattle.store.proofs.Held.{empty_by}
use Rattle.tile.specs.Layout.{traj_at}
use Rattle.tile.specs.Tiles.{geometry}
use Rattle.tile.proofs.Owner.{mine_low}
use Rattle.traj.specs.Traj.{clipped, sum_of}
use Rattle.traj.proofs.Rows.{within_at}
use Rattle.intersect.specs.Code.{map_in}
use Rattle.intersect.proofs.Ways.{extend_off, extend_on}
use Rattle.intersect.proofs.extend.Goals.{After-clip_sum-x, Start}
use Rattle.intersect.proofs.extend.Goals as goal

col : (s : Start) → s.args.first.x < s.args.t.now.stride
col s = mine_low (geometry s.args.t.now) s.args.t.now.sound s.args.first.x s.requires.first.block

-- the sum as code has it
sum_is : (c : After-clip_sum-x) → let a = c.args in let h = a.h.now in
    vec c.clip_sum-y.result c.clip_sum-x.result ≡ clipped h.bound (sum_of (map_in a.trajectories.now (traj_at (geometry a.t.now) h.a a.first.y a.first.x)) h.mv)
sum_is c =
    let a = c.args in let h = a.h.now in
    let e : vec c.clip_sum-y.result c.clip_sum-x.result ≡ clipped h.bound (sum_of c.vector-v.result h.mv) =
    let f : SFits w32 c.vector-v.result.y = search rules in let g : SFits w32 c.vector-v.result.x = search rules in
    let i : SFits w32 h.mv.y = search rules in let j : SFits w32 h.mv.x = search rules in
    rw (simp back at c.clip_sum-y.ensures, simp back at c.clip_sum-x.ensures) in
    e ∙ ap (λ (u : Mv). clipped h.bound (sum_of u h.mv)) (c.vector-v.ensures ∙ ap (map_in a.trajectories.now) c.traj_at.ensures)

pub traj_at-to-requires-clause-column : goal.traj_at-to-requires-clause-column
traj_at-to-requires-clause-column c = col c

pub cell-requires : goal.cell-requires
cell-requires c = let a = c.args in within_at (geometry a.t.now) a.t.now.sound c.traj_at-to.result a.h.now.b a.first.y a.first.x c.traj_at-to.ensures c.requires.to_slot (col (goal.at.cell-requires c).Start) a.trajectories.now c.requires.trajectories

pub returns-then-taken-clause-stored : goal.returns-then-taken-clause-stored
returns-then-taken-clause-stored c =
    let a = c.args in let h = a.h.now in
    extend_off (geometry a.t.now) a.t.now.sound h.bound h.a h.b a.first.y a.first.x h.mv c.requires.from_slot c.requires.to_slot c.requires.first.block a.trajectories.now a.maps.now c.traj_at-to.result c.traj_at-to.ensures
    (empty_by (map_in a.trajectories.now c.traj_at-to.result) c.cell.result true c.cell.ensures (sym c.is_some-taken.ensures ∙ c.if-taken.true))

pub traj_at-requires-clause-column : goal.traj_at-requires-clause-column
traj_at-requires-clause-column c = col (goal.at.traj_at-requires-clause-column c).Start

pub vector-v-requires : goal.vector-v-requires
vector-v-requires c = let a = c.args in within_at (geometry a.t.now) a.t.now.sound c.traj_at.result a.h.now.a a.first.y a.first.x c.traj_at.ensures c.requires.from_slot (col (goal.at.vector-v-requires c).Start) a.trajectories.now c.requires.trajectories

pub put_vector-requires : goal.put_vector-requires
put_vector-requires c = let a = c.args in within_at (geometry a.t.now) a.t.now.sound c.traj_at-to.result a.h.now.b a.first.y a.first.x c.traj_at-to.ensures c.requires.to_slot (col (goal.at.put_vector-requires c).Start) a.trajectories.now c.requires.trajectories

pub enter_end-requires-clause-from : goal.enter_end-requires-clause-from
enter_end-requires-clause-from c = record { y = c.requires.first.row; x = omega (arith, col (goal.at.enter_end-requires-clause-from c).Start, c.args.t.now.sound.stride_low) }

pub returns-clause-stored : goal.returns-clause-stored
returns-clause-stored c =
    let a = c.args in let h = a.h.now in
    let f : SFits w32 c.clip_sum-y.result = search rules in let g : SFits w32 c.clip_sum-x.result = search rules in
    extend_on (geometry a.t.now) a.t.now.sound h.bound h.a h.b a.first.y a.first.x h.mv c.requires.from_slot c.requires.to_slot c.requires.first.block a.trajectories.now a.maps.now c.traj_at-to.result c.traj_at-to.ensures
    (empty_by (map_in a.trajectories.now c.traj_at-to.result) c.cell.result false c.cell.ensures (sym c.is_some-taken.ensures ∙ c.if-taken.false))
    (vec c.clip_sum-y.result c.clip_sum-x.result) (sum_is (goal.at.returns-clause-stored c).After-clip_sum-x) c.put_vector.new.self c.enter_end.new.maps (λ s. simp back at (c.put_vector.ensures.stored s)) (λ s. simp back at (c.enter_end.ensures.stored s))
