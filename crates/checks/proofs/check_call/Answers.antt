-- `checks::check_call` meets its contract. Assumes nothing.
use Rattle.std.proofs.Common.{◌≡◌, refl, sym, subst, true, List, ℤ, pos, replicate, rules}
use Rattle.std.proofs.Math.ListN.{length-replicate}
use Rattle.levels.specs.Answer.{number_of}
use Rattle.store.specs.Store.{Store, pack, with_traj}
use Rattle.tile.specs.Geometry.{Geometry}
use Rattle.tile.specs.Sound.{TrajHeld}
use Rattle.load.specs.Asked.{switched, call_of}
use Rattle.load.specs.Load.{Call, tile_of}
use Rattle.load.specs.Calls.{long_enough, answer}
use Rattle.load.proofs.Held.{long, traj_held}
use Rattle.checks.specs.declared.Lengths.{Lengths}
use Rattle.checks.specs.Code.{AreLengths, PlanesHeld}
use Rattle.checks.proofs.check_call.Goals.{Start}
use Rattle.checks.proofs.check_call.Goals as goal

-- what test 11 says of a tile
held : (q : Call) (s : Store) (t : Geometry) → t ≡ tile_of q → long_enough q s ≡ true → PlanesHeld t q.planes × TrajHeld t s.traj_y s.traj_x
unfolding tile_of
held q s t e l = let g = long q s l in subst (λ (t : Geometry). PlanesHeld t q.planes × TrajHeld t s.traj_y s.traj_x) (sym e) (g.planes, traj_held q s g)

-- a store with the trajectories, whose other lists are as long as is told
abbrev some : Start → Store
some c =
    let a = c.args in let l = a.lengths in
    pack (replicate l.field_y (pos 0)) (replicate l.field_x (pos 0)) (replicate l.field_ref 0) a.traj_y.now a.traj_x.now (replicate l.map_y (pos 0)) (replicate l.map_x (pos 0))

some_long : (c : Start) → AreLengths c.args.lengths (some c)
some_long c =
    let l = c.args.lengths in
    record {
      field_y = length-replicate l.field_y (pos 0);
      field_x = length-replicate l.field_x (pos 0);
      field_ref = length-replicate l.field_ref 0;
      map_y = length-replicate l.map_y (pos 0);
      map_x = length-replicate l.map_x (pos 0);
    }

-- the lengths don't speak of the trajectories
also : (l : Lengths) (s : Store) (ty tx : List ℤ) → AreLengths l s → AreLengths l (with_traj s ty tx s.map_y s.map_x)
also l s ty tx k = record { field_y = k.field_y; field_x = k.field_x; field_ref = k.field_ref; map_y = k.map_y; map_x = k.map_x }

pub check_contents-requires-clause-setup : goal.check_contents-requires-clause-setup
check_contents-requires-clause-setup c = (c.in_ok-t.ensures c.args.asked.traj c.args.asked.holes c.args.planes.now).0

pub check_contents-requires-clause-planes : goal.check_contents-requires-clause-planes
check_contents-requires-clause-planes c =
    let b = (goal.at.check_contents-requires-clause-planes c).Start in let a = c.args in let p = a.planes.now in
    (held (call_of a.setup.now a.asked p) (some b) _ (c.in_ok-t.ensures a.asked.traj a.asked.holes p).2 (c.in_ok-check_lengths.ensures a.asked.traj a.asked.holes a.asked.col_start a.asked.col_end a.asked.row_start a.asked.row_end p (some b) refl refl refl (some_long b))).0

pub check_contents-requires-clause-held : goal.check_contents-requires-clause-held
check_contents-requires-clause-held c =
    let b = (goal.at.check_contents-requires-clause-held c).Start in let a = c.args in let p = a.planes.now in
    (held (call_of a.setup.now a.asked p) (some b) _ (c.in_ok-t.ensures a.asked.traj a.asked.holes p).2 (c.in_ok-check_lengths.ensures a.asked.traj a.asked.holes a.asked.col_start a.asked.col_end a.asked.row_start a.asked.row_end p (some b) refl refl refl (some_long b))).1

pub returns-in_err-check_lengths : goal.returns-in_err-check_lengths
unfolding answer
returns-in_err-check_lengths c = λ traj holes s k.
    let a = c.args in let p = a.planes.now in let u = with_traj s a.traj_y.now a.traj_x.now s.map_y s.map_x in
    let q = switched traj holes a.asked in let t = c.in_ok-t.ensures traj holes p in
    let d = c.in_err-check_lengths.ensures traj holes a.asked.col_start a.asked.col_end a.asked.row_start a.asked.row_end p u refl refl refl (also a.lengths s a.traj_y.now a.traj_x.now k) in
    let e : number_of c.in_err-check_lengths.field-0.0 ≡ answer (call_of a.setup.now q p) u = rw (d.0, t.0, t.1, d.1) in
    search rules

pub returns-in_err-check_contents : goal.returns-in_err-check_contents
unfolding answer
returns-in_err-check_contents c = λ traj holes s k.
    let a = c.args in let p = a.planes.now in let u = with_traj s a.traj_y.now a.traj_x.now s.map_y s.map_x in
    let q = switched traj holes a.asked in let t = c.in_ok-t.ensures traj holes p in
    let d = c.in_err-check_contents.ensures q s (sym t.2) in
    let e : number_of c.in_err-check_contents.field-0.0 ≡ answer (call_of a.setup.now q p) u
    = rw (d.0, t.0, t.1, c.in_ok-check_lengths.ensures traj holes a.asked.col_start a.asked.col_end a.asked.row_start a.asked.row_end p u refl refl refl (also a.lengths s a.traj_y.now a.traj_x.now k), d.1) in
    search rules

pub returns : goal.returns
unfolding answer
returns c = λ traj holes s k.
    let a = c.args in let p = a.planes.now in let u = with_traj s a.traj_y.now a.traj_x.now s.map_y s.map_x in
    let q = switched traj holes a.asked in let t = c.in_ok-t.ensures traj holes p in
    (rw (t.0, t.1, c.in_ok-check_lengths.ensures traj holes a.asked.col_start a.asked.col_end a.asked.row_start a.asked.row_end p u refl refl refl (also a.lengths s a.traj_y.now a.traj_x.now k), c.in_ok-check_contents.ensures q s (sym t.2)), t.2)
