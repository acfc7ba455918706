-- `intersect::enter_place` meets its contract. Assumes nothing.
use Rattle.std.proofs.Common.{◌≡◌, ◌+◌, ◌-◌, ◌*◌, ◌/◌, ◌<◌, arith, pos, ◌-ℤ◌, w8, SFits, rules}
use Rattle.intops.proofs.Signed.{back}
use Rattle.store.specs.Store.{vec}
use Rattle.tile.specs.Layout.{row_cells, map_at}
use Rattle.tile.specs.Tiles.{geometry}
use Rattle.tile.proofs.Places.{map_low}
use Rattle.intersect.proofs.Ways.{place_on}
use Rattle.intersect.proofs.enter_place.Goals.{After-map_at-at}
use Rattle.intersect.proofs.enter_place.Goals as goal

at_is : (c : After-map_at-at) → let a = c.args in c.map_at-at.result ≡ map_at (geometry a.t.now) (a.first.x / a.t.now.block + 1 - a.end.x / a.t.now.block) a.n a.end.y a.end.x
at_is c = rw (← c.in_blocks-2.ensures, ← c.in_blocks.ensures) c.map_at-at.ensures

pub put_packed-requires : goal.put_packed-requires
put_packed-requires c =
    let a = c.args in let t = geometry a.t.now in let k = a.t.now.sound in
    let l : c.map_at-at.result < 21 * row_cells t =
    rw (at_is (goal.at.put_packed-requires c).After-map_at-at)
    (map_low t k (a.first.x / t.block + 1 - a.end.x / t.block) a.n a.end.y a.end.x (omega (arith, c.requires.columns.before)) c.requires.slot (omega (arith, c.requires.inside, k.wide))) in
    record { y = omega (arith, l, c.requires.held.y); x = omega (arith, l, c.requires.held.x) }

pub returns-clause-stored : goal.returns-clause-stored
returns-clause-stored c =
    let a = c.args in
    let f : SFits w8 c.way_back.result = search rules in let g : SFits w8 c.way_back-2.result = search rules in
    let e : vec c.way_back.result c.way_back-2.result ≡ vec (pos a.first.y -ℤ pos a.end.y) (pos a.first.x -ℤ pos a.end.x) = rw (c.way_back.ensures, c.way_back-2.ensures) in
    place_on (geometry a.t.now) a.t.now.sound a.n a.first.y a.first.x a.end.y a.end.x a.maps.now c.put_packed.new.self c.requires.slot c.requires.first.block
    (record { right = c.requires.columns.after; left = c.requires.columns.before }) c.requires.inside c.map_at-at.result (vec c.way_back.result c.way_back-2.result) (at_is (goal.at.returns-clause-stored c).After-map_at-at) e
    (λ s. simp back at (c.put_packed.ensures.stored s))
