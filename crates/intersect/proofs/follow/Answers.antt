-- `intersect::follow` meets its contract. Assumes nothing.
use Rattle.std.proofs.Common.{◌≡◌, sym, ap, ◌∙◌, true, not, ◌+◌, ◌*◌, ◌/◌, ◌<◌, arith}
use Rattle.levels.specs.declared.Mv.{Mv}
use Rattle.tile.specs.Layout.{row_cells, map_at, moved}
use Rattle.tile.specs.Owner.{own_block}
use Rattle.tile.specs.Tiles.{geometry}
use Rattle.tile.proofs.Places.{place_low, map_low, near_low}
use Rattle.traj.specs.Traj.{is_no_map, leads}
use Rattle.traj.proofs.Windows.{leads_near}
use Rattle.intersect.specs.declared.Place.{Place}
use Rattle.intersect.specs.Code.{map_in}
use Rattle.intersect.proofs.Ways.{some_by, none_by, not_false, leads_none, follow_none, follow_off, follow_on}
use Rattle.intersect.proofs.follow.Goals.{After-map_cell, After-map_in, After-own_block, Else-not-own_block, In-Some, In-Some-led_to}
use Rattle.intersect.proofs.follow.Goals as goal

own_is : (c : After-own_block) → let a = c.args in own_block (geometry a.t.now) (a.h.now.at.x / a.t.now.block + a.k) ≡ c.own_block.result
own_is c = rw (← c.requires.block) (sym c.own_block.ensures)

mine : (c : Else-not-own_block) → let a = c.args in own_block (geometry a.t.now) (a.h.now.at.x / a.t.now.block + a.k) ≡ true
mine c = own_is c.before ∙ c.if-not-own_block.false

at_is : (c : After-map_in) → let a = c.args in c.map_in.result ≡ map_at (geometry a.t.now) a.k a.h.now.a a.h.now.at.y a.h.now.at.x
unfolding map_at
at_is c = rw (← c.requires.row) c.map_in.ensures

-- the map cell is the one that is lent
cell_is : (c : In-Some) → (not (is_no_map (map_in c.args.maps.now c.map_in.result)) ≡ true) × (map_in c.args.maps.now c.map_in.result ≡ c.in-Some.m)
cell_is c = let v = map_in c.args.maps.now c.map_in.result in some_by (not (is_no_map v)) v c.in-Some.m (sym c.map_cell.ensures ∙ c.in-Some.is)

-- it leads to the place
led_is : (c : In-Some-led_to) → let h = c.args.h.now in let m = c.in-Some.m in
    (leads (geometry c.args.t.now) m c.args.k h.at.y h.at.x h.origin.y h.origin.x ≡ true) × (moved h.at.y m.y ≡ c.in-Some-led_to.first.y) × (moved h.at.x m.x ≡ c.in-Some-led_to.first.x)
led_is c =
    let h = c.args.h.now in let m = c.in-Some.m in let p : Place = record { y = moved h.at.y m.y; x = moved h.at.x m.x } in
    let e = some_by (leads (geometry c.args.t.now) m c.args.k h.at.y h.at.x h.origin.y h.origin.x) p c.in-Some-led_to.first (sym c.led_to.ensures ∙ c.in-Some-led_to.is) in
    (e.0, ap (λ (q : Place). q.y) e.1, ap (λ (q : Place). q.x) e.1)

pub returns-then-not-own_block-clause-stored : goal.returns-then-not-own_block-clause-stored
returns-then-not-own_block-clause-stored c =
    let a = c.args in let h = a.h.now in
    follow_none (geometry a.t.now) a.t.now.sound h.bound h.a h.b h.at.y h.at.x h.origin.y h.origin.x h.mv a.k a.trajectories.now a.maps.now
    (own_is (goal.at.returns-then-not-own_block-clause-stored c).After-own_block ∙ c.if-not-own_block.true)

pub map_in-requires-clause-place : goal.map_in-requires-clause-place
map_in-requires-clause-place c = let a = c.args in rw c.requires.row (place_low (geometry a.t.now) a.t.now.sound a.h.now.at.y a.h.now.at.x c.requires.half.x)

pub map_cell-requires : goal.map_cell-requires
map_cell-requires c =
    let a = c.args in let h = a.h.now in let t = geometry a.t.now in
    let l : c.map_in.result < 21 * row_cells t = rw (at_is (goal.at.map_cell-requires c).After-map_in) (map_low t a.t.now.sound a.k h.a h.at.y h.at.x c.requires.plane c.requires.half.a c.requires.half.x) in
    record { y = omega (arith, l, c.requires.maps.y); x = omega (arith, l, c.requires.maps.x) }

pub returns-in_default-clause-stored : goal.returns-in_default-clause-stored
returns-in_default-clause-stored c =
    let a = c.args in let h = a.h.now in let t = geometry a.t.now in let v = map_in a.maps.now c.map_in.result in
    follow_off t a.t.now.sound h.bound h.a h.b h.at.y h.at.x h.origin.y h.origin.x h.mv a.k a.trajectories.now a.maps.now c.requires.half.a c.requires.plane c.requires.half.x (mine (goal.at.returns-in_default-clause-stored c).Else-not-own_block)
    c.map_in.result (at_is (goal.at.returns-in_default-clause-stored c).After-map_in)
    (leads_none t v a.k h.at.y h.at.x h.origin.y h.origin.x (not_false (is_no_map v) (none_by (not (is_no_map v)) v (sym c.map_cell.ensures ∙ c.in_default.is))))

pub returns-in_default-led_to-clause-stored : goal.returns-in_default-led_to-clause-stored
returns-in_default-led_to-clause-stored c =
    let a = c.args in let h = a.h.now in let t = geometry a.t.now in let m = c.in-Some.m in
    follow_off t a.t.now.sound h.bound h.a h.b h.at.y h.at.x h.origin.y h.origin.x h.mv a.k a.trajectories.now a.maps.now c.requires.half.a c.requires.plane c.requires.half.x (mine (goal.at.returns-in_default-led_to-clause-stored c).Else-not-own_block)
    c.map_in.result (at_is (goal.at.returns-in_default-led_to-clause-stored c).After-map_in)
    (ap (λ (v : Mv). leads t v a.k h.at.y h.at.x h.origin.y h.origin.x) (cell_is (goal.at.returns-in_default-led_to-clause-stored c).In-Some).1
    ∙ none_by (leads t m a.k h.at.y h.at.x h.origin.y h.origin.x) (record { y = moved h.at.y m.y; x = moved h.at.x m.x }) (sym c.led_to.ensures ∙ c.in_default-led_to.is))

pub extend-requires-clause-first : goal.extend-requires-clause-first
extend-requires-clause-first c =
    let a = c.args in let h = a.h.now in let t = geometry a.t.now in let k = a.t.now.sound in let m = c.in-Some.m in
    let e = led_is (goal.at.extend-requires-clause-first c).In-Some-led_to in let w = leads_near t k m a.k h.at.y h.at.x h.origin.y h.origin.x e.0 in
    record { row = rw (← e.1) (omega (arith, (near_low t k (moved h.at.y m.y) h.at.y w.rows).0, c.requires.half.y)); block = rw (← e.2, w.block) (mine (goal.at.extend-requires-clause-first c).Else-not-own_block) }

pub returns-clause-stored : goal.returns-clause-stored
returns-clause-stored c =
    let a = c.args in let h = a.h.now in let t = geometry a.t.now in let p = cell_is (goal.at.returns-clause-stored c).In-Some in let e = led_is (goal.at.returns-clause-stored c).In-Some-led_to in
    follow_on t a.t.now.sound h.bound h.a h.b h.at.y h.at.x h.origin.y h.origin.x h.mv a.k a.trajectories.now a.maps.now c.requires.half.a c.requires.plane c.requires.half.x (mine (goal.at.returns-clause-stored c).Else-not-own_block)
    c.map_in.result (at_is (goal.at.returns-clause-stored c).After-map_in)
    (ap (λ (v : Mv). leads t v a.k h.at.y h.at.x h.origin.y h.origin.x) p.1 ∙ e.0) c.in-Some-led_to.first.y c.in-Some-led_to.first.x c.extend.new.trajectories c.extend.new.maps
    (ap (λ (v : Mv). moved h.at.y v.y) p.1 ∙ e.1) (ap (λ (v : Mv). moved h.at.x v.x) p.1 ∙ e.2) c.extend.ensures.stored
