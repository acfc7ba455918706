-- `frame::pick_sources` meets its contract. Assumes nothing.
use Rattle.std.proofs.Common.{◌≡◌, ◌∙◌, arith, rules, length, ◌≤◌}
use Rattle.std.proofs.lemmas.List.{length-take-le}
use Rattle.picks.specs.Picks.{Slots}
use Rattle.picks.proofs.Laws.{take_slots, rest_take}
use Rattle.rank.proofs.Laws.{sorted_small}
use Rattle.topo.proofs.Small.{ordered_room, ordered_small}
use Rattle.frame.proofs.Laws.{started_none, picked_is, lead_front}
use Rattle.frame.proofs.pick_sources.Goals.{After-sort_slots-order, After-topo_order-o}
use Rattle.frame.proofs.pick_sources.Goals as goal

-- the sorted slots are slots
ord : (c : After-sort_slots-order) → Slots c.sort_slots-order.result
ord c = let h = c.args.c.now.hints in rw c.sort_slots-order.ensures (sorted_small c.args.c.now.diff h.hints.pocs.n_refs h.few_slots)

-- so are those of the dependency order
entered : (c : After-topo_order-o) → Slots c.topo_order-o.result.list
entered c = let h = c.args.c.now.hints in rw c.topo_order-o.ensures (ordered_small c.links_of-links.result h.hints.pocs.n_refs h.few_slots)

-- and there are seven at most
room : (c : After-topo_order-o) → c.topo_order-o.result.count ≤ 7
room c = let h = c.args.c.now.hints in rw c.topo_order-o.ensures (omega (arith, ordered_room c.links_of-links.result h.hints.pocs.n_refs h.few_slots))

pub first_later-first-requires : goal.first_later-first-requires
first_later-first-requires c = let s = goal.at.first_later-first-requires c in take_slots _ _ (ord s.After-sort_slots-order)

pub tip_source-requires : goal.tip_source-requires
tip_source-requires c =
    let e : c.start-p.result.count ≡ 0 = rw c.start-p.ensures (started_none c.args.present.now c.args.c.now.hints.hints.pocs.n_refs) in
    omega arith

pub invariant_of-sorted : goal.invariant_of-sorted
invariant_of-sorted c =
    let h = c.args.c.now.hints in let n = h.hints.pocs.n_refs in let od = c.sort_slots-order.result in
    let l : length od ≡ 7 = search rules in
    let m = length-take-le n od (omega (arith, l, h.few_slots)) in
    let k : c.first_later-first.result ≤ 7 = omega (arith, m, h.few_slots, c.first_later-first.ensures.within) in
    record { few = k; slots = ord (goal.at.invariant_of-sorted c).After-sort_slots-order }

pub shared_ref_as_front-pick_rest : goal.shared_ref_as_front-pick_rest
shared_ref_as_front-pick_rest c = room (goal.at.shared_ref_as_front-pick_rest c).After-topo_order-o

pub pick_rest-requires : goal.pick_rest-requires
pick_rest-requires c = take_slots _ _ (entered (goal.at.pick_rest-requires c).After-topo_order-o)

pub returns : goal.returns
returns c =
    let k = c.args.c.now in let h = k.hints in let p = h.hints.pocs in
    let l : length c.sort_slots-order.result ≡ 7 = search rules in
    let f = c.first_later-first.ensures.value ∙ lead_front k.sign c.sort_slots-order.result p.n_refs (omega (arith, l, h.few_slots)) in
    let o = c.topo_order-o.result in
    let m : length o.list ≡ 7 = search rules in
    let r = c.pick_rest.ensures ∙ rest_take k.diff o.list o.count _ (omega (arith, m, room (goal.at.returns c).After-topo_order-o)) in
    picked_is p c.args.present.now c.args.tip c.args.pair.first c.args.pair.second k.sign k.diff c.sort_slots-order.result
    c.first_later-first.result c.links_of-links.result o _ _ _ _ _ k.signs k.diffs c.sort_slots-order.ensures
    f c.links_of-links.ensures c.topo_order-o.ensures c.start-p.ensures c.tip_source.ensures
    c.pick_neighbours.ensures c.pick_nearest.ensures r
