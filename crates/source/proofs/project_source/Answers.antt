-- `source::project_source` meets its contract. Assumes nothing.
use Rattle.std.proofs.Common.{◌≡◌, sym, ap, ◌∙◌, true, false, ℕ, ◌-◌, ◌≤◌, arith, negsuc, length, drop, length-drop, w8, SFits, rules, List, ◌+◌, ◌*◌, ◌<◌, ℤ, take}
use Rattle.intops.proofs.Signed.{signed!, eq_yes, eq_no}
use Rattle.intops.specs.Choice.{eq_z}
use Rattle.loops.proofs.Same.{turn_below}
use Rattle.tile.specs.Geometry.{Geometry}
use Rattle.tile.specs.Sound.{Sound}
use Rattle.tile.specs.Tiles.{geometry}
use Rattle.tile.proofs.Places.{step_some}
use Rattle.project.specs.Project.{saved_at, sample}
use Rattle.project.specs.Tested.{block_fine, row_fine}
use Rattle.project.proofs.Owned.{block_fine_lem}
use Rattle.project.proofs.Tested.{slots_low}
use Rattle.saved.proofs.Parts.{rest, rows_in, block_same}
use Rattle.source.proofs.Rounds.{parts, IsDone, rest_turn, rest_ends, counted_turn, counted_ends, readable, same_numbers, no_plane, too_far, source_on}
use Rattle.source.proofs.project_source.Goals.{Else-s, After-loop-i}
use Rattle.source.proofs.project_source.Goals as goal

-- the part of the planes from place i on, where the rows of slot n begin
begins : (t : Geometry) (m n i : ℕ) → i ≡ saved_at t m t.top 0 → m ≡ n → i ≡ saved_at t n t.top 0
begins t m n i e f = e ∙ ap (λ (j : ℕ). saved_at t j t.top 0) f

part_is : (t : Geometry) (m n i : ℕ) (l : List ℤ) → i ≡ saved_at t m t.top 0 → m ≡ n → drop (saved_at t n t.top 0) l ≡ take (length l - i) (drop i l)
part_is t m n i l e f = ap (λ (j : ℕ). drop j l) (sym (begins t m n i e f)) ∙ sym (rest i l)

long : (t : Geometry) → Sound t → (m n i : ℕ) (l : List ℤ) → i ≡ saved_at t m t.top 0 → m ≡ n → n < 7 → 6 * (7 * (t.high * t.stride)) ≤ length l
    → (i ≤ length l) × (6 * ((t.bottom - t.top) * t.stride) ≤ length (take (length l - i) (drop i l)))
long t k m n i l e f p h =
    let b = begins t m n i e f in let r = rows_in t k n p in
    (omega (arith, b, r, h), omega (arith, b, r, h, ap length (rest i l), length-drop i l))

low_fits : SFits w8 (negsuc 31)
low_fits = omega signed!

near : (c : Else-s) → eq_z c.args.s.now.ref2cur (negsuc 31) ≡ false
near c = let f : SFits w8 c.args.s.now.ref2cur = search rules in eq_no {w = w8} {b = negsuc 31} f low_fits c.if-s.false

pub returns-then-not-present-clause-stored : goal.returns-then-not-present-clause-stored
returns-then-not-present-clause-stored c = λ held h.
    let a = c.args in no_plane (geometry a.t.now) a.traj held a.planes.now a.s.now _ (h ∙ c.if-not-present.true)

pub returns-then-s-clause-stored : goal.returns-then-s-clause-stored
returns-then-s-clause-stored c = λ held h.
    let a = c.args in let f : SFits w8 a.s.now.ref2cur = search rules in
    too_far (geometry a.t.now) a.traj held a.planes.now a.s.now _ (eq_yes {w = w8} {b = negsuc 31} f low_fits c.if-s.true)

pub rows_at-at-requires : goal.rows_at-at-requires
rows_at-at-requires c = rw c.index-n.ensures (slots_low c.args.s.now c.requires.source).reference

pub slice_bounds-part-start : goal.slice_bounds-part-start
slice_bounds-part-start c =
    let a = c.args in
    omega (arith, (long (geometry a.t.now) a.t.now.sound _ a.s.now.reference.0 _ a.planes.now c.rows_at-at.ensures c.index-n.ensures (slots_low a.s.now c.requires.source).reference c.requires.long).0)

pub slice_bounds-part-count : goal.slice_bounds-part-count
slice_bounds-part-count c =
    let a = c.args in
    omega (arith, (long (geometry a.t.now) a.t.now.sound _ a.s.now.reference.0 _ a.planes.now c.rows_at-at.ensures c.index-n.ensures (slots_low a.s.now c.requires.source).reference c.requires.long).0)

pub sample-requires-clause-source : goal.sample-requires-clause-source
sample-requires-clause-source c = readable c.args.s.now c.requires.source

pub sample-requires-clause-long : goal.sample-requires-clause-long
sample-requires-clause-long c =
    let a = c.args in
    (long (geometry a.t.now) a.t.now.sound _ a.s.now.reference.0 _ a.planes.now c.rows_at-at.ensures c.index-n.ensures (slots_low a.s.now c.requires.source).reference c.requires.long).1

pub sample-requires-clause-fine : goal.sample-requires-clause-fine
sample-requires-clause-fine c =
    let a = c.args in let t = geometry a.t.now in let s = a.s.now in let l = a.planes.now in
    let f : row_fine t l s ≡ true = c.requires.fine (rw (near (goal.at.sample-requires-clause-fine c).Else-s, c.if-not-present.false)) in
    let u = c.loop-y.invariant in
    let x : ℕ = c.saturating_sub-from.result + c.loop-i.i * t.step in
    let w = turn_below t.step c.saturating_sub-from.result c.min-end.result c.loop-i.i (step_some t a.t.now.sound) (omega (arith, c.loop-i-test.true, c.count-count.ensures)) in
    block_same t l _ s.reference.0 c.loop-y.y x u.from (part_is t _ s.reference.0 _ l c.rows_at-at.ensures c.index-n.ensures) block_fine s.dir
    ∙ block_fine_lem t a.t.now.sound s (slots_low s c.requires.source) l f c.loop-y.y x u.from c.loop-y-test.true u.on (omega (arith, w, c.min-end.ensures)) c.loop-i.invariant.on

pub loop-i-preserved : goal.loop-i-preserved
loop-i-preserved c =
    let a = c.args in let t = geometry a.t.now in let e = c.sample.ensures in
    counted_turn t _ _ _ a.t.now.sound c.loop-i.i (parts c.loop-i.field c.loop-i.trajectories c.loop-i.maps) (parts c.loop-y.field c.loop-y.trajectories c.loop-y.maps) c.loop-i.invariant
    (parts c.sample.new.field c.sample.new.trajectories c.sample.new.maps) (omega (arith, c.loop-i-test.true, c.count-count.ensures)) (record { field = e.same_field; trajectories = e.same_trajectories; maps = e.same_maps })
    (e.stored a.planes.now a.s.now (part_is t _ a.s.now.reference.0 _ a.planes.now c.rows_at-at.ensures c.index-n.ensures) (same_numbers a.s.now))

-- what the row's loop has done
row_done : (c : After-loop-i) → let t = geometry c.args.t.now in
    IsDone t (λ x. sample t c.args.traj c.args.planes.now c.args.s.now c.loop-y.y x) c.saturating_sub-from.result c.min-end.result (parts c.loop-i.field c.loop-i.trajectories c.loop-i.maps)
    (parts c.loop-y.field c.loop-y.trajectories c.loop-y.maps)
row_done c =
    let t = geometry c.args.t.now in
    counted_ends t _ _ _ c.args.t.now.sound c.loop-i.i (parts c.loop-i.field c.loop-i.trajectories c.loop-i.maps) (parts c.loop-y.field c.loop-y.trajectories c.loop-y.maps) c.loop-i.invariant
    (omega (arith, c.loop-i-test.false, c.count-count.ensures))

pub loop-y-preserved : goal.loop-y-preserved
loop-y-preserved c =
    let a = c.args in let d = row_done (goal.at.loop-y-preserved c).After-loop-i in
    rest_turn (geometry a.t.now) _ _ _ a.t.now.sound c.loop-y.y (parts c.loop-y.field c.loop-y.trajectories c.loop-y.maps) (parts a.field.now a.trajectories.now a.maps.now) c.loop-y.invariant
    (parts c.loop-i.field c.loop-i.trajectories c.loop-i.maps) (omega arith) d.same d.stored

pub returns-else-s-clause-stored : goal.returns-else-s-clause-stored
returns-else-s-clause-stored c = λ held h.
    let a = c.args in let t = geometry a.t.now in let s = a.s.now in
    source_on t a.traj held a.planes.now s _ (near (goal.at.returns-else-s-clause-stored c).Else-s) (h ∙ c.if-not-present.false) _ _ c.saturating_sub-from.ensures c.min-end.ensures _
    (rest_ends t _ _ _ a.t.now.sound c.loop-y.y (parts c.loop-y.field c.loop-y.trajectories c.loop-y.maps) (parts a.field.now a.trajectories.now a.maps.now) c.loop-y.invariant (omega arith)).stored

-- after the last row by the other way
pub returns-else-s-2-clause-stored : goal.returns-else-s-2-clause-stored
returns-else-s-2-clause-stored c = λ held h.
    let a = c.args in let t = geometry a.t.now in let s = a.s.now in let k = a.t.now.sound in
    let d = row_done (goal.at.returns-else-s-2-clause-stored c).After-loop-i in
    let next = parts c.loop-i.field c.loop-i.trajectories c.loop-i.maps in let was = parts a.field.now a.trajectories.now a.maps.now in
    let r = rest_turn t _ _ _ k c.loop-y.y (parts c.loop-y.field c.loop-y.trajectories c.loop-y.maps) was c.loop-y.invariant next c.loop-y-test.true d.same d.stored in
    let e = rest_ends t _ _ _ k (c.loop-y.y + t.step) next was r (omega arith) in
    source_on t a.traj held a.planes.now s _ (near (goal.at.returns-else-s-2-clause-stored c).Else-s) (h ∙ c.if-not-present.false) _ _ c.saturating_sub-from.ensures c.min-end.ensures _ e.stored
