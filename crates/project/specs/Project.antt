-- Projection of the saved blocks (01 "Saved block"; the loop over the sources in load_tmvs). Assumes nothing.
use Rattle.std.specs.Prelude.{Bool, false, not, cond, ◌&&◌, ◌||◌, List, ℕ, ◌+◌, ◌-◌, ◌*◌, ◌/◌, min, eqb, leb, ltb, ℤ, pos, negsuc, neg_ℤ, nat_abs, ◌-ℤ◌, get_or}
use Rattle.std.specs.Bool.{beq}
use Rattle.std.specs.Int.Signed.{lt_z}
use Rattle.intops.specs.Choice.{eq_z}
use Rattle.levels.specs.declared.Mv.{Mv}
use Rattle.levels.specs.declared.QMv.{QMv}
use Rattle.mv.specs.Sums.{is_empty}
use Rattle.mv.specs.Packing.{unpacked}
use Rattle.mv.specs.Projection.{scale_mv}
use Rattle.entry.specs.declared.Source.{Source}
use Rattle.store.specs.Store.{field_mvs, field_refs, trajs, maps, vec}
use Rattle.store.specs.Program.{Prog, write, cell, when, each_by, ◌>>=◌, ◌>>◌}
use Rattle.tile.specs.Geometry.{Geometry}
use Rattle.tile.specs.Layout.{field_at, traj_at, map_at, on_step, block_start, same_rows, cells_of, there, moved}
use Rattle.field.specs.Field.{put}
use Rattle.traj.specs.Traj.{clipped, turned, enter_end, check_traj_intersect}

-- ---- a saved block: "Six bytes: y, x of vector 0, y, x of vector 1, reference 0, reference 1, all signed"

-- "One lent buffer holds seven planes, H × stride blocks each": where the block of a slot's plane at (y, x) begins
unfoldable pub saved_at : Geometry → ℕ → ℕ → ℕ → ℕ
saved_at t slot y x = 6 * ((slot * t.high + y) * t.stride + x)

-- its reference and its vector in a direction
abbrev pub saved_ref : List ℤ → ℕ → ℕ → ℤ
saved_ref planes i dir = get_or planes (i + 4 + dir) (pos 0)

abbrev pub saved_mv : List ℤ → ℕ → ℕ → QMv
saved_mv planes i dir = record { y = get_or planes (i + 2 * dir) (pos 0); x = get_or planes (i + 2 * dir + 1) (pos 0) }

-- ---- what a source says of the saved block's reference b

abbrev pub ref2ref : Source → ℕ → ℤ
ref2ref s b = get_or s.ref2ref b (pos 0)

abbrev pub ref2idx : Source → ℕ → ℤ
ref2idx s b = get_or s.ref2idx b (pos 0)

-- the vector as a trajectory of the source's own slot, and of the slot that the reference is (mv1, mv2)
unfoldable pub to_source : Source → ℕ → Mv → Mv
to_source s b v = (scale_mv v (neg_ℤ (get_or s.ref2sf0 b (pos 0)))).vector

unfoldable pub to_reference : Source → ℕ → Mv → Mv
to_reference s b v = (scale_mv v (get_or s.ref2sf1 b (pos 0))).vector

-- ref2ref is not 0 (0: the source's own hint, or more than 31 away), and its sign fits the direction: 0 for earlier references, 1 for later
unfoldable pub right_side : Source → ℕ → Bool
right_side s b = not (eq_z (ref2ref s b) (pos 0)) && beq (lt_z (ref2ref s b) (pos 0)) (not (eqb s.dir 0))

-- a field cell takes the vector where it is empty, or where the source's target is the slot that the reference is and another distance stands there
unfoldable pub takes : Source → ℕ → Mv → Mv → Bool
takes s b old old_ref =
    is_empty old
    || (not (eq_z s.tgt (negsuc 0)) && eq_z (ref2idx s b) s.tgt && not (eqb (nat_abs old_ref.y) (nat_abs (ref2ref s b))))

module _ (t : Geometry) where
  -- column x₁ lies in the window of column x's block, not cut at the frame
  unfoldable pub near_source : ℕ → ℕ → Bool
  near_source x x₁ = leb (block_start t x - t.edge) x₁ && ltb x₁ (block_start t x + t.block + t.edge)

  -- (y, x) moved back by w lies in the frame's rows and the tile's columns; y lies in the rows of that place's block, and the place near x
  unfoldable pub lands : ℕ → ℕ → Mv → Bool
  lands y x w =
      let dy = neg_ℤ (cells_of w.y) in
      let dx = neg_ℤ (cells_of w.x) in
      there y dy && ltb (moved y dy) t.high
      && there x dx && leb t.left (moved x dx) && ltb (moved x dx) t.right
      && same_rows t (on_step t (moved y dy)) y && near_source x (on_step t (moved x dx))

  -- the trajectory of the source's slot at (y₁, x₁), with the saved block's place entered in the map; and that of the slot that the reference is, with its end
  unfoldable pub put_trajs : Source → ℕ → Mv → ℕ → ℕ → ℕ → ℕ → Prog
  put_trajs s b v y x y₁ x₁ =
      let n = s.reference.0 in
      let idx = ref2idx s b in do
        write trajs (traj_at t n y₁ x₁) (clipped 2047 (to_source s b v))
        write maps (map_at t (x₁ / t.block + 1 - x / t.block) n y x) (vec (pos y₁ -ℤ pos y) (pos x₁ -ℤ pos x))
        when (not (lt_z idx (pos 0))) do
          write trajs (traj_at t (nat_abs idx) y₁ x₁) (clipped 2047 (to_reference s b v))
          enter_end t (nat_abs idx) y₁ x₁ y x v

  -- the vector goes to (y₁, x₁) where the cell takes it, turned round where the reference is later than the source
  unfoldable pub put_mv : Bool → Source → ℕ → Mv → ℕ → ℕ → ℕ → ℕ → Prog
  put_mv traj s b v y x y₁ x₁ = do
    old ← cell field_mvs (field_at t y₁ x₁)
    old_ref ← cell field_refs (field_at t y₁ x₁)
    when (takes s b old old_ref) do
      when traj (put_trajs s b v y x y₁ x₁)
      put (field_at t y₁ x₁) (cond (lt_z (ref2ref s b) (pos 0)) (turned v) v) (nat_abs (ref2ref s b))

  -- a saved vector v of (y, x) with reference b
  unfoldable pub project_mv : Bool → Source → ℕ → Mv → ℕ → ℕ → Prog
  project_mv traj s b v y x =
      let w = to_source s b v in
      when (right_side s b && lands y x w)
      (put_mv traj s b v y x (on_step t (moved y (neg_ℤ (cells_of w.y)))) (on_step t (moved x (neg_ℤ (cells_of w.x)))))

  -- a sampled block: "reference -1 is none"; one with the mark is passed over
  unfoldable pub sample : Bool → List ℤ → Source → ℕ → ℕ → Prog
  sample traj planes s y x =
      let i = saved_at t s.reference.0 y x in
      let r = saved_ref planes i s.dir in
      let b = nat_abs r in
      let v = (unpacked (saved_mv planes i s.dir)).vector in
      when (not (eq_z r (negsuc 0)) && not (is_empty v)) do
        when (traj && not (eq_z (ref2idx s b) (negsuc 0)))
            (check_traj_intersect t s.reference.0 (nat_abs (ref2idx s b)) y x v)
        project_mv traj s b v y x

  -- the tile's rows, and its columns with the edge on both sides, cut at the frame. "A source more than 31 from the frame has ref2cur -32 and is skipped"; so is one with no plane
  unfoldable pub project_source : Bool → List Bool → List ℤ → Source → Prog
  project_source traj present planes s =
      when (not (eq_z s.ref2cur (negsuc 31)) && get_or present s.reference.0 false)
      (each_by t.step t.top t.bottom (λ y.
      each_by t.step (t.left - t.edge) (min (t.right + t.edge) t.wide) (λ x. sample traj planes s y x)))
