-- What test 11 says: the lists of an accepted call reach as far as the passes read and write. Assumes nothing.
use Rattle.std.proofs.Common.{◌≡◌, Bool, true, false, cond, ◌&&◌, ℕ, ◌+◌, ◌*◌, ◌/◌, ◌%◌, ◌≤◌, ◌<◌, add-mul, mul-le-mul_right, arith, leb-true, leb, length}
use Rattle.intops.proofs.Tests.{and_both}
use Rattle.frame.specs.declared.Frame.{Frame}
use Rattle.store.specs.Store.{Store}
use Rattle.tile.specs.Layout.{row_cells}
use Rattle.tile.specs.Sound.{FieldHeld, TrajHeld, MapHeld}
use Rattle.load.specs.Load.{Call, side_of, high_of, stride_of, tile_of}
use Rattle.load.specs.Calls.{field_cells, long_enough}
use Rattle.load.proofs.Accepted.{InRange, Columns, sizes}

-- test 11, taken apart
pub record Long (c : Call) (s : Store) : Type 0 where
  pub planes : 6 * (7 * (high_of c.setup * stride_of c.setup)) ≤ length c.planes
  pub field_y : field_cells c ≤ length s.field_y
  pub field_x : field_cells c ≤ length s.field_x
  pub field_ref : field_cells c ≤ length s.field_ref
  pub traj_y : 7 * row_cells (tile_of c) ≤ length s.traj_y
  pub traj_x : 7 * row_cells (tile_of c) ≤ length s.traj_x
  pub map_y : 21 * row_cells (tile_of c) ≤ length s.map_y
  pub map_x : 21 * row_cells (tile_of c) ≤ length s.map_x

pub long : (c : Call) (s : Store) → long_enough c s ≡ true → Long c s
unfolding long_enough
long c s h =
    let B : ℕ = 6 * (7 * (high_of c.setup * stride_of c.setup)) in
    let P : ℕ = row_cells (tile_of c) in
    let t1 : Bool = leb B (length c.planes) in
    let t2 : Bool = leb (field_cells c) (length s.field_y) in
    let t3 : Bool = leb (field_cells c) (length s.field_x) in
    let t4 : Bool = leb (field_cells c) (length s.field_ref) in
    let t5 : Bool = leb (7 * P) (length s.traj_y) in
    let t6 : Bool = leb (7 * P) (length s.traj_x) in
    let t7 : Bool = leb (21 * P) (length s.map_y) in
    let t8 : Bool = leb (21 * P) (length s.map_x) in
    let e8 = and_both (t1 && t2 && t3 && t4 && t5 && t6 && t7) t8 h in
    let e7 = and_both (t1 && t2 && t3 && t4 && t5 && t6) t7 e8.0 in
    let e6 = and_both (t1 && t2 && t3 && t4 && t5) t6 e7.0 in
    let e5 = and_both (t1 && t2 && t3 && t4) t5 e6.0 in
    let e4 = and_both (t1 && t2 && t3) t4 e5.0 in
    let e3 = and_both (t1 && t2) t3 e4.0 in
    let e2 = and_both t1 t2 e3.0 in
    record {
      planes = leb-true B (length c.planes) e2.0;
      field_y = leb-true (field_cells c) (length s.field_y) e2.1;
      field_x = leb-true (field_cells c) (length s.field_x) e3.1;
      field_ref = leb-true (field_cells c) (length s.field_ref) e4.1;
      traj_y = leb-true (7 * P) (length s.traj_y) e5.1;
      traj_x = leb-true (7 * P) (length s.traj_x) e6.1;
      map_y = leb-true (21 * P) (length s.map_y) e7.1;
      map_x = leb-true (21 * P) (length s.map_x) e8.1;
    }

-- the superblock row ends in the field, in both modes
row_end : (c : Call) → InRange c.setup → Columns c → (tile_of c).offset + row_cells (tile_of c) ≤ field_cells c
unfolding tile_of row_cells
row_end c r k = go c.whole_frame
  where
    f : Frame
    f = c.setup

    whole : c.row_start + side_of f ≤ (high_of f + 31) / 32 * 32
    whole =
        let h : c.row_start < high_of f = omega (arith, k.rows) in
        sizes (λ S B s. c.row_start % S ≡ 0 → c.row_start + S ≤ (high_of f + 31) / 32 * 32) f r (λ e. omega arith) (λ e. omega arith) (λ e. omega arith) (λ e. omega arith) (λ e. omega arith) (λ e. omega arith) k.top

    go : (w : Bool) → cond w c.row_start 3 * stride_of f + side_of f * stride_of f ≤ cond w ((high_of f + 31) / 32 * 32) (side_of f + 3) * stride_of f
    go true = omega (arith, mul-le-mul_right (stride_of f) whole, add-mul c.row_start (side_of f) (stride_of f))
    go false = omega (arith, add-mul (side_of f) 3 (stride_of f))

module _ (c : Call) (s : Store) (h : Long c s) where
  pub field_held : InRange c.setup → Columns c → FieldHeld (tile_of c) s.field_y s.field_x s.field_ref
  field_held r k =
      let e = row_end c r k in
      record { y = omega (arith, e, h.field_y); x = omega (arith, e, h.field_x); ref = omega (arith, e, h.field_ref) }

  pub traj_held : TrajHeld (tile_of c) s.traj_y s.traj_x
  traj_held = record { y = h.traj_y; x = h.traj_x }

  pub map_held : MapHeld (tile_of c) s.map_y s.map_x
  map_held = record { y = h.map_y; x = h.map_x }
