-- What tests 9 to 12 say of an accepted call. Assumes nothing.
use Rattle.std.proofs.Common.{◌≡◌, refl, sym, subst, Bool, true, false, not, cond, ◌&&◌, ◌||◌, true≢false, ℕ, ◌+◌, ◌*◌, ◌/◌, ◌%◌, ◌≤◌, ◌<◌, min, mul-le-mul, arith, leb-true, ltb-true, ltb-false, eqb-true, eqb, leb, ltb, get_or}
use Rattle.std.proofs.Math.Nat.{mul-mod_left}
use borrow.Author.Tests.{eqb-false}
use Rattle.intops.proofs.Tests.{and_both, not-false}
use Rattle.frame.specs.declared.Frame.{Frame}
use Rattle.frame.specs.Frame.{no_source, bad_size}
use Rattle.store.specs.Store.{Store}
use Rattle.tile.specs.Sound.{Sound}
use Rattle.load.specs.Load.{Call, side_of, block_of, edge_of, wide_of, high_of, stride_of, tile_of}
use Rattle.project.specs.Tested.{all_below, source_in_range}
use Rattle.project.proofs.Tested.{all_below_lem}
use Rattle.load.specs.Calls.{setup_in_range, tile_fits, long_enough, contents_fine, answer}

-- the four tests of a call that is accepted on s
pub record Passed (c : Call) (s : Store) : Type 0 where
  pub setup : setup_in_range c.setup ≡ true
  pub tile : tile_fits c ≡ true
  pub long : long_enough c s ≡ true
  pub contents : contents_fine c s ≡ true

pub passed : (c : Call) (s : Store) → answer c s ≡ 0 → Passed c s
unfolding answer
passed c s h = go (setup_in_range c.setup) (tile_fits c) (long_enough c s) (contents_fine c s) refl refl refl refl h
  where
    go : (p q r u : Bool) → setup_in_range c.setup ≡ p → tile_fits c ≡ q → long_enough c s ≡ r → contents_fine c s ≡ u
        → ◌≡◌ {A = ℕ} (cond p (cond q (cond r (cond u 0 12) 11) 10) 9) 0 → Passed c s
    go true true true true a b d e h = record { setup = a; tile = b; long = d; contents = e }
    go true true true false a b d e h = absurd (omega arith)
    go true true false u a b d e h = absurd (omega arith)
    go true false r u a b d e h = absurd (omega arith)
    go false q r u a b d e h = absurd (omega arith)

-- test 9, taken apart
pub record InRange (f : Frame) : Type 0 where
  pub slots : f.n_refs ≤ 7
  pub code : f.sb128 ≤ 2
  pub step_low : 1 ≤ f.tmvp_sample_step
  pub step_high : f.tmvp_sample_step ≤ 2
  pub width : f.width ≤ 65536
  pub height : f.height ≤ 65536
  pub few : f.sources.n_mfmvs ≤ 4
  pub sources : (n : ℕ) → n < f.sources.n_mfmvs → source_in_range (get_or f.sources.mfmv n no_source) ≡ true

size_low : (n : ℕ) → not (bad_size n) ≡ true → n ≤ 65536
unfolding bad_size
size_low n h = go (eqb n 0) (ltb 65536 n) refl (not-false (cond (eqb n 0) true (ltb 65536 n)) h)
  where
    go : (p q : Bool) → ltb 65536 n ≡ q → cond p true q ≡ false → n ≤ 65536
    go true q e h = absurd (true≢false h)
    go false true e h = absurd (true≢false h)
    go false false e h = ltb-false 65536 n e

pub in_range : (f : Frame) → setup_in_range f ≡ true → InRange f
unfolding setup_in_range
in_range f h =
    let t1 : Bool = leb f.n_refs 7 in
    let t2 : Bool = leb f.sb128 2 in
    let t3 : Bool = not (eqb f.tmvp_sample_step 0) in
    let t4 : Bool = leb f.tmvp_sample_step 2 in
    let t5 : Bool = not (bad_size f.width) in
    let t6 : Bool = not (bad_size f.height) in
    let t7 : Bool = leb f.sources.n_mfmvs 4 in
    let e8 = and_both (t1 && t2 && t3 && t4 && t5 && t6 && t7) (all_below f.sources.n_mfmvs (λ n. source_in_range (get_or f.sources.mfmv n no_source))) h in
    let e7 = and_both (t1 && t2 && t3 && t4 && t5 && t6) t7 e8.0 in
    let e6 = and_both (t1 && t2 && t3 && t4 && t5) t6 e7.0 in
    let e5 = and_both (t1 && t2 && t3 && t4) t5 e6.0 in
    let e4 = and_both (t1 && t2 && t3) t4 e5.0 in
    let e3 = and_both (t1 && t2) t3 e4.0 in
    let e2 = and_both t1 t2 e3.0 in
    let z : f.tmvp_sample_step ≡ 0 → ⊥ = eqb-false f.tmvp_sample_step 0 (not-false (eqb f.tmvp_sample_step 0) e3.1) in
    record {
      slots = leb-true f.n_refs 7 e2.0;
      code = leb-true f.sb128 2 e2.1;
      step_low = omega arith;
      step_high = leb-true f.tmvp_sample_step 2 e4.1;
      width = size_low f.width e5.1;
      height = size_low f.height e6.1;
      few = leb-true f.sources.n_mfmvs 4 e7.1;
      sources = all_below_lem f.sources.n_mfmvs (λ n. source_in_range (get_or f.sources.mfmv n no_source)) e8.1;
    }

-- test 10, taken apart
pub record Columns (c : Call) : Type 0 where
  pub some : c.col_start < c.col_end
  pub wide : c.col_end ≤ wide_of c.setup
  pub start : c.col_start % side_of c.setup ≡ 0
  pub top : c.row_start % side_of c.setup ≡ 0
  pub rows : c.row_start < min c.row_end (high_of c.setup)
  pub bottom : min c.row_end (high_of c.setup) ≤ c.row_start + side_of c.setup

-- the rows' end, cut at the frame's, S rows on at most
row_end : (a b H S : ℕ) → a < H → 0 < S → (eqb b (a + S) || (leb H b && leb b (a + S))) ≡ true → (a < min b H) × (min b H ≤ a + S)
row_end a b H S l z h = go (eqb b (a + S)) refl h
  where
    go : (p : Bool) → eqb b (a + S) ≡ p → (p || (leb H b && leb b (a + S))) ≡ true → (a < min b H) × (min b H ≤ a + S)
    go true e h = let q : b ≡ a + S = eqb-true b (a + S) e in (omega arith, omega arith)
    go false e h =
        let w = and_both (leb H b) (leb b (a + S)) h in
        let p : H ≤ b = leb-true H b w.0 in let q : b ≤ a + S = leb-true b (a + S) w.1 in
        (omega arith, omega arith)

pub side_low_lem : (f : Frame) → (8 ≤ side_of f) × (side_of f ≤ 32)
side_low_lem f = go (eqb f.sb128 0) (eqb f.sb128 1)
  where
    go : (p q : Bool) → (8 ≤ cond p 8 (cond q 16 32)) × (cond p 8 (cond q 16 32) ≤ 32)
    go true q = (omega arith, omega arith)
    go false true = (omega arith, omega arith)
    go false false = (omega arith, omega arith)

pub columns : (c : Call) → tile_fits c ≡ true → Columns c
unfolding tile_fits
columns c h =
    let S : ℕ = side_of c.setup in
    let W : ℕ = wide_of c.setup in
    let H : ℕ = high_of c.setup in
    let t1 : Bool = ltb c.col_start c.col_end in
    let t2 : Bool = leb c.col_end W in
    let t3 : Bool = eqb (c.col_start % S) 0 in
    let t4 : Bool = eqb (c.col_end % S) 0 || eqb c.col_end W in
    let t5 : Bool = eqb (c.row_start % S) 0 in
    let t6 : Bool = ltb c.row_start H in
    let e7 = and_both (t1 && t2 && t3 && t4 && t5 && t6) (eqb c.row_end (c.row_start + S) || (leb H c.row_end && leb c.row_end (c.row_start + S))) h in
    let e6 = and_both (t1 && t2 && t3 && t4 && t5) t6 e7.0 in
    let e5 = and_both (t1 && t2 && t3 && t4) t5 e6.0 in
    let e4 = and_both (t1 && t2 && t3) t4 e5.0 in
    let e3 = and_both (t1 && t2) t3 e4.0 in
    let e2 = and_both t1 t2 e3.0 in
    let r = row_end c.row_start c.row_end H S (ltb-true c.row_start H e6.1) (omega (arith, side_low_lem c.setup)) e7.1 in
    record {
      some = ltb-true c.col_start c.col_end e2.0;
      wide = leb-true c.col_end W e2.1;
      start = eqb-true (c.col_start % S) 0 e3.1;
      top = eqb-true (c.row_start % S) 0 e5.1;
      rows = r.0;
      bottom = r.1;
    }

-- S and B by the code and the step
pub sizes : (P : ℕ → ℕ → ℕ → Type 0) (f : Frame) → InRange f → P 8 8 1 → P 8 8 2 → P 16 8 1 → P 16 16 2 → P 32 8 1 → P 32 16 2
    → P (side_of f) (block_of f) f.tmvp_sample_step
sizes P f r a b c d e g = go (eqb f.sb128 0) (eqb f.sb128 1) (eqb f.tmvp_sample_step 2) refl
  where
    go : (p q s : Bool) → eqb f.tmvp_sample_step 2 ≡ s → P (cond p 8 (cond q 16 32)) (cond (not p && s) 16 8) f.tmvp_sample_step
    go true q true h = let k : f.tmvp_sample_step ≡ 2 = eqb-true f.tmvp_sample_step 2 h in rw k b
    go false true true h = let k : f.tmvp_sample_step ≡ 2 = eqb-true f.tmvp_sample_step 2 h in rw k d
    go false false true h = let k : f.tmvp_sample_step ≡ 2 = eqb-true f.tmvp_sample_step 2 h in rw k g
    go true q false h = let n : f.tmvp_sample_step ≡ 2 → ⊥ = eqb-false f.tmvp_sample_step 2 h in let k : f.tmvp_sample_step ≡ 1 = omega (arith, r.step_low, r.step_high) in rw k a
    go false true false h = let n : f.tmvp_sample_step ≡ 2 → ⊥ = eqb-false f.tmvp_sample_step 2 h in let k : f.tmvp_sample_step ≡ 1 = omega (arith, r.step_low, r.step_high) in rw k c
    go false false false h = let n : f.tmvp_sample_step ≡ 2 → ⊥ = eqb-false f.tmvp_sample_step 2 h in let k : f.tmvp_sample_step ≡ 1 = omega (arith, r.step_low, r.step_high) in rw k e

edge_low : (f : Frame) → edge_of f ≤ block_of f
edge_low f = go (eqb f.tmvp_sample_step 2) (block_of f)
  where
    go : (b : Bool) (B : ℕ) → cond b B (B / 2) ≤ B
    go true B = omega arith
    go false B = omega arith

-- with step 2 the edge is the block's side, with step 1 every number will do
edge_even : (f : Frame) → InRange f → edge_of f % f.tmvp_sample_step ≡ 0
edge_even f r = go (eqb f.tmvp_sample_step 2) refl
  where
    even : block_of f % 2 ≡ 0
    even = sizes (λ S B s. B % 2 ≡ 0) f r refl refl refl refl refl refl

    go : (b : Bool) → eqb f.tmvp_sample_step 2 ≡ b → cond b (block_of f) (block_of f / 2) % f.tmvp_sample_step ≡ 0
    go true h = let k : f.tmvp_sample_step ≡ 2 = eqb-true f.tmvp_sample_step 2 h in subst (λ (n : ℕ). block_of f % n ≡ 0) (sym k) even
    go false h =
        let n : f.tmvp_sample_step ≡ 2 → ⊥ = eqb-false f.tmvp_sample_step 2 h in
        let k : f.tmvp_sample_step ≡ 1 = omega (arith, r.step_low, r.step_high) in
        subst (λ (n : ℕ). block_of f / 2 % n ≡ 0) (sym k) (omega arith)

offset_low_lem : (whole : Bool) (a b : ℕ) → a ≤ 8192 → b ≤ 8192 → cond whole a 3 * b ≤ 67108864
offset_low_lem true a b h l = mul-le-mul h l
offset_low_lem false a b h l = omega arith

pub sound : (c : Call) → InRange c.setup → Columns c → Sound (tile_of c)
unfolding tile_of
sound c r k =
    let f : Frame = c.setup in
    record {
      side = omega (arith, side_low_lem f);
      side_kind = sizes (λ S B s. (eqb S 8 || (eqb S 16 || eqb S 32)) ≡ true) f r refl refl refl refl refl refl;
      block = sizes (λ S B s. (eqb B 8 || eqb B 16) ≡ true) f r refl refl refl refl refl refl;
      step = sizes (λ S B s. (eqb s 1 || eqb s 2) ≡ true) f r refl refl refl refl refl refl;
      few = sizes (λ S B s. B ≤ 8 * s) f r (omega arith) (omega arith) (omega arith) (omega arith) (omega arith) (omega arith);
      edge = edge_low f;
      edge_on_step = edge_even f r;
      start = sizes (λ S B s. c.col_start % S ≡ 0 → c.col_start % B ≡ 0) f r (λ h. h) (λ h. h) (λ h. omega arith) (λ h. h) (λ h. omega arith) (λ h. omega arith) k.start;
      some = k.some;
      right = k.wide;
      wide = omega arith;
      stride = omega arith;
      offset = mul-mod_left (cond c.whole_frame c.row_start 3) (stride_of f);
      top_on_side = k.top;
      top_on_block = sizes (λ S B s. c.row_start % S ≡ 0 → c.row_start % B ≡ 0) f r (λ h. h) (λ h. h) (λ h. omega arith) (λ h. h) (λ h. omega arith) (λ h. omega arith) k.top;
      side_on_block = sizes (λ S B s. S % B ≡ 0) f r refl refl refl refl refl refl;
      rows = k.rows;
      bottom = k.bottom;
      frame_end = omega arith;
      side_low = (side_low_lem f).1;
      block_low = sizes (λ S B s. B ≤ 16) f r (omega arith) (omega arith) (omega arith) (omega arith) (omega arith) (omega arith);
      step_low = sizes (λ S B s. s ≤ 2) f r (omega arith) (omega arith) (omega arith) (omega arith) (omega arith) (omega arith);
      stride_low = omega (arith, r.width);
      high_low = omega (arith, r.height);
      offset_low = offset_low_lem c.whole_frame c.row_start (stride_of f) (omega (arith, k.rows, r.height)) (omega (arith, r.width));
    }
