-- The passes over trajectories write trajectories that test 12 lets through, if those that they read are such. Assumes nothing.
use Rattle.std.proofs.Common.{◌≡◌, refl, sym, ◌∙◌, Bool, true, false, cond, ◌&&◌, ◌||◌, ℕ, ◌+◌, ◌*◌, ◌/◌, ◌≤◌, mul-le-mul_right, mul_assoc, mul_comm, div-mul-le_self, arith, leb-true, le-leb, leb, ℤ, pos, neg_ℤ, nat_abs, ◌+ℤ◌, ◌*ℤ◌}
use Rattle.intops.specs.Bounds.{Within}
use Rattle.intops.specs.Choice.{clip_z, eq_z}
use Rattle.intops.specs.Rounding.{round_div}
use Rattle.intops.proofs.Signed.{signed, ud, ud_neg, abs_sign, abs_mul, clip_within, within_add}
use Rattle.intops.proofs.Tests.{and_both, both_and}
use Rattle.levels.specs.declared.Mv.{Mv}
use Rattle.levels.specs.Vector.{empty}
use Rattle.mv.specs.declared.Sum.{Sum}
use Rattle.mv.specs.Averages.{gap_mean}
use Rattle.mv.specs.Sums.{is_empty, no_sum, added, gap_of}
use Rattle.store.proofs.Keeps.{Keeps}
use Rattle.tile.specs.Geometry.{Geometry}
use Rattle.traj.specs.Traj.{clipped, sum_of, traj_in_range, empty_traj, empty_map, empty_trajs, enter_end, extend, follow, first_half, second_half, check_traj_intersect, put_gaps_traj, gap_traj, fill_gap_traj}

abbrev pub InRange : Mv → Type 0
InRange v = traj_in_range v ≡ true

pub empty_in : InRange empty
unfolding traj_in_range
empty_in = refl

or_right : (a b : Bool) → b ≡ true → (a || b) ≡ true
or_right true b h = refl
or_right false b h = h

-- within ±65,535
pub small_in : (v : Mv) → nat_abs v.y ≤ 65535 → nat_abs v.x ≤ 65535 → InRange v
unfolding traj_in_range
small_in v p q = or_right (is_empty v && eq_z v.x (pos 0)) _ (both_and (leb (nat_abs v.y) 65535) (leb (nat_abs v.x) 65535) (le-leb _ _ p) (le-leb _ _ q))

-- a trajectory in range that is not empty is small
in_small : (v : Mv) → InRange v → is_empty v ≡ false → (nat_abs v.y ≤ 65535) × (nat_abs v.x ≤ 65535)
unfolding traj_in_range
in_small v h e =
    let b = and_both (leb (nat_abs v.y) 65535) (leb (nat_abs v.x) 65535) (rw e at h) in
    (leb-true _ _ b.0, leb-true _ _ b.1)

clip_low : (m : ℕ) (z : ℤ) → nat_abs (clip_z (neg_ℤ (pos m)) (pos m) z) ≤ m
clip_low m z =
    let c : ℤ = clip_z (neg_ℤ (pos m)) (pos m) z in
    let b = clip_within (neg_ℤ (pos m)) (pos m) z (omega (signed, ud (pos m), ud_neg (pos m))) in
    omega (signed, ud c, ud (pos m), ud_neg (pos m), b.0, b.1)

pub clipped_in : (m : ℕ) (v : Mv) → m ≤ 65535 → InRange (clipped m v)
clipped_in m v h = small_in (clipped m v) (omega (arith, clip_low m v.y)) (omega (arith, clip_low m v.x))

-- a sum of n small cells, whatever n is
pub record SmallSum (s : Sum) : Type 0 where
  pub y : Within (s.n * 65535) s.y
  pub x : Within (s.n * 65535) s.x

none_small : SmallSum no_sum
none_small = record { y = record { within = omega arith }; x = record { within = omega arith } }

more : (n : ℕ) (a b : ℤ) → Within (n * 65535) a → nat_abs b ≤ 65535 → Within ((n + 1) * 65535) (a +ℤ b)
more n a b h l =
    let k : Within (n * 65535 + 65535) (a +ℤ b) = within_add h (record { within = l }) in
    record { within = omega (arith, k.within) }

added_small : (v : Mv) (s : Sum) → InRange v → SmallSum s → SmallSum (added v s)
added_small v s h k = go (is_empty v) refl
  where
    go : (b : Bool) → is_empty v ≡ b → SmallSum (cond b s (record { y = s.y +ℤ v.y; x = s.x +ℤ v.x; n = s.n + 1 }))
    go true e = k
    go false e =
        let l = in_small v h e in
        record { y = more s.n s.y v.y k.y l.0; x = more s.n s.x v.x k.x l.1 }

-- the mean of n small numbers is small
mean_small : (n : ℕ) (z : ℤ) → Within (n * 65535) z → nat_abs (gap_mean n z) ≤ 65535
unfolding gap_mean round_div
mean_small n z h =
    let p : ℤ = z *ℤ pos (256 / n) in
    let a : nat_abs p ≤ n * 65535 * (256 / n) = rw (abs_mul z (pos (256 / n))) (mul-le-mul_right (256 / n) h.within) in
    let r : n * 65535 * (256 / n) ≡ 256 / n * n * 65535 = mul_comm (n * 65535) (256 / n) ∙ sym (mul_assoc (256 / n) n 65535) in
    let m : 256 / n * n * 65535 ≤ 256 * 65535 = mul-le-mul_right 65535 (div-mul-le_self 256 n) in
    rw (abs_sign p ((nat_abs p + 128) / 256)) (omega arith)

pub gap_in : (s : Sum) → SmallSum s → InRange (gap_of s)
gap_in s k = small_in (gap_of s) (mean_small s.n s.y k.y) (mean_small s.n s.x k.x)

module _ (t : Geometry) where
  pub keeps_empty_trajs : Keeps InRange (empty_trajs t)
  unfolding empty_trajs empty_traj empty_map
  keeps_empty_trajs n = (λ y x. empty_in, λ j y x. tt)

  pub keeps_enter_end : (n y₁ x₁ y x : ℕ) (v : Mv) → Keeps InRange (enter_end t n y₁ x₁ y x v)
  unfolding enter_end
  keeps_enter_end n y₁ x₁ y x v = (λ e. tt, λ e. tt)

  keeps_extend : (bound a b y₁ x₁ : ℕ) (mv : Mv) → bound ≤ 65535 → Keeps InRange (extend t bound a b y₁ x₁ mv)
  unfolding extend
  keeps_extend bound a b y₁ x₁ mv l u p = (λ e v q. (clipped_in bound (sum_of v mv) l, keeps_enter_end b y₁ x₁ y₁ x₁ _), λ e. tt)

  keeps_follow : (bound a b y x y₀ x₀ : ℕ) (mv : Mv) (j : ℕ) → bound ≤ 65535 → Keeps InRange (follow t bound a b y x y₀ x₀ mv j)
  unfolding follow
  keeps_follow bound a b y x y₀ x₀ mv j l = (λ e m. (λ g. keeps_extend bound a b _ _ mv l, λ g. tt), λ e. tt)

  pub keeps_check_traj_intersect : (a b y x : ℕ) (mv : Mv) → Keeps InRange (check_traj_intersect t a b y x mv)
  unfolding check_traj_intersect first_half second_half
  keeps_check_traj_intersect a b y x mv =
      (λ j. keeps_follow _ a b y x y x mv j (omega arith), (λ e j. keeps_follow _ b a _ _ y x _ j (omega arith), λ e. tt))

  keeps_put_gaps_traj : (n y x : ℕ) (v a b c : Mv) → InRange v → InRange a → InRange b → InRange c → Keeps InRange (put_gaps_traj t n y x v a b c)
  unfolding put_gaps_traj
  keeps_put_gaps_traj n y x v a b c p q r s =
      let one : SmallSum (added v no_sum) = added_small v no_sum p none_small in
      let two : SmallSum (added a (added v no_sum)) = added_small a (added v no_sum) q one in (
        gap_in _ two,
        (
          gap_in _ (added_small b (added v no_sum) r one),
          gap_in _ (added_small c (added b (added a (added v no_sum))) s (added_small b (added a (added v no_sum)) r two)),
        ),
      )

  pub keeps_fill_gap_traj : (n : ℕ) → Keeps InRange (fill_gap_traj t n)
  unfolding fill_gap_traj gap_traj
  keeps_fill_gap_traj n sx y x v p = search (keeps_put_gaps_traj, empty_in) depth 40
