-- The laws of projection. Assumes nothing.
use Rattle.std.proofs.Common.{◌≡◌, List, [], ◌∷◌, ℕ, zero, suc, ◌+◌, ◌≤◌, ◌<◌, div-le_self, add-zero, zero-add, arith, get_or, ℤ, pos, negsuc, nat_abs}
use Rattle.intops.specs.Bounds.{Within}
use Rattle.intops.specs.Choice.{clip_z}
use Rattle.intops.proofs.Signed.{mul_within, clip_abs}
use Rattle.mv.specs.Projection.{reciprocal, projection_factor}

-- the reciprocals of n numbers from d on
abbrev pub reciprocals_from : ℕ → ℕ → List ℕ
reciprocals_from zero d = []
reciprocals_from (suc n) d = reciprocal d ∷ reciprocals_from n (suc d)

-- the whole table: the reciprocals of 0 to 31
unfoldable pub reciprocals : List ℕ
reciprocals = reciprocals_from 32 0

pub reciprocal_le : (d : ℕ) → reciprocal d ≤ 16384
unfolding reciprocal
reciprocal_le d = div-le_self 16384 d

at_go : (n d k : ℕ) → k < n → get_or (reciprocals_from n d) k 0 ≡ reciprocal (d + k)
at_go zero d k h = absurd (omega arith)
at_go (suc n) d zero h = rw add-zero
at_go (suc n) d (suc k) h = let e : d + suc k ≡ suc d + k = omega arith in rw e (at_go n (suc d) k (omega arith))

-- entry d of the table
pub reciprocals_at : (d : ℕ) → d < 32 → get_or reciprocals d 0 ≡ reciprocal d
unfolding reciprocals
reciprocals_at d h = rw zero-add at (at_go 32 0 d h)

-- no factor of a projection is out of range
pub factor_within : (num den : ℤ) → Within 507904 (projection_factor num den)
unfolding projection_factor
factor_within num den =
    let d = nat_abs (clip_z (pos 1) (pos 31) den) in
    record { within = mul_within (clip_z (negsuc 30) (pos 31) num) (pos (reciprocal d)) {m = 31} {n = 16384} (clip_abs 30 num) (reciprocal_le d) }
