-- Projection and scaling of a vector (01 "Vector"; refusal 1). Assumes nothing.
use Rattle.std.specs.Prelude.{Bool, cond, ◌||◌, ℕ, ◌/◌, ltb, ℤ, pos, negsuc, nat_abs, ◌*ℤ◌}
use Rattle.std.specs.Int.Signed.{lt_z}
use Rattle.intops.specs.Choice.{clip_z}
use Rattle.intops.specs.Rounding.{round_div}
use Rattle.levels.specs.declared.Mv.{Mv}
use Rattle.levels.specs.Answer.{Said, answered, refused}

-- entry d of the reciprocal table DIV_MULT: the whole part of 16384 / d, which is 0 for d = 0
unfoldable pub reciprocal : ℕ → ℕ
reciprocal d = 16384 / d

-- num clipped to -31..31, times the reciprocal of den clipped to 1..31
unfoldable pub projection_factor : ℤ → ℤ → ℤ
projection_factor num den = clip_z (negsuc 30) (pos 31) num *ℤ pos (reciprocal (nat_abs (clip_z (pos 1) (pos 31) den)))

-- a component times the factor, divided by 16384, rounded to nearest, halves away from zero, then clipped to lo .. hi
unfoldable pub scaled_by : ℤ → ℤ → ℤ → ℤ → ℤ
scaled_by factor lo hi v = clip_z lo hi (round_div 16384 (v *ℤ factor))

-- both components
abbrev pub scaled_vector : ℤ → ℤ → ℤ → Mv → Mv
scaled_vector factor lo hi mv = record { y = scaled_by factor lo hi mv.y; x = scaled_by factor lo hi mv.x }

-- refusal 1: a component past ±65,535
unfoldable pub past_range : Mv → Bool
past_range mv = ltb 65535 (nat_abs mv.y) || ltb 65535 (nat_abs mv.x)

-- mv_projection: refusal 1 for a component or for crossed bounds; its factor is never past ±507,904 = 31 · 16384
abbrev pub mv_projection : Mv → ℤ → ℤ → ℤ → ℤ → Said
mv_projection mv num den lo hi = cond (past_range mv || lt_z hi lo) (refused 1) (answered (scaled_vector (projection_factor num den) lo hi mv))

-- scale_mv: refusal 1 for a component or for a factor past ±507,904; the bounds are ±65,535
abbrev pub scale_mv : Mv → ℤ → Said
scale_mv mv factor = cond (past_range mv || ltb 507904 (nat_abs factor)) (refused 1) (answered (scaled_vector factor (negsuc 65534) (pos 65535) mv))
