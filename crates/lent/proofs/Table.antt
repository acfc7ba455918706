-- 01's table holds: each line is computed. Assumes nothing.
use Rattle.std.proofs.Common.{refl}
use Rattle.intops.specs.Bits.{highest_bit, highest_from}
use Rattle.intops.specs.Rounding.{round_div}
use Rattle.mv.specs.Packing.{pack_code, unpack_mag, first_with}
use Rattle.mv.specs.Projection.{past_range, projection_factor, reciprocal, scaled_by}
use Rattle.mv.specs.Averages.{smoothed, gap_mean}
use Rattle.env.specs.Hints.{hint_diff}
use Rattle.lent.specs.Table.{Table}

pub table : Table
unfolding highest_bit highest_from round_div pack_code unpack_mag first_with past_range projection_factor reciprocal scaled_by smoothed gap_mean hint_diff
table = record {
  pack31 = refl;
  pack33 = refl;
  pack63 = refl;
  pack64 = refl;
  pack2047 = refl;
  pack2048 = refl;
  unpack33 = refl;
  unpack127 = refl;
  hints4 = refl;
  hints8 = refl;
  projected = refl;
  scaled = refl;
  smooth3 = refl;
  smooth_minus3 = refl;
  smooth7 = refl;
  gap_minus1 = refl;
  gap10 = refl;
  gap2 = refl;
}
