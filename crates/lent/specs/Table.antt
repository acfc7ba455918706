-- 01 "Table to be proved": one table, one statement, proved in proofs/Table.antt. Assumes nothing.
use Rattle.std.specs.Prelude.{◌≡◌, ℕ, ℤ, pos, negsuc}
use Rattle.levels.specs.declared.Mv.{Mv}
use Rattle.levels.specs.declared.OrderHint.{OrderHint}
use Rattle.levels.specs.Vector.{mark}
use Rattle.levels.specs.Answer.{answered}
use Rattle.mv.specs.Packing.{pack_code, unpack_mag, packed}
use Rattle.mv.specs.Projection.{mv_projection, scale_mv}
use Rattle.mv.specs.Averages.{smoothed, gap_mean}
use Rattle.env.specs.Hints.{hint_diff}

abbrev mv : ℤ → ℤ → Mv
mv y x = record { y = y; x = x }

abbrev hint : ℕ → OrderHint
hint n = record { 0 = n }

pub record Table : Type 0 where
  -- pack 31→31, 33→32, 63→47, 64→48, 2047→127; (2048, 0)→mark
  pub pack31 : pack_code 31 ≡ 31
  pub pack33 : pack_code 33 ≡ 32
  pub pack63 : pack_code 63 ≡ 47
  pub pack64 : pack_code 64 ≡ 48
  pub pack2047 : pack_code 2047 ≡ 127
  pub pack2048 : packed (mv (pos 2048) (pos 0)) ≡ mark
  -- unpack 33→34, 127→1984
  pub unpack33 : unpack_mag 33 ≡ 34
  pub unpack127 : unpack_mag 127 ≡ 1984
  -- hints 1 and 15, 4 bits: 2; hints 128 and 0, 8 bits: -128
  pub hints4 : hint_diff 4 (hint 1) (hint 15) ≡ pos 2
  pub hints8 : hint_diff 8 (hint 128) (hint 0) ≡ negsuc 127
  -- (100, -100) by 1 over 3: (33, -33); 01 names no bounds, those of the field are ±2,047
  pub projected : mv_projection (mv (pos 100) (negsuc 99)) (pos 1) (pos 3) (negsuc 2046) (pos 2047) ≡ answered (mv (pos 33) (negsuc 32))
  -- (1, -1) scaled by 8192: (1, -1)
  pub scaled : scale_mv (mv (pos 1) (negsuc 0)) (pos 8192) ≡ answered (mv (pos 1) (negsuc 0))
  -- smoothing sums: 3 over two cells 2, -3 gives -2; 7 over three 2
  pub smooth3 : smoothed 2 (pos 3) ≡ pos 2
  pub smooth_minus3 : smoothed 2 (negsuc 2) ≡ negsuc 1
  pub smooth7 : smoothed 3 (pos 7) ≡ pos 2
  -- gap sums: -1 over two -1, 10 over three 3, 2 over four 1
  pub gap_minus1 : gap_mean 2 (negsuc 0) ≡ negsuc 0
  pub gap10 : gap_mean 3 (pos 10) ≡ pos 3
  pub gap2 : gap_mean 4 (pos 2) ≡ pos 1
