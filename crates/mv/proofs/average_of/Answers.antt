-- `mv::average_of` meets its contract. Assumes nothing.
use Rattle.std.proofs.Common.{rules, ◌≡◌, arith, ◌^◌, pos, ◌*ℤ◌, w32, w64, SFits}
use Rattle.intops.specs.Rounding.{round_div}
use Rattle.intops.proofs.Signed.{back, within_mono, fits_within}
use Rattle.mv.proofs.Averages.{product_within, average_fits}
use Rattle.mv.proofs.average_of.Goals.{After-from, After-round_shift, Start}
use Rattle.mv.proofs.average_of.Goals as goal

-- the sum, the reciprocal and their product fit
ways : (s : Start) → let a = s.args in SFits w64 a.sum × SFits w64 (pos a.idiv) × SFits w64 (a.sum *ℤ pos a.idiv)
ways s = let a = s.args in (s.ranges.sum, record { sfits = omega arith }, fits_within w64 tt (product_within a.n a.sum a.idiv a.bits s.requires))

i64_is : (c : After-from) → c.from.result ≡ pos c.args.idiv
i64_is c = c.from.ensures

is : (c : After-round_shift) → let a = c.args in c.round_shift.result ≡ round_div (2 ^ a.bits) (a.sum *ℤ pos a.idiv)
is c = let (f, g, h) = ways c.before.before in simp back at (rw (i64_is c.before) at c.round_shift.ensures)

fits : (c : After-round_shift) → SFits w32 c.round_shift.result
fits c = let a = c.args in rw (is c) (average_fits a.n a.sum a.idiv a.bits c.requires)

pub overflow_mul-p : goal.overflow_mul-p
overflow_mul-p c = let (f, g, h) = ways (goal.at.overflow_mul-p c).Start in rw (i64_is c) (simp back h)

pub round_shift-requires-clause-small : goal.round_shift-requires-clause-small
round_shift-requires-clause-small c =
    let s = (goal.at.round_shift-requires-clause-small c).Start in let a = s.args in let (f, g, h) = ways s in
    rw (i64_is c) (simp back (within_mono (omega arith) (product_within a.n a.sum a.idiv a.bits s.requires)))

pub overflow_cast-result : goal.overflow_cast-result
overflow_cast-result c = let f : SFits w64 c.round_shift.result = search rules in simp back (fits c)

pub returns : goal.returns
returns c = let f : SFits w64 c.round_shift.result = search rules in let g = fits c in simp back (is c)
