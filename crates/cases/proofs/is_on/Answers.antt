-- `cases::is_on` meets its contract. Assumes nothing.
use Rattle.std.proofs.Common.{not, ap, pos, w64, SFits}
use Rattle.intops.proofs.Signed.{signed, eq_plain}
use Rattle.cases.specs.Numbers.{is_on}
use Rattle.cases.proofs.is_on.Goals as goal

pub returns : goal.returns
unfolding is_on
returns c = let f = c.ranges.v in let g : SFits w64 (pos 0) = omega signed in ap not (eq_plain f g)
