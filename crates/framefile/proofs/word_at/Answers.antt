-- `framefile::word_at` meets its contract. Assumes nothing.
use Rattle.std.proofs.Common.{arith}
use Rattle.framefile.specs.File.{word_at}
use Rattle.framefile.proofs.word_at.Goals as goal

pub returns : goal.returns
unfolding word_at
returns c = omega (arith, c.from_le_bytes.ensures)
