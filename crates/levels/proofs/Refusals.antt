-- Laws of the refusals' numbers. Assumes nothing.
use Rattle.std.proofs.Common.{◌<◌, arith}
use Rattle.levels.specs.declared.Refusal.{Refusal}
use Rattle.levels.specs.declared.Refusal.TheVariants.{VectorOutOfRange, HalfMark, TooManyBits, TooManySlots, BadSuperblock, BadStep, BadSize, BadTipSlot, SetupOutOfRange, TileOutOfRange, TooShort, ContentsOutOfRange}
use Rattle.levels.specs.Answer.{number_of}

-- no refusal has the number 0
pub number_pos : (e : Refusal) → 0 < number_of e
number_pos VectorOutOfRange = omega arith
number_pos HalfMark = omega arith
number_pos TooManyBits = omega arith
number_pos TooManySlots = omega arith
number_pos BadSuperblock = omega arith
number_pos BadStep = omega arith
number_pos BadSize = omega arith
number_pos BadTipSlot = omega arith
number_pos SetupOutOfRange = omega arith
number_pos TileOutOfRange = omega arith
number_pos TooShort = omega arith
number_pos ContentsOutOfRange = omega arith
