-- What an answer says: the refusal's number, 0 for none, and the value. Assumes nothing.
use Rattle.std.specs.Prelude.{ℕ, pos, Bool, cond, ⊤, Result, Ok, Err}
use Rattle.levels.specs.declared.Mv.{Mv}
use Rattle.levels.specs.declared.Refusal.{Refusal}
use Rattle.levels.specs.declared.Refusal.TheVariants.{VectorOutOfRange, HalfMark, TooManyBits, TooManySlots, BadSuperblock, BadStep, BadSize, BadTipSlot, SetupOutOfRange, TileOutOfRange, TooShort, ContentsOutOfRange}

-- a refusal's number
abbrev pub number_of : Refusal → ℕ
number_of VectorOutOfRange = 1
number_of HalfMark = 2
number_of TooManyBits = 3
number_of TooManySlots = 4
number_of BadSuperblock = 5
number_of BadStep = 6
number_of BadSize = 7
number_of BadTipSlot = 8
number_of SetupOutOfRange = 9
number_of TileOutOfRange = 10
number_of TooShort = 11
number_of ContentsOutOfRange = 12

-- the number that an answer gives: that of its refusal, 0 for none
abbrev pub refusal_of : {A : Type 0} → Result A Refusal → ℕ
refusal_of (Ok a) = 0
refusal_of (Err e) = number_of e

-- what a test answers: its refusal where what is tested is bad
abbrev pub refused_if : Bool → Refusal → Result ⊤ Refusal
refused_if bad e = cond bad (Err e) (Ok tt)

-- of an answer on vectors: the refusal's number, 0 for none, and the vector
pub record Said : Type 0 where
  pub refusal : ℕ
  pub vector : Mv

-- answered with v
abbrev pub answered : Mv → Said
answered v = record { refusal = 0; vector = v }

-- refused with the number n; beside its number a refused vector is (0, 0)
abbrev pub refused : ℕ → Said
refused n = record { refusal = n; vector = record { y = pos 0; x = pos 0 } }

-- each case's number and vector
abbrev pub says : Result Mv Refusal → Said
says (Ok v) = answered v
says (Err e) = refused (number_of e)
