-- The two values with a meaning of their own. Assumes nothing.
use Rattle.std.specs.Prelude.{pos, negsuc}
use Rattle.levels.specs.declared.Mv.{Mv}
use Rattle.levels.specs.declared.QMv.{QMv}

-- 01 "Vector", the term empty: y = 2,097,152, whatever x is; it is written with x = 0. (0, 0) is a still cell, and not empty
abbrev pub empty : Mv
empty = record { y = pos 2097152; x = pos 0 }

-- 01 "Packed vector", the term mark: both bytes -128
abbrev pub mark : QMv
mark = record { y = negsuc 127; x = negsuc 127 }
