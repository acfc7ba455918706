-- Bytes as signed numbers. Assumes nothing.
use Rattle.std.specs.Prelude.{cond, ℕ, ◌-◌, ltb, ℤ, pos, negsuc}

-- a byte as a signed number of eight bits: from 128 on, less 256
abbrev pub signed_byte : ℕ → ℤ
signed_byte b = cond (ltb b 128) (pos b) (negsuc (255 - b))
