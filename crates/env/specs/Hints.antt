-- The difference of two order hints (01 "Order hint and slot"; refusal 3). Assumes nothing.
use Rattle.std.specs.Prelude.{ℕ, ◌+◌, ◌-◌, ◌%◌, ◌^◌, cond, ℤ, pos, negsuc, ◌-ℤ◌, nat_lt, Result, Ok, Err}
use Rattle.intops.specs.Choice.{pick_z}
use Rattle.levels.specs.declared.OrderHint.{OrderHint}
use Rattle.levels.specs.declared.Refusal.{Refusal}
use Rattle.levels.specs.Answer.{number_of}

-- z modulo m: of 0 .. m - 1, the one that differs from z by a multiple of m. negsuc a is -(a + 1) = (m - 1) - a - m, so the remainder is (m - 1) - a % m
abbrev pub mod_z : ℤ → ℕ → ℕ
mod_z (pos a) m = a % m
mod_z (negsuc a) m = (m - 1) - a % m

-- r of 0 .. m - 1, m even, moved into -m/2 .. m/2 - 1: the upper half goes below 0. With m = 1 it stays 0
abbrev pub centred : ℕ → ℕ → ℤ
centred m r = pick_z (nat_lt (r + r) m) (pos r) (pos r -ℤ pos m)

-- a - b for the order hints a and b, taken modulo 2^n into -2^(n-1) .. 2^(n-1) - 1; n = 0 gives 0, as all is 0 modulo 1
unfoldable pub hint_diff : ℕ → OrderHint → OrderHint → ℤ
hint_diff n a b = centred (2 ^ n) (mod_z (pos a.0 -ℤ pos b.0) (2 ^ n))

-- what get_poc_diff says in 01's terms: the refusal's number, 0 for none, and the difference
pub record SaidDiff : Type 0 where
  pub refusal : ℕ
  pub diff : ℤ

-- answered with d
abbrev pub differ : ℤ → SaidDiff
differ d = record { refusal = 0; diff = d }

-- refused with the number n; beside its number the difference is 0
abbrev pub refused_diff : ℕ → SaidDiff
refused_diff n = record { refusal = n; diff = pos 0 }

-- each case's number and difference
abbrev pub says_diff : Result ℤ Refusal → SaidDiff
says_diff (Ok d) = differ d
says_diff (Err e) = refused_diff (number_of e)

-- get_poc_diff: refusal 3 for hint bits above 8; else the difference
abbrev pub poc_diff : ℕ → OrderHint → OrderHint → SaidDiff
poc_diff n a b = cond (nat_lt 8 n) (refused_diff 3) (differ (hint_diff n a b))
