-- Laws of verdicts, and of numbers within their fields. Assumes nothing.
use Rattle.std.proofs.Common.{Option, Some, None, Bool, true, false, not, ◌≡◌, refl, ℕ, ◌≤◌, ℤ, pos, nat_abs}
use borrow.Author.Tests.{not-false}
use Rattle.intops.proofs.Signed.{signed, ud}
use Rattle.cases.specs.Numbers.{Inside, IsSize}
use Rattle.cases.specs.Verdicts.{WhenTrue, WhenAgrees, verdict_of}
use Rattle.cases.specs.declared.Verdict.{Verdict}
use Rattle.cases.specs.declared.Verdict.TheVariants.{Agrees, Differs, NotACase}

-- what follows from agreeing
pub when_agrees : (v : Verdict) {p q : Type 0} → (p → q) → WhenAgrees v p → WhenAgrees v q
when_agrees Agrees f h = f h
when_agrees Differs f h = tt
when_agrees NotACase f h = tt

-- what follows from a test
pub when_true : (b : Bool) {p q : Type 0} → (p → q) → WhenTrue b p → WhenTrue b q
when_true true f h = f h
when_true false f h = tt

-- past a test whose negation was false
pub passed : (b : Bool) {p : Type 0} → not b ≡ false → WhenTrue b p → p
passed b e h = rw (not-false b e) at h

-- a number from 0 up to h has room in a usize, and its magnitude is at most h
pub roomy : {h : ℕ} {z : ℤ} → h ≤ 9223372036854775807 → Inside (pos 0) (pos h) z → IsSize z
roomy {h} {z} l i = record { least = i.least; most = omega (signed, i.most, l) }

pub size : {h : ℕ} {z : ℤ} → Inside (pos 0) (pos h) z → nat_abs z ≤ h
size {h} {z} i = omega (signed, i.least, i.most, ud z)

-- what follows from the verdict of a judge that says whether its case agrees
pub judged : (o : Option Bool) (v : Verdict) {p : Type 0} → v ≡ verdict_of o → (o ≡ Some true → p) → WhenAgrees v p
judged (Some true) v e f = rw e (f refl)
judged (Some false) v e f = rw e tt
judged None v e f = rw e tt
