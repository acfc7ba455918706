-- `mv::gap_idiv` meets its contract. Assumes nothing.
use Rattle.std.proofs.Common.{◌≡◌, refl, ℕ, ◌-◌, ◌*◌, ◌/◌, ◌^◌, ◌≤◌, arith, bit_and}
use Rattle.mv.proofs.Averages.{five}
use Rattle.mv.proofs.gap_idiv.Goals as goal

-- the parts of any number, that of n among them
part : (all n : ℕ) → bit_and (all / 2 ^ 0) 65535 ≡ 256 → bit_and (all / 2 ^ 16) 65535 ≡ 128 → bit_and (all / 2 ^ 32) 65535 ≡ 85 → bit_and (all / 2 ^ 48) 65535 ≡ 64
    → 1 ≤ n → n ≤ 4 → bit_and (all / 2 ^ (16 * (n - 1))) 65535 ≡ 256 / n
part all n a b c d l h = five (λ (n : ℕ). n ≤ 4 → bit_and (all / 2 ^ (16 * (n - 1))) 65535 ≡ 256 / n) (λ _. a) (λ _. b) (λ _. c) (λ _. d) (λ k. absurd (omega arith)) n l (omega arith) h

pub returns : goal.returns
returns c = part _ c.args.n refl refl refl refl c.requires.some c.requires.few
