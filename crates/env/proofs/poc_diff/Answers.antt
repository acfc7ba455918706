-- `env::poc_diff` meets its contract. Assumes nothing.
use Rattle.std.proofs.Common.{◌≡◌, ℕ, ◌*◌, ◌%◌, ◌^◌, ◌<◌, ◌≤◌, pos, ◌-ℤ◌, mod-lt, pow_pos, pow_mono, w32, SFits, le-ltb, lt-ltb}
use Rattle.env.specs.Hints.{centred, hint_diff}
use Rattle.intops.proofs.Bits.{one_shl}
use Rattle.intops.proofs.Signed.{signed, back, ud_minus}
use Rattle.env.proofs.Hints.{wrapped_is}
use Rattle.env.proofs.poc_diff.Goals.{After-from, Start}
use Rattle.env.proofs.poc_diff.Goals as goal

-- `1 << n`, and its size
pow_small : (n : ℕ) → n ≤ 8 → 2 ^ n ≤ 256
pow_small n h = pow_mono {i = n} {j = 8} h

m_is : (s : Start) → (1 * 2 ^ s.args.order_hint_n_bits) % 4294967296 ≡ 2 ^ s.args.order_hint_n_bits
m_is s = one_shl 4294967296 s.args.order_hint_n_bits (omega (signed, pow_small s.args.order_hint_n_bits s.requires))

-- the remainder, and its size
abbrev d : After-from → ℕ
d c = c.from.result % 2 ^ c.args.order_hint_n_bits

d_small : (c : After-from) → d c < 2 ^ c.args.order_hint_n_bits
d_small c = mod-lt c.from.result (pow_pos c.args.order_hint_n_bits)

d_fits : (c : After-from) → SFits w32 (pos (d c))
d_fits c = omega (signed, d_small c, pow_small c.args.order_hint_n_bits c.requires)

m_fits : (s : Start) → SFits w32 (pos (2 ^ s.args.order_hint_n_bits))
m_fits s = omega (signed, pow_small s.args.order_hint_n_bits s.requires)

diff_fits : (c : After-from) → SFits w32 (pos (d c) -ℤ pos (2 ^ c.args.order_hint_n_bits))
diff_fits c = omega (signed, d_small c, pow_small c.args.order_hint_n_bits c.requires, ud_minus (pos (d c)) (pos (2 ^ c.args.order_hint_n_bits)))

wrap_is : (c : After-from) → let a = c.args in hint_diff a.order_hint_n_bits a.poc0 a.poc1 ≡ centred (2 ^ a.order_hint_n_bits) (d c)
wrap_is c = let a = c.args in wrapped_is a.poc0 a.poc1 c.from.result a.order_hint_n_bits c.requires (omega signed) (omega signed) (omega signed) (omega (signed, c.from.ensures))

pub returns-then-d-m : goal.returns-then-d-m
returns-then-d-m c =
    let f = d_fits (goal.at.returns-then-d-m c).After-from in
    let t = rw (m_is (goal.at.returns-then-d-m c).Start) at c.if-d-m.true in
    rw (m_is (goal.at.returns-then-d-m c).Start, wrap_is (goal.at.returns-then-d-m c).After-from, lt-ltb _ _ t) (simp back)

pub returns-else-d-m : goal.returns-else-d-m
returns-else-d-m c =
    let f = d_fits (goal.at.returns-else-d-m c).After-from in let g = m_fits (goal.at.returns-else-d-m c).Start in let h = diff_fits (goal.at.returns-else-d-m c).After-from in
    let t = rw (m_is (goal.at.returns-else-d-m c).Start) at c.if-d-m.false in
    rw (m_is (goal.at.returns-else-d-m c).Start, wrap_is (goal.at.returns-else-d-m c).After-from, le-ltb _ _ t) (simp back)
