-- Planes of a file: those of the slots below, and where a plane ends. Assumes nothing.
use Rattle.std.proofs.Common.{Bool, true, false, cond, List, ◌≡◌, refl, ap, ◌∙◌, ℕ, zero, suc, ◌+◌, ◌-◌, ◌*◌, ◌≤◌, ◌<◌, add-zero, add-one, arith, get_or}
use mir.Val.{bool_byte}
use Rattle.loops.proofs.Turns.{row_within}
use Rattle.framefile.specs.File.{present_before, plane_at}

-- one slot more
pub present_more : (present : List Bool) (k : ℕ) → present_before present (k + 1) ≡ present_before present k + cond (get_or present k false) 1 0
unfolding present_before
present_more present k = ap (present_before present) (add-one k)

pub one_low : (b : Bool) → cond b 1 0 ≤ 1
one_low true = omega arith
one_low false = omega arith

pub byte_low : (b : Bool) → bool_byte b ≤ 1
byte_low true = omega arith
byte_low false = omega arith

present_up : (present : List Bool) (k n : ℕ) → present_before present k ≤ present_before present (k + n)
present_up present k zero = rw add-zero (omega arith)
present_up present k (suc n) = let e : k + suc n ≡ k + n + 1 = omega arith in rw e (omega (arith, present_up present k n, present_more present (k + n)))

-- a plane that is there ends within the file
pub plane_within : (present : List Bool) (n wide high k : ℕ) → k < 7 → get_or present k false ≡ true → plane_at present n wide high k + 6 * (high * wide) ≤ plane_at present n wide high 7
unfolding plane_at
plane_within present n wide high k h t =
    let m : present_before present (k + 1) ≡ present_before present k + 1 = present_more present k ∙ rw t in
    let e : k + 1 + (6 - k) ≡ 7 = omega arith in
    let u : present_before present (k + 1) ≤ present_before present 7 = rw e at (present_up present (k + 1) (6 - k)) in
    omega (arith, row_within (present_before present k) (present_before present 7) (6 * (high * wide)) (omega (arith, m, u)))

-- the planes stand behind the tile columns' ends
pub head_within : (present : List Bool) (n wide high k : ℕ) → 103 + 4 * n ≤ plane_at present n wide high k
unfolding plane_at
head_within present n wide high k = omega arith
