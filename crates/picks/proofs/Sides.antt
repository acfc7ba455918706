-- A slot has a reference on a side where one of its seven is. Assumes nothing.
use Rattle.std.proofs.Common.{◌≡◌, refl, sym, ap, ◌∙◌, Bool, true, false, ◌||◌, ℕ, zero, suc, ◌+◌}
use Rattle.std.specs.List.{list_any, range_with_len}
use Rattle.loops.specs.Over.{over, span}
use Rattle.picks.specs.declared.Pocs.{Pocs}
use Rattle.picks.specs.Hints.{on_side, or_on_side, some_on_side}

or_assoc : (a b c : Bool) → (a || b) || c ≡ a || (b || c)
or_assoc true b c = refl
or_assoc false b c = refl

or_none : (a : Bool) → a || false ≡ a
or_none true = refl
or_none false = refl

-- b, or one of n numbers from i on has p: number after number
any_from : (p : ℕ → Bool) (n i : ℕ) (b : Bool) → over (λ k c. c || p k) 1 n i b ≡ b || list_any p (range_with_len i n)
unfolding over
any_from p zero i b = sym (or_none b)
any_from p (suc n) i b = any_from p n (i + 1) (b || p i) ∙ or_assoc b (p i) _

pub side_is : (h : Pocs) (i : ℕ) (late : Bool) → list_any (on_side h i late) (range_with_len 0 7) ≡ some_on_side h i late
unfolding some_on_side span
side_is h i late = sym (any_from (on_side h i late) 7 0 false)
