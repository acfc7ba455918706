-- `smooth::around_at` meets its contract. Assumes nothing.
use Rattle.std.proofs.Common.{◌≡◌, sym, ◌∙◌, subst, Bool, ℕ, ◌+◌, ◌-◌}
use Rattle.levels.specs.declared.Mv.{Mv}
use Rattle.mv.specs.Sums.{no_sum, added}
use Rattle.mv.specs.declared.Sum.{Sum}
use Rattle.tile.specs.Geometry.{Geometry}
use Rattle.tile.specs.Layout.{field_at}
use Rattle.tile.specs.Passes.{has_left, has_right, has_above, has_below}
use Rattle.tile.specs.Sound.{InTile}
use Rattle.tile.specs.Tiles.{geometry}
use Rattle.tile.proofs.Samples.{above_in}
use Rattle.field.specs.Field.{added_if, around}
use Rattle.field.specs.Lent.{vector_in}
use Rattle.smooth.proofs.around_at.Goals as goal

all_added : (t : Geometry) (was : ℕ → Mv) (sx xend y x col up : ℕ) (left right above below : Bool) (s₁ s₂ s₃ s₄ s₅ : Sum) → col ≡ x - t.step → up ≡ y - t.step
    → left ≡ has_left t sx x → right ≡ has_right t xend x → above ≡ has_above t y → below ≡ has_below t y
    → s₁ ≡ added (was (field_at t y x)) no_sum → s₂ ≡ added_if left (was (field_at t y col)) s₁ → s₃ ≡ added_if right (was (field_at t y (x + t.step))) s₂
    → s₄ ≡ added_if above (was (field_at t up x)) s₃ → s₅ ≡ added_if below (was (field_at t (y + t.step) x)) s₄ → s₅ ≡ around t was sx xend y x
unfolding around
all_added t was sx xend y x col up left right above below s₁ s₂ s₃ s₄ s₅ ce ue le re ae be e₁ e₂ e₃ e₄ e₅ = rw (e₅, e₄, e₃, e₂, e₁, ce, ue, le, re, ae, be)

pub add_if-s4-requires-clause-inside : goal.add_if-s4-requires-clause-inside
add_if-s4-requires-clause-inside c =
    let a = c.args in let t = geometry a.t.now in
    λ q. subst (λ (n : ℕ). InTile t n a.at.x) (sym c.saturating_sub-2.ensures) (above_in t a.t.now.sound a.at.start a.at.end a.at.y a.at.x c.requires.sampled (sym c.has_above.ensures ∙ q))

pub returns-clause-sum : goal.returns-clause-sum
returns-clause-sum c =
    let a = c.args in let t = geometry a.t.now in
    all_added t (vector_in a.field.now) a.at.start a.at.end a.at.y a.at.x c.saturating_sub.result c.saturating_sub-2.result c.has_left.result c.has_right.result c.has_above.result c.has_below.result
    c.add_if-s1.result c.add_if-s2.result c.add_if-s3.result c.add_if-s4.result c.add_if.result
    c.saturating_sub.ensures c.saturating_sub-2.ensures c.has_left.ensures c.has_right.ensures c.has_above.ensures c.has_below.ensures
    c.add_if-s1.ensures.sum c.add_if-s2.ensures.sum c.add_if-s3.ensures.sum c.add_if-s4.ensures.sum c.add_if.ensures.sum
