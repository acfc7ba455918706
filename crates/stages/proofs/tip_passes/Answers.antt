-- `stages::tip_passes` meets its contract. Assumes nothing.
use Rattle.std.proofs.Common.{sym, ◌∙◌, w8, SFits}
use Rattle.intops.proofs.Signed.{back}
use Rattle.tile.specs.Tiles.{geometry}
use Rattle.field.specs.Lent.{stored}
use Rattle.stages.proofs.Ways.{tips_one, tips_all}
use Rattle.stages.proofs.tip_passes.Goals as goal

pub returns-then-holes-clause-stored : goal.returns-then-holes-clause-stored
returns-then-holes-clause-stored c =
    let a = c.args in let d : SFits w8 a.delta = c.ranges.delta in
    λ q me de he s. let e₁ = simp back at (c.tip_projection.ensures.stored s) in
    let e₂ = simp back at (c.fill_holes.ensures.stored s) in
    let e₃ = simp back at (c.smoothen.ensures.stored s) in
    tips_all (geometry a.t.now) q (λ z. c.if-mode-ne0.true (sym me ∙ z)) _ (stored s c.tip_projection.new.field) (rw de e₁) (he ∙ c.if-holes.true) (stored s c.fill_holes.new.field) _ (rw de e₂) (rw de e₃)

pub returns-else-holes-clause-stored : goal.returns-else-holes-clause-stored
returns-else-holes-clause-stored c =
    let a = c.args in let d : SFits w8 a.delta = c.ranges.delta in
    λ q me de he s. let e = simp back at (c.tip_projection.ensures.stored s) in
    tips_one (geometry a.t.now) q (λ z. c.if-mode-ne0.true (sym me ∙ z)) _ _ (rw de e) (he ∙ c.if-holes.false)
