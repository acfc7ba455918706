-- The same lists are lent, over two steps. Assumes nothing.
use Rattle.std.proofs.Common.{refl, ◌∙◌}
use Rattle.store.specs.declared.Pairs.{Pairs}
use Rattle.store.specs.Lent.{IsSamePairs}

module _ {T : Type 0} where
  pub same_pairs : (p : Pairs T) → IsSamePairs p p
  same_pairs p = record { y = refl; x = refl; y_length = refl; x_length = refl }

  pub same_pairs_after : {p q r : Pairs T} → IsSamePairs p q → IsSamePairs q r → IsSamePairs p r
  same_pairs_after a b = record { y = a.y ∙ b.y; x = a.x ∙ b.x; y_length = a.y_length ∙ b.y_length; x_length = a.x_length ∙ b.x_length }
