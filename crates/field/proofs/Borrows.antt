-- The lent field over two steps, and in a loop. Assumes nothing.
use Rattle.std.proofs.Common.{◌≡◌, refl, ◌∙◌, ℕ, arith}
use Rattle.store.proofs.Lent.{Lent}
use Rattle.tile.specs.Geometry.{Geometry}
use Rattle.tile.specs.Layout.{field_at}
use Rattle.tile.specs.Sound.{Sound, InTile}
use Rattle.tile.proofs.Places.{at_low, col_low}
use Rattle.field.specs.declared.Field.{Field}
use Rattle.field.specs.Lent.{AreVectorsHeld, IsHeld, IsVectorWithin, IsWithin, IsSameField, stored, with_vectors}

pub same_field : (f : Field) → IsSameField f f
same_field f = record { y = refl; x = refl; reference = refl; y_length = refl; x_length = refl; reference_length = refl }

pub same_after : {f g h : Field} → IsSameField f g → IsSameField g h → IsSameField f h
same_after p q =
    record {
      y = p.y ∙ q.y;
      x = p.x ∙ q.x;
      reference = p.reference ∙ q.reference;
      y_length = p.y_length ∙ q.y_length;
      x_length = p.x_length ∙ q.x_length;
      reference_length = p.reference_length ∙ q.reference_length;
    }

pub held_after : (t : Geometry) {f g : Field} → IsSameField f g → IsHeld t g → IsHeld t f
held_after t p h = record { y = omega (arith, p.y_length, h.y); x = omega (arith, p.x_length, h.x); ref = omega (arith, p.reference_length, h.ref) }

-- the place of one of the tile's cells is in the lists
pub vector_at : (t : Geometry) → Sound t → (i y x : ℕ) → i ≡ field_at t y x → InTile t y x → (f : Field) → AreVectorsHeld t f → IsVectorWithin f i
vector_at t k i y x e m f h = let l = at_low t k i y x e (col_low t k x m.right) in record { y = omega (arith, l, h.y); x = omega (arith, l, h.x) }

pub within_at : (t : Geometry) → Sound t → (i y x : ℕ) → i ≡ field_at t y x → InTile t y x → (f : Field) → IsHeld t f → IsWithin f i
within_at t k i y x e m f h =
    let l = at_low t k i y x e (col_low t k x m.right) in
    record { y = omega (arith, l, h.y); x = omega (arith, l, h.x); reference = omega (arith, l, h.ref) }

-- .. and so in those of the vectors
pub cell_at : (t : Geometry) → Sound t → (i y x : ℕ) → i ≡ field_at t y x → InTile t y x → (f : Field) → IsHeld t f → IsVectorWithin f i
cell_at t k i y x e m f h = let w = within_at t k i y x e m f h in record { y = w.y; x = w.x }

abbrev pub lent : Lent Field
lent = record { into = stored; Like = IsSameField; like_refl = same_field; like_trans = λ f g h p q. same_after p q }

-- the same of its vectors alone
abbrev pub vectors : Lent Field
vectors = record { into = with_vectors; Like = IsSameField; like_refl = same_field; like_trans = λ f g h p q. same_after p q }
