-- The ways through the programs of gap filling, as code has them. Assumes nothing.
use Rattle.std.proofs.Common.{◌≡◌, refl, sym, ap, ◌∙◌, Bool, true, false, ◌&&◌, ℕ, ◌+◌, ◌/◌, ◌≤◌, arith, get_or}
use Rattle.levels.specs.declared.Mv.{Mv}
use Rattle.levels.specs.Vector.{empty}
use Rattle.mv.specs.declared.Sum.{Sum}
use Rattle.mv.specs.Sums.{is_empty, no_sum, added, gap_of, Fair}
use Rattle.mv.proofs.Sums.{gap_of_one}
use Rattle.store.specs.Store.{Store, field_mvs, field_refs, byte_cell, wr}
use Rattle.store.specs.Program.{Prog, run}
use Rattle.tile.specs.Geometry.{Geometry}
use Rattle.tile.specs.Layout.{field_at}
use Rattle.tile.specs.Owner.{own_block, owns}
use Rattle.tile.specs.Passes.{has_right, has_below}
use Rattle.tile.specs.Sound.{Sound, InTile, Sample, Gaps}
use Rattle.tile.proofs.Places.{at_low}
use Rattle.tile.proofs.Owner.{own_cell, mine_in, mine_low}
use Rattle.tile.proofs.Samples.{right_two, below_two, both_two}
use Rattle.field.specs.declared.Field.{Field}
use Rattle.field.specs.Field.{put, beside, put_gaps_proj, gap_proj}
use Rattle.field.specs.Lent.{stored, vector_in, IsHeld, IsWithin}
use Rattle.gaps.specs.Code.{beside_of}

-- the place of a cell in the tile's own columns is in the lists
pub within_row : (t : Geometry) → Sound t → (i y x : ℕ) → i ≡ field_at t y x → own_block t (x / t.block + 1) ≡ true → (f : Field) → IsHeld t f → IsWithin f i
within_row t k i y x e m f h = let l = at_low t k i y x e (mine_low t k x m) in record { y = omega (arith, l, h.y); x = omega (arith, l, h.x); reference = omega (arith, l, h.ref) }

-- n is l with v and r in place i
abbrev Set : Field → Field → ℕ → Mv → ℕ → Type 0
Set n l i v r = (s : Store) → stored s n ≡ wr (wr (stored s l) field_mvs i v) field_refs i (byte_cell r)

beside-run : (t : Geometry) (l : Field) (i n : ℕ) (f : Mv → Prog) (there : Bool) → (there ≡ true → (owns t field_mvs i ≡ true) × (owns t field_refs i ≡ true)) → (s : Store)
    → run (owns t) (beside there i (byte_cell n) f) (stored s l) ≡ run (owns t) (f (beside_of there n i l)) (stored s l)
beside-run t l i n f true o s = let q = o refl in rw (q.0, q.1)
beside-run t l i n f false o s = refl

-- a neighbour that is empty changes neither the mean nor the sum
pub stays : (v : Mv) (s : Sum) → is_empty v ≡ false → Fair s → (v ≡ gap_of (added empty (added v no_sum))) × (s ≡ added empty s) × Fair s × (s.n ≤ s.n) × (s.n ≤ s.n + 1)
stays v s e f = (sym (gap_of_one v e), refl, f, omega arith, omega arith)

put_on : (t : Geometry) (k : Sound t) (y x : ℕ) → own_block t (x / t.block + 1) ≡ true → (l n : Field) (i : ℕ) (v w : Mv) (r : ℕ) → i ≡ field_at t y x → v ≡ w → Set n l i v r
    → (s : Store) → stored s n ≡ run (owns t) (put (field_at t y x) w r) (stored s l)
put_on t k y x m l n i v w r at ve p s = let o = own_cell t k y x m in p s ∙ rw (at, ve) (rw (o.0, o.1))

-- the three cells between sampled ones
module _ (t : Geometry) (k : Sound t) (y x : ℕ) (g : Gaps t y x) (l : Field) where
  pub gaps_on : (v a b c : Mv) (r i₁ i₂ i₃ : ℕ) (v₁ v₂ v₃ : Mv) (n₁ n₂ n₃ : Field)
      → i₁ ≡ field_at t y (x + 1) → i₂ ≡ field_at t (y + 1) x → i₃ ≡ field_at t (y + 1) (x + 1)
      → v₁ ≡ gap_of (added a (added v no_sum)) → v₂ ≡ gap_of (added b (added v no_sum)) → v₃ ≡ gap_of (added c (added b (added a (added v no_sum))))
      → Set n₁ l i₁ v₁ r → Set n₂ n₁ i₂ v₂ r → Set n₃ n₂ i₃ v₃ r
      → (s : Store) → stored s n₃ ≡ run (owns t) (put_gaps_proj t y x v r a b c) (stored s l)
  unfolding put_gaps_proj
  gaps_on v a b c r i₁ i₂ i₃ v₁ v₂ v₃ n₁ n₂ n₃ p₁ p₂ p₃ q₁ q₂ q₃ h₁ h₂ h₃ s =
      put_on t k (y + 1) (x + 1) g.right n₂ n₃ i₃ v₃ _ r p₃ q₃ h₃ s
      ∙ ap (run (owns t) (put (field_at t (y + 1) (x + 1)) (gap_of (added c (added b (added a (added v no_sum))))) r)) (put_on t k (y + 1) x g.here n₁ n₂ i₂ v₂ _ r p₂ q₂ h₂ s
      ∙ ap (run (owns t) (put (field_at t (y + 1) x) (gap_of (added b (added v no_sum))) r)) (put_on t k y (x + 1) g.right l n₁ i₁ v₁ _ r p₁ q₁ h₁ s))

module _ (t : Geometry) (k : Sound t) (sx xend y x : ℕ) (h : Sample t sx xend y x) (two : t.step ≡ 2) (l : Field) where
  mine : own_block t (x / t.block + 1) ≡ true
  mine = mine_in t k x h.cell.left h.cell.right

  in_own : (b a : ℕ) → InTile t b a → (owns t field_mvs (field_at t b a) ≡ true) × (owns t field_refs (field_at t b a) ≡ true)
  in_own b a q = own_cell t k b a (mine_in t k a q.left q.right)

  gap_reads : (s : Store) → is_empty (vector_in l (field_at t y x)) ≡ false → let w = vector_in l (field_at t y x) in let n = get_or l.reference.now (field_at t y x) 0 in
      run (owns t) (gap_proj t sx xend y x) (stored s l)
      ≡ run (owns t) (beside (has_right t xend x) (field_at t y (x + 2)) (byte_cell n) (λ a. beside (has_below t y) (field_at t (y + 2) x) (byte_cell n)
      (λ b. beside (has_right t xend x && has_below t y) (field_at t (y + 2) (x + 2)) (byte_cell n) (λ c. put_gaps_proj t y x w n a b c)))) (stored s l)
  unfolding gap_proj
  gap_reads s e = let o = own_cell t k y x mine in rw (o.0, e, o.1)

  -- the byte, the first two neighbours, and what is left of the program after each
  abbrev r : ℕ
  r = get_or l.reference.now (field_at t y x) 0

  abbrev va : Mv
  va = beside_of (has_right t xend x) r (field_at t y (x + 2)) l

  abbrev vb : Mv
  vb = beside_of (has_below t y) r (field_at t (y + 2) x) l

  abbrev from_c : Mv → Mv → Mv → Prog
  from_c a b c = put_gaps_proj t y x (vector_in l (field_at t y x)) r a b c

  abbrev from_b : Mv → Mv → Prog
  from_b a b = beside (has_right t xend x && has_below t y) (field_at t (y + 2) (x + 2)) (byte_cell r) (from_c a b)

  abbrev from_a : Mv → Prog
  from_a a = beside (has_below t y) (field_at t (y + 2) x) (byte_cell r) (from_b a)

  module _ (i : ℕ) (at : i ≡ field_at t y x) where
    pub gap_off : is_empty (vector_in l i) ≡ true → (s : Store) → stored s l ≡ run (owns t) (gap_proj t sx xend y x) (stored s l)
    unfolding gap_proj
    gap_off e s = let o = own_cell t k y x mine in rw (o.0, rw at at e)

    pub gap_on : is_empty (vector_in l i) ≡ false → (v a b c : Mv) (right below : Bool) (n : Field) → v ≡ vector_in l i → right ≡ has_right t xend x → below ≡ has_below t y
        → a ≡ beside_of right (get_or l.reference.now i 0) (field_at t y (x + 2)) l
        → b ≡ beside_of below (get_or l.reference.now i 0) (field_at t (y + 2) x) l
        → c ≡ beside_of (right && below) (get_or l.reference.now i 0) (field_at t (y + 2) (x + 2)) l
        → ((s : Store) → stored s n ≡ run (owns t) (put_gaps_proj t y x v (get_or l.reference.now i 0) a b c) (stored s l))
        → (s : Store) → stored s n ≡ run (owns t) (gap_proj t sx xend y x) (stored s l)
    gap_on e v a b c right below n ve re we ae be ce p s =
        p s
        ∙ rw (ae, be, ce, ve, re, we, at) (sym (gap_reads s (rw at at e)
        ∙ beside-run t l (field_at t y (x + 2)) r from_a (has_right t xend x) (λ q. in_own y (x + 2) (right_two t k sx xend y x h two q)) s
        ∙ beside-run t l (field_at t (y + 2) x) r (from_b va) (has_below t y) (λ q. in_own (y + 2) x (below_two t k sx xend y x h two q)) s
        ∙ beside-run t l (field_at t (y + 2) (x + 2)) r (from_c va vb) (has_right t xend x && has_below t y) (λ q. in_own (y + 2) (x + 2) (both_two t k sx xend y x h two q)) s))
