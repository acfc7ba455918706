-- A row of cells of one kind, which a program writes one by one, as two lists that are filled. Assumes nothing.
use Rattle.std.proofs.Common.{◌≡◌, refl, sym, ap, ◌∙◌, Bool, true, List, ℕ, zero, suc, ◌+◌, ◌-◌, ◌≤◌, ◌<◌, arith, ℤ, set}
use Rattle.levels.specs.declared.Mv.{Mv}
use Rattle.loops.specs.Over.{over, span}
use Rattle.loops.specs.Seven.{storing}
use Rattle.store.specs.Lent.{filled}
use Rattle.store.specs.Store.{Store, Kind, wr}
use Rattle.store.specs.Program.{run, write, each}
use Rattle.store.proofs.Lent.{Two, two}

-- cells of one kind in two lists
module _ (kind : Kind) (into : Store → Two → Store) (sets : (s : Store) (l : Two) (i : ℕ) (v : Mv) → wr (into s l) kind i v ≡ into s (two (set l.y i v.y) (set l.x i v.x)))
    (own : Kind → ℕ → Bool) (at : ℕ → ℕ) (v : Mv) (r : ℕ) where
  -- n cells from column p on, which stand at r + p, r + p + 1, ..
  fills : (n p : ℕ) → ((i : ℕ) → p ≤ i → i < p + n → (own kind (at i) ≡ true) × (at i ≡ r + i)) → (s : Store) (l : Two)
      → over (λ x. run own (write kind (at x) v)) 1 n p (into s l) ≡ into s (two (over (storing (λ i. v.y)) 1 n (r + p) l.y) (over (storing (λ i. v.x)) 1 n (r + p) l.x))
  unfolding over
  fills zero p h s l = refl
  fills (suc n) p h s l =
      let o = h p (omega arith) (omega arith) in
      let e : r + (p + 1) ≡ r + p + 1 = omega arith in
      let m : Two = two (set l.y (r + p) v.y) (set l.x (r + p) v.x) in
      let w : run own (write kind (at p) v) (into s l) ≡ into s m = rw (o.0, o.1) (sets s l (r + p) v) in
      ap (over (λ x. run own (write kind (at x) v)) 1 n (p + 1)) w ∙ fills n (p + 1) (λ i q u. h i (omega arith) (omega arith)) s m
      ∙ ap (λ (j : ℕ). into s (two (over (storing (λ i. v.y)) 1 n j m.y) (over (storing (λ i. v.x)) 1 n j m.x))) e

  -- a row's columns from a up to b
  pub row_filled : (a b : ℕ) → ((x : ℕ) → a ≤ x → x < b → (own kind (at x) ≡ true) × (at x ≡ r + x)) → (l : Two) (ny nx : List ℤ) → ny ≡ filled v.y (r + a) (r + b) l.y → nx ≡ filled v.x (r + a) (r + b) l.x
      → (s : Store) → into s (two ny nx) ≡ run own (each a b (λ x. write kind (at x) v)) (into s l)
  unfolding span
  row_filled a b h l ny nx p q s =
      let e : r + b - (r + a) ≡ b - a = omega arith in
      rw (p, q, e) (sym (fills (b - a) a (λ i c d. h i c (omega arith)) s l))
