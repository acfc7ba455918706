-- Lists that code is lent, and a loop over them as code runs it: what is left from where the loop is, on the lists as they are, is the whole of it on the lists where it began. Assumes nothing.
use Rattle.std.proofs.Common.{◌≡◌, refl, Bool, List, ℕ, ◌+◌, ◌≤◌, ◌<◌, arith, ℤ}
use Rattle.loops.specs.Over.{span}
use Rattle.loops.proofs.Turns.{turned, ended}
use Rattle.store.specs.Store.{Store, Kind}
use Rattle.store.specs.Program.{Prog, run, each}

-- the store that has the lists, and which lists are of the same lengths
pub record Lent (L : Type 0) : Type 1 where
  pub into : Store → L → Store
  pub Like : L → L → Type 0
  pub like_refl : (l : L) → Like l l
  pub like_trans : (l m n : L) → Like l m → Like m n → Like l n

module _ {L : Type 0} (K : Lent L) (own : Kind → ℕ → Bool) (f : ℕ → Prog) (a b : ℕ) where
  abbrev pub turn_of : ℕ → Store → Store
  turn_of i s = run own (f i) s

  pub record At (i : ℕ) (l m : L) : Type 0 where
    pub like : K.Like l m
    pub from : a ≤ i
    pub left : (s : Store) → span turn_of i b (K.into s l) ≡ span turn_of a b (K.into s m)

  pub at_holds : (l : L) → At a l l
  at_holds l = record { like = K.like_refl l; from = omega arith; left = λ s. refl }

  pub at_again : (i : ℕ) (l m n : L) → i < b → At i l m → K.Like n l → ((s : Store) → K.into s n ≡ run own (f i) (K.into s l)) → At (i + 1) n m
  at_again i l m n h c p e =
      record {
        like = K.like_trans n l m p c.like;
        from = omega (arith, c.from);
        left = λ s. turned turn_of b i (K.into s l) (K.into s n) _ h (e s) (c.left s);
      }

  pub at_done : (i : ℕ) (l m : L) → b ≤ i → At i l m → (s : Store) → K.into s l ≡ run own (each a b f) (K.into s m)
  unfolding span
  at_done i l m h c s = ended turn_of b i (K.into s l) _ h (c.left s)

-- two lists of integers, y and x
pub record Two : Type 0 where
  pub y : List ℤ
  pub x : List ℤ

abbrev pub two : List ℤ → List ℤ → Two
two y x = record { y = y; x = x }
