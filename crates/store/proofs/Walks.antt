-- A loop over a part of a store as code runs it: what is left from where the loop is, on what is there now, is the whole of it on what was there when it began. Assumes nothing.
use Rattle.std.proofs.Common.{◌≡◌, refl, Bool, ℕ, ◌+◌, ◌≤◌, ◌<◌, arith}
use Rattle.loops.specs.Over.{span_by}
use Rattle.loops.proofs.Turns.{turned_by, ended_by}
use Rattle.store.specs.Store.{Store, Kind}
use Rattle.store.specs.Program.{Prog, run, each_by}

-- `now` and `was` put the lent lists into a store
pub record Rest (own : Kind → ℕ → Bool) (d a x b : ℕ) (f : ℕ → Prog) (now was : Store → Store) : Type 0 where
  pub from : a ≤ x
  pub left : (s : Store) → run own (each_by d x b f) (now s) ≡ run own (each_by d a b f) (was s)

pub rest_begins : (own : Kind → ℕ → Bool) (d a b : ℕ) (f : ℕ → Prog) (was : Store → Store) → Rest own d a a b f was was
rest_begins own d a b f was = record { from = omega arith; left = λ s. refl }

module _ (own : Kind → ℕ → Bool) (d a x b : ℕ) (f : ℕ → Prog) (now was : Store → Store) (some : 0 < d) where
  pub rest_turn : (next : Store → Store) → Rest own d a x b f now was → x < b → ((s : Store) → next s ≡ run own (f x) (now s)) → Rest own d a (x + d) b f next was
  unfolding span_by
  rest_turn next r l e =
      record {
        from = omega (arith, r.from);
        left = λ s. turned_by (λ i u. run own (f i) u) d b x (now s) (next s) _ some l (e s) (r.left s);
      }

  pub rest_ends : Rest own d a x b f now was → b ≤ x → (s : Store) → now s ≡ run own (each_by d a b f) (was s)
  unfolding span_by
  rest_ends r l s = ended_by (λ i u. run own (f i) u) d b x (now s) _ some l (r.left s)
