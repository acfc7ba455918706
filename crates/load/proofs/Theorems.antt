-- The theorems of specs/Theorems.antt. Assumes nothing.
use Rattle.std.proofs.Common.{◌≡◌, refl, ap, ◌∙◌, subst, Bool, true, false, ◌&&◌, ℕ, ◌+◌, ◌-◌, ◌*◌, ◌/◌, ◌%◌, ◌≤◌, ◌<◌, arith, eqb-true, ltb}
use Rattle.intops.proofs.Tests.{and_both, and_false_right}
use Rattle.store.specs.Store.{Store, Kind, field_mvs, field_refs, trajs, maps}
use Rattle.store.specs.Calls.{keep, accepted}
use Rattle.store.proofs.Local.{local_comm}
use Rattle.store.proofs.Owned.{owned_run}
use Rattle.store.proofs.Order.{all_keep, pairs_map, order, answers_stay, none_refused}
use Rattle.tile.specs.Geometry.{Geometry}
use Rattle.tile.specs.Layout.{row_cells}
use Rattle.tile.specs.Owner.{own_block, owns}
use Rattle.tile.specs.Sound.{Sound}
use Rattle.tile.proofs.Places.{sides}
use Rattle.tile.proofs.Owner.{mine_bounds}
use Rattle.load.specs.Load.{Call, tile_of, load_tmvs}
use Rattle.load.specs.Calls.{answer, load, load_unguarded}
use Rattle.load.specs.Theorems.{Apart, OrderOfLoads, AnswersStay, NoneRefused, GuardsIdle, KeepsOthers, ReadsOwn}
use Rattle.load.proofs.Accepted.{passed, in_range, columns, sound}
use Rattle.load.proofs.Owned.{owned_load}
use Rattle.load.proofs.Stays.{local_load, stays}

pub keeps_others : KeepsOthers
keeps_others c s k i o = (local_load c).frame s k i o

pub reads_own : ReadsOwn
reads_own c s u l a = (local_load c).agree s u l a

pub guards_idle : GuardsIdle
unfolding load load_unguarded
guards_idle c s h = owned_run (owns (tile_of c)) (load_tmvs (tile_of c) c) (owned_load c s (passed c s h)) s

pub answers_stay_so : AnswersStay
answers_stay_so cs s = answers_stay answer load (λ c. c.col_start) stays cs s s (λ d. refl)

pub none_is_refused : NoneRefused
none_is_refused = none_refused answer load (λ c. c.col_start) stays

-- ---- tiles with no common column have no common block: a block's first column would be common

-- a tile's block begins in the tile
block_in : (t : Geometry) → Sound t → (n : ℕ) → own_block t n ≡ true → (t.left ≤ (n - 1) * t.block) × ((n - 1) * t.block < t.right)
block_in t k n h =
    let b = mine_bounds t n h in (
      sides t k (λ B s. t.left / B + 1 ≤ n → t.left % B ≡ 0 → t.left ≤ (n - 1) * B) (λ p q. omega arith) (λ p q. omega arith) (λ p q. omega arith) (λ p q. omega arith) b.0 k.start,
      sides t k (λ B s. n ≤ (t.right - 1) / B + 1 → t.left < t.right → (n - 1) * B < t.right) (λ p q. omega arith) (λ p q. omega arith) (λ p q. omega arith) (λ p q. omega arith) b.1 k.some,
    )

-- two calls that are apart, each with sound numbers
record Both (c d : Call) : Type 0 where
  apart : Apart c d
  left : Sound (tile_of c)
  right : Sound (tile_of d)

module _ (c d : Call) (b : Both c d) where
  same_block : (tile_of c).block ≡ (tile_of d).block
  unfolding tile_of
  same_block = rw (b.apart.code, b.apart.step)

  same_stride : (tile_of c).stride ≡ (tile_of d).stride
  unfolding tile_of
  same_stride = rw b.apart.width

  same_plane : row_cells (tile_of c) ≡ row_cells (tile_of d)
  unfolding row_cells tile_of
  same_plane = rw (b.apart.code, b.apart.width)

  not_both : (n : ℕ) → own_block (tile_of c) n ≡ true → own_block (tile_of d) n ≡ false
  unfolding tile_of
  not_both n h = go (own_block (tile_of d) n) refl
    where
      go : (e : Bool) → own_block (tile_of d) n ≡ e → e ≡ false
      go true e =
          let p = block_in (tile_of c) b.left n h in
          let q = block_in (tile_of d) b.right n e in
          let m : (n - 1) * (tile_of c).block ≡ (n - 1) * (tile_of d).block = ap (λ (B : ℕ). (n - 1) * B) same_block in
          absurd (b.apart.columns ((n - 1) * (tile_of c).block) p.0 p.1 (omega (arith, q.0, m)) (omega (arith, q.1, m)))
      go false e = refl

  same_col : (i : ℕ) → i % (tile_of c).stride / (tile_of c).block ≡ i % (tile_of d).stride / (tile_of d).block
  same_col i = ap (λ (B : ℕ). i % (tile_of c).stride / B) same_block ∙ ap (λ (w : ℕ). i % w / (tile_of d).block) same_stride

  -- a cell of both would be of block n of c and of block m of d, which is the same
  apart_at : (p q : Bool) (n m : ℕ) → n ≡ m → (p && own_block (tile_of c) n) ≡ true → (q && own_block (tile_of d) m) ≡ false
  apart_at p q n m e h =
      and_false_right q (own_block (tile_of d) m) (subst (λ (j : ℕ). own_block (tile_of d) j ≡ false) e (not_both n (and_both p (own_block (tile_of c) n) h).1))

  own_apart : (k : Kind) (i : ℕ) → owns (tile_of c) k i ≡ true → owns (tile_of d) k i ≡ false
  unfolding owns
  own_apart field_mvs i h = apart_at (ltb i ((tile_of c).offset + row_cells (tile_of c))) (ltb i ((tile_of d).offset + row_cells (tile_of d))) _ _ (ap (λ (j : ℕ). j + 1) (same_col i)) h
  own_apart field_refs i h = apart_at (ltb i ((tile_of c).offset + row_cells (tile_of c))) (ltb i ((tile_of d).offset + row_cells (tile_of d))) _ _ (ap (λ (j : ℕ). j + 1) (same_col i)) h
  own_apart trajs i h = apart_at (ltb i (7 * row_cells (tile_of c))) (ltb i (7 * row_cells (tile_of d))) _ _ (ap (λ (j : ℕ). j + 1) (same_col i)) h
  own_apart maps i h =
      apart_at (ltb i (21 * row_cells (tile_of c))) (ltb i (21 * row_cells (tile_of d))) _ _
      (ap (λ (j : ℕ). j + i / (7 * row_cells (tile_of c))) (same_col i) ∙ ap (λ (P : ℕ). i % (tile_of d).stride / (tile_of d).block + i / (7 * P)) same_plane) h

commute : (c d : Call) (s : Store) → Both c d → load d (load c s) ≡ load c (load d s)
commute c d s b = local_comm (owns (tile_of c)) (owns (tile_of d)) (own_apart c d b) (load c) (load d) (local_load c) (local_load d) s

accepted_sound : (c : Call) (s : Store) → accepted answer load s c ≡ true → Sound (tile_of c)
accepted_sound c s h =
    let p = passed c s (eqb-true (answer c s) 0 h) in
    sound c (in_range c.setup p.setup) (columns c p.tile)

pub order_of_loads : OrderOfLoads
order_of_loads cs s a =
    order answer load (λ c. c.col_start) stays Both commute cs s
    (pairs_map (λ c. accepted answer load s c ≡ true) Apart Both (keep (accepted answer load s) cs)
    (λ c d p q r. record { apart = r; left = accepted_sound c s p; right = accepted_sound d s q }) (all_keep (accepted answer load s) cs) a)
