-- The ways through the programs of a landed vector, as code has them: the numbers that it computed are given by their equations, and so is what its callee ensures. Assumes nothing.
use Rattle.std.proofs.Common.{◌≡◌, refl, sym, ap, ◌∙◌, Bool, true, false, not, cond, ◌&&◌, ◌||◌, eqb, ℕ, ◌+◌, ◌-◌, ◌/◌, ℤ, pos, negsuc, nat_abs, ◌-ℤ◌, get_or}
use lib.Signed.{lt_z}
use Rattle.intops.specs.Choice.{eq_z}
use Rattle.levels.specs.declared.Mv.{Mv}
use Rattle.mv.specs.Sums.{is_empty}
use Rattle.mv.specs.Projection.{scale_mv}
use Rattle.entry.specs.declared.Source.{Source}
use Rattle.store.specs.declared.Pairs.{Pairs}
use Rattle.store.specs.Lent.{with_trajs, with_maps, stored_trajs}
use Rattle.store.specs.Store.{Store, field_mvs, field_refs, trajs, maps, vec, byte_cell, wr}
use Rattle.store.specs.Program.{Prog, run, write, cell, when, ◌>>=◌, ◌>>◌}
use Rattle.tile.specs.Geometry.{Geometry}
use Rattle.tile.specs.Layout.{field_at, traj_at, map_at}
use Rattle.tile.specs.Owner.{own_block, owns}
use Rattle.tile.specs.Sound.{Sound}
use Rattle.tile.proofs.Owner.{own_cell}
use Rattle.field.specs.declared.Field.{Field}
use Rattle.field.specs.Field.{put}
use Rattle.field.specs.Lent.{stored, store_of, vector_in}
use Rattle.traj.specs.Traj.{clipped, turned, enter_end}
use Rattle.landing.specs.Entries.{SaysSame}
use Rattle.project.specs.Project.{ref2ref, ref2idx, to_source, to_reference, takes, put_trajs, put_mv}

pub traj_on : (t : Geometry) (p i : ℕ) (v w : Mv) → p ≡ i → v ≡ w → owns t trajs i ≡ true → (s : Store) → wr s trajs p v ≡ run (owns t) (write trajs i w) s
traj_on t p i v w pe ve o s = rw (pe, ve, o)

module _ (t : Geometry) (v : Mv) (y x y₁ x₁ : ℕ) (s : Source) (b : ℕ) where
  -- the trajectory of slot n, and the saved block's place in the map
  abbrev first : ℕ → Mv → Prog
  first n w = write trajs (traj_at t n y₁ x₁) (clipped 2047 w)

  abbrev placed : ℕ → Prog
  placed n = write maps (map_at t (x₁ / t.block + 1 - x / t.block) n y x) (vec (pos y₁ -ℤ pos y) (pos x₁ -ℤ pos x))

  -- what a call that stores in the trajectories ensures, and one that stores in the maps
  abbrev pub Trajs : Prog → Pairs ℤ → Pairs ℤ → Type 0
  Trajs p f g = (u : Store) → with_trajs u g ≡ run (owns t) p (with_trajs u f)

  abbrev pub Maps : Prog → Pairs ℤ → Pairs ℤ → Type 0
  Maps p f g = (u : Store) → with_maps u g ≡ run (owns t) p (with_maps u f)

  -- one after the other
  both : (p q : Prog) (f m f' m' : Pairs ℤ) → Trajs p f f' → Maps q m m' → (u : Store) → stored_trajs u f' m' ≡ run (owns t) q (run (owns t) p (stored_trajs u f m))
  both p q f m f' m' h k u = k (stored_trajs u f' m) ∙ ap (run (owns t) q) (h (stored_trajs u f m))

  module _ (n : ℕ) (w : Mv) (ne : n ≡ s.reference.0) (we : w ≡ to_source s b v) (f m f₁ m₁ : Pairs ℤ) (h : Trajs (first n w) f f₁) (k : Maps (placed n) m m₁) where
    pub trajs_one : lt_z (ref2idx s b) (pos 0) ≡ true → (u : Store) → stored_trajs u f₁ m₁ ≡ run (owns t) (put_trajs t s b v y x y₁ x₁) (stored_trajs u f m)
    unfolding put_trajs
    trajs_one l u = both (first n w) (placed n) f m f₁ m₁ h k u ∙ rw (ne, we, l)

    pub trajs_two : (i : ℕ) (w₂ : Mv) → lt_z (ref2idx s b) (pos 0) ≡ false → nat_abs (ref2idx s b) ≡ i → w₂ ≡ to_reference s b v → (f₂ m₂ : Pairs ℤ)
        → Trajs (first i w₂) f₁ f₂ → Maps (enter_end t i y₁ x₁ y x v) m₁ m₂ → (u : Store) → stored_trajs u f₂ m₂ ≡ run (owns t) (put_trajs t s b v y x y₁ x₁) (stored_trajs u f m)
    unfolding put_trajs
    trajs_two i w₂ l ie w₂e f₂ m₂ h₂ k₂ u =
        both (first i w₂) (enter_end t i y₁ x₁ y x v) f₁ m₁ f₂ m₂ h₂ k₂ u
        ∙ ap (λ (z : Store). run (owns t) (enter_end t i y₁ x₁ y x v) (run (owns t) (first i w₂) z)) (both (first n w) (placed n) f m f₁ m₁ h k u)
        ∙ rw (ne, we, l, ie, w₂e)

-- a vector at (y₁, x₁), on all the parts
module _ (t : Geometry) (k : Sound t) (traj : Bool) (v : Mv) (y x y₁ x₁ : ℕ) (m : own_block t (x₁ / t.block + 1) ≡ true) (s : Source) (b : ℕ) (f : Field) (ts ms : Pairs ℤ)
    (i : ℕ) (at : i ≡ field_at t y₁ x₁) where
  abbrev taken : Bool
  taken = takes s b (vector_in f i) (byte_cell (get_or f.reference.now i 0))

  pub mv_off : taken ≡ false → store_of f ts ms ≡ run (owns t) (put_mv t traj s b v y x y₁ x₁) (store_of f ts ms)
  unfolding put_mv
  mv_off h = let o = own_cell t k y₁ x₁ m in rw (o.0, o.1, rw at at h)

  pub mv_on : taken ≡ true → (f' : Field) (ts' ms' : Pairs ℤ)
      → ((u : Store) → stored_trajs u ts' ms' ≡ run (owns t) (when traj (put_trajs t s b v y x y₁ x₁)) (stored_trajs u ts ms))
      → (v' : Mv) (r : ℕ) → v' ≡ cond (lt_z (ref2ref s b) (pos 0)) (turned v) v → r ≡ nat_abs (ref2ref s b)
      → ((u : Store) → stored u f' ≡ wr (wr (stored u f) field_mvs i v') field_refs i (byte_cell r))
      → store_of f' ts' ms' ≡ run (owns t) (put_mv t traj s b v y x y₁ x₁) (store_of f ts ms)
  unfolding put_mv
  mv_on h f' ts' ms' p v' r ve re q =
      let o = own_cell t k y₁ x₁ m in
      let g = λ (u : Store). wr (wr u field_mvs i v') field_refs i (byte_cell r) in
      q (store_of f ts' ms')
      ∙ ap g (p (store_of f ts ms))
      ∙ rw (o.0, o.1, rw at at h, ← at, ← ve, ← re)

-- what a landed vector leaves, of what a source says of the reference: the slot, the target, which slot the reference is, how far it is, the vector as a trajectory of the source's slot, and the factor of one of the reference's
unfoldable out : Geometry → Bool → Mv → ℕ → ℕ → ℕ → ℕ → ℕ → ℤ → ℤ → ℤ → Mv → ℤ → Prog
out t traj v y x y₁ x₁ n g i d w f = do
  old ← cell field_mvs (field_at t y₁ x₁)
  old_ref ← cell field_refs (field_at t y₁ x₁)
  when (is_empty old || (not (eq_z g (negsuc 0)) && eq_z i g && not (eqb (nat_abs old_ref.y) (nat_abs d)))) do
    when traj do
      write trajs (traj_at t n y₁ x₁) (clipped 2047 w)
      write maps (map_at t (x₁ / t.block + 1 - x / t.block) n y x) (vec (pos y₁ -ℤ pos y) (pos x₁ -ℤ pos x))
      when (not (lt_z i (pos 0))) do
        write trajs (traj_at t (nat_abs i) y₁ x₁) (clipped 2047 (scale_mv v f).vector)
        enter_end t (nat_abs i) y₁ x₁ y x v
    put (field_at t y₁ x₁) (cond (lt_z d (pos 0)) (turned v) v) (nat_abs d)

module _ (t : Geometry) (traj : Bool) (v : Mv) (y x y₁ x₁ : ℕ) where
  out_is : (s : Source) (b : ℕ) → put_mv t traj s b v y x y₁ x₁ ≡ out t traj v y x y₁ x₁ s.reference.0 s.tgt (ref2idx s b) (ref2ref s b) (to_source s b v) (get_or s.ref2sf1 b (pos 0))
  unfolding put_mv put_trajs takes to_reference out
  out_is s b = refl

  -- a landed vector's program depends on what the source says of the reference alone
  pub same_put : (u : Source) (b : ℕ) (s : Source) (n : ℕ) → SaysSame v u b s n → put_mv t traj u b v y x y₁ x₁ ≡ put_mv t traj s n v y x y₁ x₁
  same_put u b s n h =
      let o = out t traj v y x y₁ x₁ in let m = s.reference.0 in let g = s.tgt in let f = get_or u.ref2sf1 b (pos 0) in
      out_is u b
      ∙ ap (λ (k : ℕ). o k u.tgt (ref2idx u b) (ref2ref u b) (to_source u b v) f) h.slot
      ∙ ap (λ (k : ℤ). o m k (ref2idx u b) (ref2ref u b) (to_source u b v) f) h.tgt
      ∙ ap (λ (k : ℤ). o m g k (ref2ref u b) (to_source u b v) f) h.idx
      ∙ ap (λ (k : ℤ). o m g (ref2idx s n) k (to_source u b v) f) h.distance
      ∙ ap (λ (k : Mv). o m g (ref2idx s n) (ref2ref s n) k f) h.vector
      ∙ ap (λ (k : ℤ). o m g (ref2idx s n) (ref2ref s n) (to_source s n v) k) h.factor
      ∙ sym (out_is s n)
