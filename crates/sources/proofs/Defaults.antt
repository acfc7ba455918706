-- A source past the end of the array: code and definition read there a source of zeros, with arrays of none and of seven. Its program is the same. Assumes nothing.
use Rattle.std.proofs.Common.{◌≡◌, refl, sym, ap, Bool, true, false, not, ◌&&◌, ◌||◌, true≢false, List, ℕ, zero, suc, ◌+◌, ◌-◌, min, eqb, ℤ, pos, negsuc, neg_ℤ, nat_abs, get_or}
use Rattle.std.proofs.Math.Path.{fun_ext}
use Rattle.intops.specs.Choice.{eq_z}
use Rattle.levels.specs.declared.Mv.{Mv}
use Rattle.mv.specs.Sums.{is_empty}
use Rattle.mv.specs.Packing.{unpacked}
use Rattle.mv.specs.Projection.{scale_mv}
use Rattle.loops.specs.Seven.{seven}
use Rattle.entry.specs.declared.Source.{Source}
use Rattle.frame.specs.Frame.{no_source}
use Rattle.store.specs.Program.{Prog, when, each_by}
use Rattle.tile.specs.Geometry.{Geometry}
use Rattle.project.specs.Project.{saved_at, saved_ref, saved_mv, to_source, to_reference, right_side, takes, put_trajs, put_mv, project_mv, sample, project_source}
use Rattle.project.specs.Tested.{row_fine}
use Rattle.checks.specs.Code.{is_fine}
use Rattle.checks.proofs.Defaults.{same_default, bare}

zeros : (b : ℕ) → get_or (seven (λ m. pos 0)) b (pos 0) ≡ pos 0
zeros zero = refl
zeros (suc zero) = refl
zeros (suc (suc zero)) = refl
zeros (suc (suc (suc zero))) = refl
zeros (suc (suc (suc (suc zero)))) = refl
zeros (suc (suc (suc (suc (suc zero))))) = refl
zeros (suc (suc (suc (suc (suc (suc zero)))))) = refl
zeros (suc (suc (suc (suc (suc (suc (suc b))))))) = refl

module _ (t : Geometry) (traj : Bool) (planes : List ℤ) where
  module _ (b : ℕ) (v : Mv) where
    source_same : to_source no_source b v ≡ to_source bare b v
    unfolding to_source
    source_same = ap (λ (z : ℤ). (scale_mv v (neg_ℤ z)).vector) (zeros b)

    reference_same : to_reference no_source b v ≡ to_reference bare b v
    unfolding to_reference
    reference_same = ap (λ (z : ℤ). (scale_mv v z).vector) (zeros b)

    side_same : right_side no_source b ≡ right_side bare b
    unfolding right_side
    side_same = rw (zeros b)

    takes_same : takes no_source b ≡ takes bare b
    unfolding takes
    takes_same = ap {B = Mv → Mv → Bool} (λ (z : ℤ). λ o r. is_empty o || (not (eq_z (pos 0) (negsuc 0)) && eq_z z (pos 0) && not (eqb (nat_abs r.y) (nat_abs z)))) (zeros b)

    trajs_same : (y x y₁ x₁ : ℕ) → put_trajs t no_source b v y x y₁ x₁ ≡ put_trajs t bare b v y x y₁ x₁
    unfolding put_trajs
    trajs_same y x y₁ x₁ = rw (source_same, reference_same, zeros b)

    put_same : (y x y₁ x₁ : ℕ) → put_mv t traj no_source b v y x y₁ x₁ ≡ put_mv t traj bare b v y x y₁ x₁
    unfolding put_mv
    put_same y x y₁ x₁ = rw (trajs_same y x y₁ x₁, takes_same, zeros b)

    project_same : (y x : ℕ) → project_mv t traj no_source b v y x ≡ project_mv t traj bare b v y x
    unfolding project_mv
    project_same y x = rw (source_same, side_same, put_same y x)

  bare-sample : (y x : ℕ) → sample t traj planes no_source y x ≡ sample t traj planes bare y x
  unfolding sample
  bare-sample y x =
      let b : ℕ = nat_abs (saved_ref planes (saved_at t 0 y x) 0) in
      rw (zeros b, project_same b (unpacked (saved_mv planes (saved_at t 0 y x) 0)).vector y x)

  module _ (present : List Bool) where
    bare_source : project_source t traj present planes bare ≡ project_source t traj present planes no_source
    unfolding project_source
    bare_source =
        ap (λ (f : ℕ → ℕ → Prog). when (not (eq_z (pos 0) (negsuc 31)) && get_or present 0 false)
        (each_by t.step t.top t.bottom (λ y. each_by t.step (t.left - t.edge) (min (t.right + t.edge) t.wide) (λ x. f y x)))) (fun_ext (λ y. fun_ext (λ x. sym (bare-sample y x))))

    pub source_at_lem : (l : List Source) (i : ℕ) → project_source t traj present planes (get_or l i bare) ≡ project_source t traj present planes (get_or l i no_source)
    source_at_lem l i = same_default (project_source t traj present planes) l i bare no_source bare_source

-- the saved blocks of a source that is looked at
pub looked : (t : Geometry) (planes : List ℤ) (present : Bool) (s : Source) → is_fine t planes present s ≡ true → (not (eq_z s.ref2cur (negsuc 31)) && present) ≡ true → row_fine t planes s ≡ true
looked t planes present s = go (eq_z s.ref2cur (negsuc 31)) present
  where
    go : (p q : Bool) → (p || not q || row_fine t planes s) ≡ true → (not p && q) ≡ true → row_fine t planes s ≡ true
    go true q f h = absurd (true≢false (sym h))
    go false false f h = absurd (true≢false (sym h))
    go false true f h = f
