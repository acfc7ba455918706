-- The loops over a source's blocks, as code runs them: what is left from where a loop is, on the parts as they are, is the whole of it on the parts where it began. Assumes nothing.
use Rattle.std.proofs.Common.{◌≡◌, refl, ◌∙◌, Bool, true, false, not, ◌&&◌, List, ℕ, ◌+◌, ◌-◌, ◌*◌, ◌/◌, ◌%◌, ◌≤◌, ◌<◌, min, add-mul, arith, ℤ, negsuc, get_or}
use Rattle.std.proofs.Math.Nat.{add-mod_right}
use Rattle.intops.specs.Choice.{eq_z}
use Rattle.intops.proofs.Tests.{and_false_right}
use Rattle.loops.specs.Over.{span_by}
use Rattle.loops.proofs.Same.{turn_below, turns_past}
use Rattle.loops.proofs.Turns.{turned_by, ended_by}
use Rattle.entry.specs.declared.Source.{Source}
use Rattle.store.specs.declared.Pairs.{Pairs}
use Rattle.store.specs.Lent.{IsSamePairs}
use Rattle.store.specs.Store.{Store}
use Rattle.store.specs.Program.{Prog, run, each_by}
use Rattle.store.proofs.Borrows.{same_pairs, same_pairs_after}
use Rattle.tile.specs.Geometry.{Geometry}
use Rattle.tile.specs.Owner.{owns}
use Rattle.tile.specs.Sound.{Sound}
use Rattle.tile.proofs.Places.{step_some}
use Rattle.field.specs.declared.Field.{Field}
use Rattle.field.specs.Lent.{IsSameField, store_of}
use Rattle.field.proofs.Borrows.{same_field, same_after}
use Rattle.project.specs.Project.{sample, project_source}
use Rattle.project.specs.Tested.{source_in_range}
use Rattle.project.proofs.Tested.{entry_parts, slots_low}
use Rattle.sample.specs.Code.{IsReadable, SameNumbers}

-- the parts of a load that are lent
pub record Parts : Type 0 where
  pub field : Field
  pub trajectories : Pairs ℤ
  pub maps : Pairs ℤ

abbrev pub parts : Field → Pairs ℤ → Pairs ℤ → Parts
parts f ts ms = record { field = f; trajectories = ts; maps = ms }

abbrev pub store : Parts → Store
store p = store_of p.field p.trajectories p.maps

-- the same lists are lent
pub record IsSame (p q : Parts) : Type 0 where
  pub field : IsSameField p.field q.field
  pub trajectories : IsSamePairs p.trajectories q.trajectories
  pub maps : IsSamePairs p.maps q.maps

pub same_parts_after : {p q r : Parts} → IsSame p q → IsSame q r → IsSame p r
same_parts_after h k = record { field = same_after h.field k.field; trajectories = same_pairs_after h.trajectories k.trajectories; maps = same_pairs_after h.maps k.maps }

-- a loop from a up to b at the step
module _ (t : Geometry) (f : ℕ → Prog) (a b : ℕ) where
  abbrev turn : ℕ → Store → Store
  turn i u = run (owns t) (f i) u

  pub record Rest (i : ℕ) (now was : Parts) : Type 0 where
    pub same : IsSame now was
    pub from : a ≤ i
    pub on : i % t.step ≡ 0
    pub left : span_by t.step turn i b (store now) ≡ span_by t.step turn a b (store was)

  -- the loop has been run
  pub record IsDone (now was : Parts) : Type 0 where
    pub same : IsSame now was
    pub stored : store now ≡ run (owns t) (each_by t.step a b f) (store was)

  pub rest_begins : a % t.step ≡ 0 → (p : Parts) → Rest a p p
  rest_begins h p = record { same = record { field = same_field p.field; trajectories = same_pairs p.trajectories; maps = same_pairs p.maps }; from = omega arith; on = h; left = refl }

  module _ (k : Sound t) (i : ℕ) (now was : Parts) (r : Rest i now was) where
    pub rest_turn : (next : Parts) → i < b → IsSame next now → store next ≡ run (owns t) (f i) (store now) → Rest (i + t.step) next was
    rest_turn next h q e =
        record {
          same = same_parts_after q r.same;
          from = omega (arith, r.from);
          on = add-mod_right i t.step ∙ r.on;
          left = turned_by turn t.step b i (store now) (store next) _ (step_some t k) h e r.left;
        }

    pub rest_ends : b ≤ i → IsDone now was
    unfolding span_by
    rest_ends h = record { same = r.same; stored = ended_by turn t.step b i (store now) _ (step_some t k) h r.left }

  -- by the numbers of its turns
  module _ (k : Sound t) (i : ℕ) (now was : Parts) (r : Rest (a + i * t.step) now was) where
    pub counted_turn : (next : Parts) → i < (b - a + (t.step - 1)) / t.step → IsSame next now → store next ≡ run (owns t) (f (a + i * t.step)) (store now) → Rest (a + (i + 1) * t.step) next was
    counted_turn next h q e =
        let p : a + i * t.step + t.step ≡ a + (i + 1) * t.step = omega (arith, add-mul i 1 t.step) in
        rw p at (rest_turn k (a + i * t.step) now was r next (turn_below t.step a b i (step_some t k) h) q e)

    pub counted_ends : (b - a + (t.step - 1)) / t.step ≤ i → IsDone now was
    counted_ends h = rest_ends k (a + i * t.step) now was r (turns_past t.step a b i (step_some t k) h)

-- a row's sampled columns
abbrev pub row : Geometry → Bool → List ℤ → Source → ℕ → ℕ → ℕ → Prog
row t traj planes s a b y = each_by t.step a b (λ x. sample t traj planes s y x)

-- what test 9 says of a source
pub readable : (s : Source) → source_in_range s ≡ true → IsReadable s
readable s h =
    let q = slots_low s h in
    record { slot = q.reference; dir = q.dir; idx = λ b l. (entry_parts s h b l).0; first = λ b l. (entry_parts s h b l).1; second = λ b l. (entry_parts s h b l).2 }

pub same_numbers : (s : Source) → SameNumbers s s
same_numbers s = record { slot = refl; tgt = refl; dir = refl; ref2ref = refl; ref2idx = refl; ref2sf0 = refl; ref2sf1 = refl }

-- a source, on two stores
module _ (t : Geometry) (traj : Bool) (held : List Bool) (planes : List ℤ) (s : Source) (u : Store) where
  skipped : (not (eq_z s.ref2cur (negsuc 31)) && get_or held s.reference.0 false) ≡ false → u ≡ run (owns t) (project_source t traj held planes s) u
  unfolding project_source
  skipped h = rw h

  pub no_plane : get_or held s.reference.0 false ≡ false → u ≡ run (owns t) (project_source t traj held planes s) u
  no_plane h = skipped (and_false_right (not (eq_z s.ref2cur (negsuc 31))) (get_or held s.reference.0 false) h)

  pub too_far : eq_z s.ref2cur (negsuc 31) ≡ true → u ≡ run (owns t) (project_source t traj held planes s) u
  too_far h = skipped (rw h)

  pub source_on : eq_z s.ref2cur (negsuc 31) ≡ false → get_or held s.reference.0 false ≡ true → (a b : ℕ) → a ≡ t.left - t.edge → b ≡ min (t.right + t.edge) t.wide → (u' : Store)
      → u' ≡ run (owns t) (each_by t.step t.top t.bottom (row t traj planes s a b)) u
      → u' ≡ run (owns t) (project_source t traj held planes s) u
  unfolding project_source
  source_on h p a b ae be u' q = q ∙ rw (h, p, ae, be)
