-- The sources of a load one by one, as code has them, on the lists that a load is lent. Assumes nothing.
use Rattle.std.proofs.Common.{◌≡◌, ◌∙◌, Bool, List, ℕ, ℤ}
use Rattle.store.specs.declared.Pairs.{Pairs}
use Rattle.store.specs.Lent.{IsSamePairs}
use Rattle.store.specs.Store.{Store}
use Rattle.store.specs.Program.{Prog, run, each}
use Rattle.store.proofs.Borrows.{same_pairs, same_pairs_after}
use Rattle.store.proofs.Lent.{Lent}
use Rattle.tile.specs.Geometry.{Geometry}
use Rattle.tile.specs.Owner.{owns}
use Rattle.field.specs.declared.Field.{Field}
use Rattle.field.specs.Lent.{IsSameField, store_of}
use Rattle.field.proofs.Borrows.{same_field, same_after}
use Rattle.frame.specs.declared.Sources.{Sources}
use Rattle.project.specs.Project.{project_source}
use Rattle.load.specs.Load.{Call, project_sources}
use Rattle.sources.specs.Code.{nth}

abbrev pub source_at : Geometry → Bool → List Bool → List ℤ → Sources → ℕ → Prog
source_at t traj present planes f n = project_source t traj present planes (nth f n)

-- all of them, of any call that has these sources, slots, switch and planes
pub sources_done : (t : Geometry) (c : Call) (f : Sources) (present : List Bool) (traj : Bool) (planes : List ℤ)
    → c.setup.sources ≡ f → c.setup.rp_ref ≡ present → c.traj ≡ traj → c.planes ≡ planes → (u v : Store)
    → v ≡ run (owns t) (each 0 f.n_mfmvs (source_at t traj present planes f)) u → v ≡ run (owns t) (project_sources t c) u
unfolding project_sources
sources_done t c f present traj planes se pe te le u v e = e ∙ rw (se, pe, te, le)

-- all parts of a store
pub record Parts : Type 0 where
  pub field : Field
  pub trajs : Pairs ℤ
  pub maps : Pairs ℤ

abbrev pub parts : Field → Pairs ℤ → Pairs ℤ → Parts
parts f t m = record { field = f; trajs = t; maps = m }

pub record IsSameParts (l m : Parts) : Type 0 where
  pub field : IsSameField l.field m.field
  pub trajs : IsSamePairs l.trajs m.trajs
  pub maps : IsSamePairs l.maps m.maps

abbrev pub store_in : Parts → Store
store_in l = store_of l.field l.trajs l.maps

pub same_parts : (l : Parts) → IsSameParts l l
same_parts l = record { field = same_field l.field; trajs = same_pairs l.trajs; maps = same_pairs l.maps }

pub same_parts_after : {l m n : Parts} → IsSameParts l m → IsSameParts m n → IsSameParts l n
same_parts_after p q = record { field = same_after p.field q.field; trajs = same_pairs_after p.trajs q.trajs; maps = same_pairs_after p.maps q.maps }

abbrev pub parts_lent : Lent Parts
parts_lent = record { into = λ s l. store_in l; Like = IsSameParts; like_refl = same_parts; like_trans = λ l m n p q. same_parts_after p q }
