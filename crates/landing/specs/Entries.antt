-- What a source says of a reference: its ranges, and when another source says the same. Assumes nothing.
use Rattle.std.specs.Prelude.{ℕ, ◌<◌, ◌≡◌, pos, nat_abs, get_or}
use Rattle.intops.specs.Bounds.{Within}
use Rattle.entry.specs.declared.Source.{Source}
use Rattle.levels.specs.declared.Mv.{Mv}
use Rattle.project.specs.Project.{ref2ref, ref2idx, to_source}

-- the source's slot and the one that its reference b is, if any, are slots of the store, and the factor of a trajectory to that slot is in range
pub record IsLinked (s : Source) (b : ℕ) : Type 0 where
  pub slot : s.reference.0 < 7
  pub idx : nat_abs (ref2idx s b) < 7
  pub second : Within 507904 (get_or s.ref2sf1 b (pos 0))

-- of a vector v source u says of its reference b what source s says of its reference n: the slot and the target, how far the reference is and which slot it is, v as a trajectory of the source's slot, and the factor that makes it one of the reference's
pub record SaysSame (v : Mv) (u : Source) (b : ℕ) (s : Source) (n : ℕ) : Type 0 where
  pub slot : u.reference.0 ≡ s.reference.0
  pub tgt : u.tgt ≡ s.tgt
  pub distance : ref2ref u b ≡ ref2ref s n
  pub idx : ref2idx u b ≡ ref2idx s n
  pub vector : to_source u b v ≡ to_source s n v
  pub factor : get_or u.ref2sf1 b (pos 0) ≡ get_or s.ref2sf1 n (pos 0)
