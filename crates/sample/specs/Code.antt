-- What the contracts of the code speak of besides the definitions. Assumes nothing.
use Rattle.std.specs.Prelude.{◌≡◌, true, ℕ, ◌<◌, pos, negsuc, get_or}
use Rattle.intops.specs.Bounds.{Within}
use Rattle.entry.specs.declared.Source.{Source}
use Rattle.project.specs.Project.{ref2idx}
use Rattle.project.specs.Tested.{within}

-- sources that differ in their distance from the frame at most: slot, target and direction are the same, and the lists of what each says of its references
pub record SameNumbers (s u : Source) : Type 0 where
  pub slot : s.reference.0 ≡ u.reference.0
  pub tgt : s.tgt ≡ u.tgt
  pub dir : s.dir ≡ u.dir
  pub ref2ref : s.ref2ref ≡ u.ref2ref
  pub ref2idx : s.ref2idx ≡ u.ref2idx
  pub ref2sf0 : s.ref2sf0 ≡ u.ref2sf0
  pub ref2sf1 : s.ref2sf1 ≡ u.ref2sf1

-- a source's slot and direction, and what it says of each reference, are in range (test 9)
pub record IsReadable (s : Source) : Type 0 where
  pub slot : s.reference.0 < 7
  pub dir : s.dir < 2
  pub idx : (b : ℕ) → b < 7 → within (negsuc 0) (pos 6) (ref2idx s b) ≡ true
  pub first : (b : ℕ) → b < 7 → Within 507904 (get_or s.ref2sf0 b (pos 0))
  pub second : (b : ℕ) → b < 7 → Within 507904 (get_or s.ref2sf1 b (pos 0))
