-- What the contracts of the tests speak of besides the definitions. Assumes nothing.
use Rattle.std.specs.Prelude.{◌≡◌, Bool, false, not, ◌||◌, List, ℕ, ◌+◌, ◌-◌, ◌*◌, ◌/◌, ◌≤◌, ℤ, negsuc, length, get_or}
use Rattle.intops.specs.Choice.{eq_z}
use Rattle.entry.specs.declared.Source.{Source}
use Rattle.frame.specs.declared.Frame.{Frame}
use Rattle.frame.specs.Frame.{no_source}
use Rattle.store.specs.Store.{Store}
use Rattle.tile.specs.Geometry.{Geometry}
use Rattle.project.specs.Project.{saved_at, saved_ref, saved_mv}
use Rattle.project.specs.Tested.{all_below, block_fine, row_fine}
use Rattle.checks.specs.declared.Lengths.{Lengths}

-- the lengths of the lists of which no test reads more
pub record AreLengths (l : Lengths) (s : Store) : Type 0 where
  pub field_y : length s.field_y ≡ l.field_y
  pub field_x : length s.field_x ≡ l.field_x
  pub field_ref : length s.field_ref ≡ l.field_ref
  pub map_y : length s.map_y ≡ l.map_y
  pub map_x : length s.map_x ≡ l.map_x

-- seven planes of H × stride blocks of six bytes
abbrev pub PlanesHeld : Geometry → List ℤ → Type 0
PlanesHeld t planes = 6 * (7 * (t.high * t.stride)) ≤ length planes

-- the sampled blocks of row y of a slot's plane, in one direction
abbrev pub line_fine : Geometry → List ℤ → ℕ → ℕ → ℕ → Bool
line_fine t planes slot dir y =
    all_below ((t.wide + (t.step - 1)) / t.step) (λ i.
    let at = saved_at t slot y (i * t.step) in
    block_fine (saved_ref planes at dir) (saved_mv planes at dir))

-- test 12 of a source whose plane is present or not, and of source n
abbrev pub is_fine : Geometry → List ℤ → Bool → Source → Bool
is_fine t planes present s = eq_z s.ref2cur (negsuc 31) || not present || row_fine t planes s

abbrev pub fine_at : Geometry → List ℤ → Frame → ℕ → Bool
fine_at t planes f n = let s = get_or f.sources.mfmv n no_source in is_fine t planes (get_or f.rp_ref s.reference.0 false) s
