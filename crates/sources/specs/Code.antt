-- What the contracts of the loop over a load's sources speak of besides the definitions. Assumes nothing.
use Rattle.std.specs.Prelude.{◌≡◌, Bool, true, false, List, ℕ, ◌≤◌, ◌<◌, ℤ, get_or}
use Rattle.entry.specs.declared.Source.{Source}
use Rattle.frame.specs.declared.Sources.{Sources}
use Rattle.frame.specs.Frame.{no_source}
use Rattle.tile.specs.Geometry.{Geometry}
use Rattle.project.specs.Tested.{source_in_range}
use Rattle.checks.specs.Code.{is_fine}

-- source n of a setup
abbrev pub nth : Sources → ℕ → Source
nth f n = get_or f.mfmv n no_source

-- of each source that is counted: it is in range (test 9), and its saved blocks are fine where it is looked at (test 12)
pub record SourcesFine (t : Geometry) (present : List Bool) (planes : List ℤ) (f : Sources) : Type 0 where
  pub few : f.n_mfmvs ≤ 4
  pub range : (n : ℕ) → n < f.n_mfmvs → source_in_range (nth f n) ≡ true
  pub blocks : (n : ℕ) → n < f.n_mfmvs → is_fine t planes (get_or present (nth f n).reference.0 false) (nth f n) ≡ true
