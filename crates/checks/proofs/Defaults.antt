-- A source past the end of the array: code and definition read there a source of zeros, with arrays of none and of seven. Assumes nothing.
use Rattle.std.proofs.Common.{◌≡◌, refl, Bool, false, List, [], ◌∷◌, ℕ, zero, suc, ℤ, pos, get_or}
use Rattle.entry.specs.declared.Source.{Source}
use Rattle.frame.specs.Frame.{no_source}
use Rattle.tile.specs.Geometry.{Geometry}
use Rattle.project.specs.Tested.{all_below, source_in_range, row_fine}
use Rattle.checks.specs.Code.{is_fine}

pub same_default : {A B : Type 0} (g : A → B) (l : List A) (i : ℕ) (a b : A) → g a ≡ g b → g (get_or l i a) ≡ g (get_or l i b)
same_default g [] i a b e = e
same_default g (x ∷ l) zero a b e = refl
same_default g (x ∷ l) (suc i) a b e = same_default g l i a b e

abbrev pub bare : Source
bare = record { reference = record { 0 = 0 }; tgt = pos 0; dir = 0; ref2cur = pos 0; ref2ref = []; ref2idx = []; ref2sf0 = []; ref2sf1 = [] }

bare_in_range : source_in_range bare ≡ source_in_range no_source
unfolding source_in_range all_below
bare_in_range = refl

pub in_range_at : (l : List Source) (i : ℕ) → source_in_range (get_or l i bare) ≡ source_in_range (get_or l i no_source)
in_range_at l i = same_default source_in_range l i bare no_source bare_in_range

module _ (t : Geometry) (planes : List ℤ) (present : List Bool) where
  abbrev test : Source → Bool
  test s = is_fine t planes (get_or present s.reference.0 false) s

  bare_fine : test bare ≡ test no_source
  unfolding row_fine
  bare_fine = refl

  pub fine_default : (l : List Source) (i : ℕ) → test (get_or l i bare) ≡ test (get_or l i no_source)
  fine_default l i = same_default test l i bare no_source bare_fine
