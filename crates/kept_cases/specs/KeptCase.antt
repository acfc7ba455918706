-- What a verdict that a kept case agrees says of the numbers that its lines have set. Assumes nothing.
use Rattle.std.specs.Prelude.{◌≡◌, List, ℕ, ℤ, length, get_or}
use Rattle.store.specs.Store.{Store}
use Rattle.load_cases.specs.LoadCase.{Listed, StoreListed, CallAgrees}
use Rattle.pass_cases.specs.PassCase.{PassAgrees}

-- eight lengths
pub record Are (l : List ℕ) (a b c d e f g h : ℕ) : Type 0 where
  pub l0 : get_or l 0 0 ≡ a
  pub l1 : get_or l 1 0 ≡ b
  pub l2 : get_or l 2 0 ≡ c
  pub l3 : get_or l 3 0 ≡ d
  pub l4 : get_or l 4 0 ≡ e
  pub l5 : get_or l 5 0 ≡ f
  pub l6 : get_or l 6 0 ≡ g
  pub l7 : get_or l 7 0 ≡ h

-- a store and planes of these lengths
abbrev pub Long : List ℕ → Store → List ℤ → Type 0
Long l s planes =
    Are l (length s.field_y) (length s.field_x) (length s.field_ref) (length s.traj_y) (length s.traj_x) (length s.map_y) (length s.map_x) (length planes)

-- fourteen numbers ask for a pass, any others for a load; the one that is lent these lists agrees
pub data ListsAgree (setup n planes : List ℤ) (s : Store) (want : List ℤ) : Type 0 where
  a_pass : length n ≡ 14 → PassAgrees setup n s want → ListsAgree setup n planes s want
  a_load : (length n ≡ 14 → ⊥) → CallAgrees setup n planes s want → ListsAgree setup n planes s want

-- the lists of the case, of the lengths and with the elements that its lines have set; a load or a pass that is lent them agrees
pub record CaseAgrees (lengths : List ℕ) (cells want setup n : List ℤ) : Type 0 where
  pub store : Store
  pub planes : List ℤ
  pub long : Long lengths store planes
  pub listed : StoreListed store cells
  pub planes_listed : Listed planes cells 63512
  pub agrees : ListsAgree setup n planes store want
