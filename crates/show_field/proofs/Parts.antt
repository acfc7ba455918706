-- What the functions work out, as the definitions have it. Assumes nothing.
use Rattle.std.proofs.Common.{Bool, List, Result, Ok, Err, ◌≡◌, refl, ap, ℕ, ℤ}
use Rattle.frame.specs.declared.Frame.{Frame}
use Rattle.frame.specs.declared.Header.{Header}
use Rattle.levels.specs.declared.Refusal.{Refusal}
use Rattle.levels.specs.Answer.{number_of}
use Rattle.frame.specs.Frame.{SaidSetup, says_setup, setup_of}
use Rattle.load.specs.Load.{wide_of, high_of, stride_of}
use Rattle.framefile.specs.File.{byte_at, is_on, header_of, present_of, ends_of, plane_at, put_planes}
use Rattle.loads.specs.Frame.{frame_calls, until_refused}
use Rattle.show_field.specs.Shown.{columns_of, setup_number, file_frame, end_of, bad_columns, no_planes, planes_of, empty_store, loaded_of}

module _ (b : List ℕ) (f : Frame) (fe : f ≡ file_frame b) where
  pub planes_as : (present : List Bool) (n wide high stride : ℕ) (none : List ℤ) → present ≡ present_of b → n ≡ columns_of b → wide ≡ wide_of f → high ≡ high_of f → stride ≡ stride_of f → none ≡ no_planes
      → put_planes b present n wide high stride none ≡ planes_of b
  unfolding planes_of
  planes_as present n wide high stride none he ne we ge se ze = rw (he, ne, we, ge, se, ze, fe) refl

  pub loaded_as : (traj holes : Bool) (planes : List ℤ) (ends : List ℕ) → traj ≡ is_on (byte_at b 100) → holes ≡ is_on (byte_at b 101) → planes ≡ planes_of b → ends ≡ ends_of b (columns_of b)
      → until_refused (frame_calls f traj holes planes ends) empty_store ≡ loaded_of b
  unfolding loaded_of
  loaded_as traj holes planes ends te he pe ee = rw (te, he, pe, ee, fe) refl

  pub end_as : (present : List Bool) (n wide high : ℕ) → present ≡ present_of b → n ≡ columns_of b → wide ≡ wide_of f → high ≡ high_of f → plane_at present n wide high 7 ≡ end_of b
  end_as present n wide high he ne we ge = rw (he, ne, we, ge, fe) refl

  pub columns_as : (n wide : ℕ) → n ≡ columns_of b → wide ≡ wide_of f → bad_columns b n wide ≡ bad_columns b (columns_of b) (wide_of (file_frame b))
  columns_as n wide ne we = rw (ne, we, fe) refl

-- the header's setup, refused or made
pub refused_as : (b : List ℕ) (h : Header) (r : Result Frame Refusal) (e : Refusal) → r ≡ Err e → h ≡ header_of b → says_setup r ≡ setup_of h → number_of e ≡ setup_number b
refused_as b h r e p he q = let w = rw he at (rw p at q) in ap (λ (s : SaidSetup). s.refusal) w

pub setup_as : (b : List ℕ) (h : Header) (r : Result Frame Refusal) (f : Frame) → r ≡ Ok f → h ≡ header_of b → says_setup r ≡ setup_of h → (0 ≡ setup_number b) × (f ≡ file_frame b)
setup_as b h r f p he q = let w = rw he at (rw p at q) in (ap (λ (s : SaidSetup). s.refusal) w, ap (λ (s : SaidSetup). s.frame) w)
