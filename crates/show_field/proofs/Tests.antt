-- Which problem a file has, test by test. Assumes nothing.
use Rattle.std.proofs.Common.{true, false, Some, None, Result, Ok, Err, List, ◌≡◌, refl, ap, ◌∙◌, arith, ℕ, ◌≤◌, ◌<◌, length, lt-ltb, le-ltb, eq-eqb, ne_eqb}
use Rattle.std.specs.Prelude.{⊤}
use Rattle.levels.specs.declared.Refusal.{Refusal}
use Rattle.levels.specs.declared.Refusal.TheVariants.{VectorOutOfRange, HalfMark, TooManyBits, TooManySlots, BadSuperblock, BadStep, BadSize, BadTipSlot, SetupOutOfRange, TileOutOfRange, TooShort as Short, ContentsOutOfRange}
use Rattle.levels.specs.Answer.{number_of, refusal_of}
use Rattle.levels.proofs.Refusals.{number_pos}
use Rattle.load.specs.Load.{wide_of}
use Rattle.framefile.specs.File.{is_frame_file}
use Rattle.show_field.specs.declared.problems.Problem.TheVariants.{TooShort, NotAFrameFile, Setup, TooLarge, TileColumns, TooLong, Load}
use Rattle.show_field.specs.Shown.{columns_of, setup_number, file_frame, end_of, bad_columns, loaded_of, said_of, load_problem, rest_problem, problem_of}

module _ (b : List ℕ) where
  -- the head
  pub head_short : length b < 103 → problem_of b ≡ Some TooShort
  unfolding problem_of
  head_short h = rw (lt-ltb (length b) 103 h) refl

  module _ (long : 103 ≤ length b) where
    pub no_file : is_frame_file b ≡ false → problem_of b ≡ Some NotAFrameFile
    unfolding problem_of
    no_file h = rw (le-ltb (length b) 103 long, h) refl

    module _ (file : is_frame_file b ≡ true) where
      pub no_setup : (setup_number b ≡ 0 → ⊥) → problem_of b ≡ Some (Setup (said_of (setup_number b)))
      unfolding problem_of
      no_setup h = rw (le-ltb (length b) 103 long, file, ne_eqb (setup_number b) 0 h) refl

      module _ (setup : setup_number b ≡ 0) where
        pub too_wide : 2048 < (file_frame b).width → problem_of b ≡ Some TooLarge
        unfolding problem_of
        too_wide h = rw (le-ltb (length b) 103 long, file, eq-eqb (setup_number b) 0 setup, lt-ltb 2048 (file_frame b).width h) refl

        pub too_high : (file_frame b).width ≤ 2048 → 2048 < (file_frame b).height → problem_of b ≡ Some TooLarge
        unfolding problem_of
        too_high w h = rw (le-ltb (length b) 103 long, file, eq-eqb (setup_number b) 0 setup, le-ltb 2048 (file_frame b).width w, lt-ltb 2048 (file_frame b).height h) refl

        pub head_fine : (file_frame b).width ≤ 2048 → (file_frame b).height ≤ 2048 → problem_of b ≡ rest_problem b
        unfolding problem_of
        head_fine w h = rw (le-ltb (length b) 103 long, file, eq-eqb (setup_number b) 0 setup, le-ltb 2048 (file_frame b).width w, le-ltb 2048 (file_frame b).height h) refl

  -- what is behind it
  pub rest_short : length b < end_of b → rest_problem b ≡ Some TooShort
  unfolding rest_problem
  rest_short h = rw (lt-ltb (length b) (end_of b) h) refl

  module _ (whole : end_of b ≤ length b) where
    pub rest_columns : bad_columns b (columns_of b) (wide_of (file_frame b)) ≡ true → rest_problem b ≡ Some TileColumns
    unfolding rest_problem
    rest_columns h = rw (le-ltb (length b) (end_of b) whole, h) refl

    module _ (columns : bad_columns b (columns_of b) (wide_of (file_frame b)) ≡ false) where
      pub rest_long : end_of b < length b → rest_problem b ≡ Some TooLong
      unfolding rest_problem
      rest_long h = rw (le-ltb (length b) (end_of b) whole, columns, lt-ltb (end_of b) (length b) h) refl

      pub rest_fine : length b ≤ end_of b → rest_problem b ≡ load_problem b
      unfolding rest_problem
      rest_fine h = rw (le-ltb (length b) (end_of b) whole, columns, le-ltb (end_of b) (length b) h) refl

  -- the loads
  pub load_refused : (n : ℕ) → n ≡ (loaded_of b).number → (n ≡ 0 → ⊥) → load_problem b ≡ Some (Load (said_of n))
  unfolding load_problem
  load_refused n e h = rw (← e, ne_eqb n 0 h) refl

  pub load_fine : (n : ℕ) → n ≡ (loaded_of b).number → n ≡ 0 → load_problem b ≡ None
  unfolding load_problem
  load_fine n e h = rw (← e, eq-eqb n 0 h) refl

-- an answer by its number
pub said_as : (s : Refusal) → said_of (number_of s) ≡ s
said_as VectorOutOfRange = refl
said_as HalfMark = refl
said_as TooManyBits = refl
said_as TooManySlots = refl
said_as BadSuperblock = refl
said_as BadStep = refl
said_as BadSize = refl
said_as BadTipSlot = refl
said_as SetupOutOfRange = refl
said_as TileOutOfRange = refl
said_as Short = refl
said_as ContentsOutOfRange = refl

-- the problem of the loads, by their answer
module _ (b : List ℕ) (r : Result ⊤ Refusal) (n : refusal_of r ≡ (loaded_of b).number) where
  pub loads_fine : (t : ⊤) → r ≡ Ok t → load_problem b ≡ None
  loads_fine t p = load_fine b 0 (rw p at n) refl

  pub loads_refused : (e : Refusal) → r ≡ Err e → load_problem b ≡ Some (Load e)
  loads_refused e p = load_refused b (number_of e) (rw p at n) (λ z. omega (arith, number_pos e, z)) ∙ ap (λ (s : Refusal). Some (Load s)) (said_as e)
