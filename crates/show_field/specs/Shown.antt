-- What is made of a frame file (docs/FRAME_FILE.md), by its bytes: the field, or why it cannot be shown. Assumes nothing.
use Rattle.std.specs.Prelude.{Result, MatchResult, Option, Some, None, ◌⊎◌, Bool, not, cond, ◌||◌, List, ◌≡◌, ℕ, ◌-◌, ◌≤◌, eqb, ltb, ℤ, pos, length, replicate}
use Rattle.std.specs.Io.KnownBytes.{Appends}
use Rattle.levels.specs.Vector.{empty}
use Rattle.frame.specs.declared.Frame.{Frame}
use Rattle.levels.specs.declared.Refusal.{Refusal}
use Rattle.levels.specs.declared.Refusal.TheVariants.{VectorOutOfRange, HalfMark, TooManyBits, TooManySlots, BadSuperblock, BadStep, BadSize, BadTipSlot, SetupOutOfRange, TileOutOfRange, TooShort as Short, ContentsOutOfRange}
use Rattle.frame.specs.Frame.{setup_of}
use Rattle.field.specs.declared.Field.{Field}
use Rattle.store.specs.Store.{Store, pack, no_map}
use Rattle.load.specs.Load.{wide_of, high_of, stride_of}
use Rattle.framefile.specs.File.{byte_at, is_on, header_of, is_frame_file, present_of, end_at, ends_of, plane_at, put_planes}
use Rattle.loads.specs.Frame.{After, frame_calls, until_refused}
use Rattle.show_field.specs.declared.Wanted.{Wanted}
use Rattle.show_field.specs.declared.problems.Problem.{Problem}
use Rattle.show_field.specs.declared.problems.Problem.TheVariants.{TooShort, NotAFrameFile, Setup, TooLarge, TileColumns, TooLong, Load, NotWritten}
use Rattle.show_field.specs.Output.{parts_of, output}

-- N, the number of tile columns
abbrev pub columns_of : List ℕ → ℕ
columns_of b = byte_at b 102

-- the number of the setup's refusal, or 0; and the frame that the header sets up, all zeros where it is refused
abbrev pub setup_number : List ℕ → ℕ
setup_number b = (setup_of (header_of b)).refusal

abbrev pub file_frame : List ℕ → Frame
file_frame b = (setup_of (header_of b)).frame

-- "the file ends with the last plane"
abbrev pub end_of : List ℕ → ℕ
end_of b = plane_at (present_of b) (columns_of b) (wide_of (file_frame b)) (high_of (file_frame b)) 7

-- "no tile columns, or the last end is not W"
abbrev pub bad_columns : List ℕ → ℕ → ℕ → Bool
bad_columns b n wide = eqb n 0 || not (eqb (end_at b (n - 1)) wide)

-- 2752512 bytes: room for seven planes of 256 x 256 blocks
unfoldable pub no_planes : List ℤ
no_planes = replicate 2752512 (pos 0)

-- the file's planes there. Bytes that no plane fills are 0
unfoldable pub planes_of : List ℕ → List ℤ
planes_of b = put_planes b (present_of b) (columns_of b) (wide_of (file_frame b)) (high_of (file_frame b)) (stride_of (file_frame b)) no_planes

-- "The store is empty before the first load": a field of 256 x 256 cells, seven times 32 x 256 trajectories, three times as many map cells
unfoldable pub empty_store : Store
empty_store =
    pack (replicate 65536 empty.y) (replicate 65536 empty.x) (replicate 65536 0) (replicate 57344 empty.y) (replicate 57344 empty.x) (replicate 172032 no_map.y) (replicate 172032 no_map.x)

-- the loads of all tiles, from the empty store
unfoldable pub loaded_of : List ℕ → After
loaded_of b = until_refused (frame_calls (file_frame b) (is_on (byte_at b 100)) (is_on (byte_at b 101)) (planes_of b) (ends_of b (columns_of b))) empty_store

-- the refusal of each number
abbrev pub said_of : ℕ → Refusal
said_of n =
    cond (eqb n 1) VectorOutOfRange (cond (eqb n 2) HalfMark (cond (eqb n 3) TooManyBits (cond (eqb n 4) TooManySlots (cond (eqb n 5) BadSuperblock (cond (eqb n 6) BadStep
    (cond (eqb n 7) BadSize (cond (eqb n 8) BadTipSlot (cond (eqb n 9) SetupOutOfRange (cond (eqb n 10) TileOutOfRange (cond (eqb n 11) Short ContentsOutOfRange))))))))))

-- the table of "A file that cannot be shown", from its last row up: the loads
unfoldable pub load_problem : List ℕ → Option Problem
load_problem b = cond (eqb (loaded_of b).number 0) None (Some (Load (said_of (loaded_of b).number)))

-- length and tile columns, then the loads
unfoldable pub rest_problem : List ℕ → Option Problem
rest_problem b =
    cond (ltb (length b) (end_of b)) (Some TooShort)
    (cond (bad_columns b (columns_of b) (wide_of (file_frame b))) (Some TileColumns)
    (cond (ltb (end_of b) (length b)) (Some TooLong)
    (load_problem b)))

-- head and setup, then the rest; none for a file that can be shown
unfoldable pub problem_of : List ℕ → Option Problem
problem_of b =
    cond (ltb (length b) 103) (Some TooShort)
    (cond (not (is_frame_file b)) (Some NotAFrameFile)
    (cond (not (eqb (setup_number b) 0)) (Some (Setup (said_of (setup_number b))))
    (cond (ltb 2048 (file_frame b).width) (Some TooLarge)
    (cond (ltb 2048 (file_frame b).height) (Some TooLarge)
    (rest_problem b)))))

-- what is written of a file that can be shown: the field that its loads leave
abbrev pub output_of : Wanted → List ℕ → List ℕ
output_of w b = output w (file_frame b) (loaded_of b).store.field_y (loaded_of b).store.field_x (loaded_of b).store.field_ref

-- what comes of a file of the bytes b, for a writer that was `old` and is `new`, whose bytes `held` gives where they are known: all of its field is written, in so many parts. Or its problem is answered, and the writer is as it was. Or it has none, and a write has failed (whether one does, no contract can say)
abbrev pub Shows : {W : Type 0} → (W → Option (List ℕ)) → Wanted → List ℕ → W → W → Result ℕ Problem → Type 0
Shows held w b old new r =
    MatchResult r
    (λ parts. (problem_of b ≡ None) × (parts ≡ parts_of w (file_frame b)) × Appends (held old) (held new) (output_of w b))
    (λ p. ((problem_of b ≡ Some p) × (new ≡ old)) ⊎ ((problem_of b ≡ None) × (p ≡ NotWritten)))

-- f, ys, xs and refs are the frame and the field of a file that has no problem: what is written is asked to be of such a one
pub record FieldOfFile (f : Frame) (ys xs : List ℤ) (refs : List ℕ) : Type 0 where
  pub file : List ℕ
  pub fine : problem_of file ≡ None
  pub frame : f ≡ file_frame file
  pub same_y : ys ≡ (loaded_of file).store.field_y
  pub same_x : xs ≡ (loaded_of file).store.field_x
  pub same_ref : refs ≡ (loaded_of file).store.field_ref

-- ---- For the contracts of internal functions

-- f is the frame of a file whose head and setup are accepted
pub record Accepted (b : List ℕ) (f : Frame) : Type 0 where
  pub rest : problem_of b ≡ rest_problem b
  pub frame : f ≡ file_frame b
  pub width : f.width ≤ 2048
  pub height : f.height ≤ 2048
  pub long : 103 ≤ length b

-- .. and the file has all its planes, and its tile columns are good
pub record Complete (b : List ℕ) (f : Frame) : Type 0 where
  pub loads : problem_of b ≡ load_problem b
  pub frame : f ≡ file_frame b
  pub width : f.width ≤ 2048
  pub height : f.height ≤ 2048
  pub long : end_of b ≤ length b

-- the lists of a store's field are lent
pub record HasField (f : Field) (s : Store) : Type 0 where
  pub y : f.y.now ≡ s.field_y
  pub x : f.x.now ≡ s.field_x
  pub reference : f.reference.now ≡ s.field_ref
