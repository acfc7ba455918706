-- The line that tells of a problem (docs/FRAME_FILE.md, "A file that cannot be shown"), as a list of bytes. Assumes nothing.
use Rattle.std.specs.Prelude.{List, [], ◌++◌, ℕ, codes}
use Rattle.levels.specs.declared.Refusal.{Refusal}
use Rattle.levels.specs.declared.Refusal.TheVariants.{VectorOutOfRange, HalfMark, TooManyBits, TooManySlots, BadSuperblock, BadStep, BadSize, BadTipSlot, SetupOutOfRange, TileOutOfRange, TooShort as Short, ContentsOutOfRange}
use Rattle.show_field.specs.declared.problems.Problem.{Problem}
use Rattle.show_field.specs.declared.problems.Problem.TheVariants.{Usage, TooShort, NotAFrameFile, Setup, TooLarge, TileColumns, TooLong, Load, NotWritten}

-- "line, after `show_field: `"
unfoldable pub line : List ℕ → List ℕ
line message = codes "show_field: " ++ message ++ codes "\n"

-- "`init_frame` refuses with number N, 3 to 8"; no setup is refused with another
abbrev pub setup_line : Refusal → List ℕ
setup_line VectorOutOfRange = []
setup_line HalfMark = []
setup_line TooManyBits = line (codes "the setup is refused, 3: hint bits above 8")
setup_line TooManySlots = line (codes "the setup is refused, 4: slots above 7")
setup_line BadSuperblock = line (codes "the setup is refused, 5: superblock code above 2")
setup_line BadStep = line (codes "the setup is refused, 6: step not 1 or 2")
setup_line BadSize = line (codes "the setup is refused, 7: width or height not 1..65536")
setup_line BadTipSlot = line (codes "the setup is refused, 8: TIP slot not a slot in use")
setup_line SetupOutOfRange = []
setup_line TileOutOfRange = []
setup_line Short = []
setup_line ContentsOutOfRange = []

-- "`load_tmvs` refuses a tile with number N, 10 or 12"; the definition has lines for 9 and 11 too. By `SetupPasses` 9 comes of no file; that the buffers are always long enough, so that 11 comes of none, is no theorem; no load is refused with another
abbrev pub load_line : Refusal → List ℕ
load_line VectorOutOfRange = []
load_line HalfMark = []
load_line TooManyBits = []
load_line TooManySlots = []
load_line BadSuperblock = []
load_line BadStep = []
load_line BadSize = []
load_line BadTipSlot = []
load_line SetupOutOfRange = line (codes "the load is refused, 9: setup out of range")
load_line TileOutOfRange = line (codes "the load is refused, 10: a tile's columns or rows")
load_line Short = line (codes "the load is refused, 11: planes or store too short")
load_line ContentsOutOfRange = line (codes "the load is refused, 12: a saved block out of range")

-- the line of each problem
abbrev pub line_of : Problem → List ℕ
line_of Usage = line (codes "usage: show_field [text | picture] < FILE")
line_of TooShort = line (codes "the file is too short")
line_of NotAFrameFile = line (codes "not a frame file of version 1")
line_of (Setup said) = setup_line said
line_of TooLarge = line (codes "the frame is larger than 2048 x 2048 pixels")
line_of TileColumns = line (codes "the tile columns do not end at the frame's width")
line_of TooLong = line (codes "the file is too long")
line_of (Load said) = load_line said
line_of NotWritten = line (codes "the output cannot be written")
