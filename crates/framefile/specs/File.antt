-- What a frame file's bytes say (docs/FRAME_FILE.md). Assumes nothing.
use Rattle.std.specs.Prelude.{Bool, false, not, cond, ◌&&◌, List, [], ◌∷◌, ℕ, zero, suc, ◌+◌, ◌*◌, eqb, ℤ, length, get_or, set, take, drop}
use Rattle.frame.specs.declared.Header.{Header}
use Rattle.levels.specs.declared.OrderHint.{OrderHint}
use Rattle.loops.specs.Over.{span}
use Rattle.loops.specs.Seven.{seven}
use Rattle.picks.specs.declared.Pocs.{Pocs}
use Rattle.picks.specs.declared.Saved.{Saved}
use Rattle.text.specs.SignedByte.{signed_byte}
use Rattle.text.specs.Joined.{joined}

-- a byte of the file; 0 past its end
abbrev pub byte_at : List ℕ → ℕ → ℕ
byte_at b at = get_or b at 0

-- "A switch is a byte, on where it is not 0."
abbrev pub is_on : ℕ → Bool
is_on v = not (eqb v 0)

-- "Numbers are little-endian.": four bytes
unfoldable pub word_at : List ℕ → ℕ → ℕ
word_at b at = byte_at b at + 256 * byte_at b (at + 1) + 65536 * (byte_at b (at + 2) + 256 * byte_at b (at + 3))

abbrev pub hint_at : List ℕ → ℕ → OrderHint
hint_at b at = record { 0 = byte_at b at }

unfoldable pub hints_at : List ℕ → ℕ → List OrderHint
hints_at b at = seven (λ i. hint_at b (at + i))

-- "for each slot seven hints and then their count"
unfoldable pub saved_at : List ℕ → ℕ → Saved
saved_at b at = record { ref_poc = hints_at b at; refcnt = byte_at b (at + 7) }

unfoldable pub all_saved : List ℕ → List Saved
all_saved b = seven (λ i. saved_at b (37 + 8 * i))

unfoldable pub switches_at : List ℕ → ℕ → List Bool
switches_at b at = seven (λ i. is_on (byte_at b (at + i)))

-- "for each slot a switch, whether its plane is in the file"
abbrev pub present_of : List ℕ → List Bool
present_of b = switches_at b 93

unfoldable pub pocs_of : List ℕ → Pocs
pocs_of b = record { nbits = word_at b 5; poc = hint_at b 29; n_refs = word_at b 17; ref_poc = hints_at b 30; saved = all_saved b }

-- the table of "The file, version 1"
unfoldable pub header_of : List ℕ → Header
header_of b =
    record {
      width = word_at b 9;
      height = word_at b 13;
      sb128 = byte_at b 22;
      tmvp_sample_step = byte_at b 23;
      tip = is_on (byte_at b 21);
      use_ref_frame_mvs = is_on (byte_at b 24);
      has_bothside_refs = is_on (byte_at b 25);
      tip_frame_mode = byte_at b 26;
      tip0 = signed_byte (byte_at b 27);
      tip1 = signed_byte (byte_at b 28);
      rp_ref = present_of b;
      pocs = pocs_of b;
    }

-- `RMVF`, and version 1
unfoldable pub is_frame_file : List ℕ → Bool
is_frame_file b = eqb (byte_at b 0) 82 && eqb (byte_at b 1) 77 && eqb (byte_at b 2) 86 && eqb (byte_at b 3) 70 && eqb (byte_at b 4) 1

-- "each tile column's end .., from left to right"
abbrev pub end_at : List ℕ → ℕ → ℕ
end_at b i = word_at b (103 + 4 * i)

-- those of n tile columns
abbrev pub ends_of : List ℕ → ℕ → List ℕ
ends_of b n = joined (λ i. end_at b i ∷ []) n 0

-- "the planes, for each slot 0 to 6 that has one": how many of the slots below k have one
unfoldable pub present_before : List Bool → ℕ → ℕ
present_before present zero = 0
present_before present (suc k) = present_before present k + cond (get_or present k false) 1 0

-- where slot k's plane begins in a file with n tile columns: behind their ends and the planes of the slots below it, "H rows of W blocks" of six bytes each; for k = 7, where the file ends
unfoldable pub plane_at : List Bool → ℕ → ℕ → ℕ → ℕ → ℕ
plane_at present n wide high k = 103 + 4 * n + present_before present k * (6 * (high * wide))

-- byte i of a row, as a signed number, is stored at place at + i of the planes
abbrev pub put_byte : List ℕ → ℕ → ℕ → List ℤ → List ℤ
put_byte line at i planes = set planes (at + i) (signed_byte (byte_at line i))

-- all bytes of a row
unfoldable pub put_row : List ℕ → ℕ → List ℤ → List ℤ
put_row line at planes = span (put_byte line at) 0 (length line) planes

-- "Rows follow each other with nothing between them": row y of the plane that begins at byte `from` of the file
abbrev pub row_of : List ℕ → ℕ → ℕ → ℕ → List ℕ
row_of b from wide y = take (6 * wide) (drop (from + 6 * (y * wide)) b)

-- it is stored y * stride blocks behind `at`
abbrev pub put_plane_row : List ℕ → ℕ → ℕ → ℕ → ℕ → ℕ → List ℤ → List ℤ
put_plane_row b from wide stride at y = put_row (row_of b from wide y) (at + 6 * (y * stride))

-- all rows of a plane
unfoldable pub put_plane : List ℕ → ℕ → ℕ → ℕ → ℕ → ℕ → List ℤ → List ℤ
put_plane b from wide high stride at planes = span (put_plane_row b from wide stride at) 0 high planes

-- slot k's plane, where it is in the file, goes to where a load looks for it: behind k planes of high * stride blocks. Else what stands there stays
abbrev pub put_present : List ℕ → List Bool → ℕ → ℕ → ℕ → ℕ → ℕ → List ℤ → List ℤ
put_present b present n wide high stride k planes = cond (get_or present k false) (put_plane b (plane_at present n wide high k) wide high stride (k * (6 * (high * stride))) planes) planes

-- all planes of a file with n tile columns
unfoldable pub put_planes : List ℕ → List Bool → ℕ → ℕ → ℕ → ℕ → List ℤ → List ℤ
put_planes b present n wide high stride planes = span (put_present b present n wide high stride) 0 7 planes
