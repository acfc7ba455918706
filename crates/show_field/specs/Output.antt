-- What is written of a field, part by part (docs/FRAME_FILE.md, "Text" and "Picture"). Assumes nothing.
use Rattle.std.specs.Prelude.{List, ℕ, zero, suc, ◌+◌, ◌*◌, ◌/◌, ℤ}
use Rattle.frame.specs.declared.Frame.{Frame}
use Rattle.load.specs.Load.{wide_of, high_of, stride_of}
use Rattle.text.specs.Joined.{joined}
use Rattle.show.specs.Text.{row_text}
use Rattle.show.specs.Picture.{row_pixels, head_text}
use Rattle.show_field.specs.declared.Wanted.{Wanted}
use Rattle.show_field.specs.declared.Wanted.TheVariants.{Text, Picture}

-- how many parts there are: of a text the rows of cells, of a picture its head and the rows of pixels
abbrev pub parts_of : Wanted → Frame → ℕ
parts_of Text f = high_of f
parts_of Picture f = f.height + 1

-- the head of a picture, and its rows of pixels; a cell is 8 pixels high
abbrev pub picture_part : Frame → List ℤ → List ℤ → ℕ → List ℕ
picture_part f ys xs zero = head_text f.width f.height
picture_part f ys xs (suc py) = row_pixels ys xs (py / 8 * stride_of f) py f.width

-- part k
abbrev pub part_of : Wanted → Frame → List ℤ → List ℤ → List ℕ → ℕ → List ℕ
part_of Text f ys xs refs k = row_text ys xs refs (k * stride_of f) k (wide_of f)
part_of Picture f ys xs refs k = picture_part f ys xs k

-- all parts, one behind the other
unfoldable pub output : Wanted → Frame → List ℤ → List ℤ → List ℕ → List ℕ
output w f ys xs refs = joined (part_of w f ys xs refs) (parts_of w f) 0
