-- What comes of a file whose field is written. Assumes nothing.
use Rattle.std.proofs.Common.{Result, Ok, Err, IfOk, Option, None, List, ◌≡◌, refl, ap, ◌∙◌, subst, ℕ, ℤ}
use Rattle.std.specs.Prelude.{OnOk}
use Rattle.std.specs.Io.KnownBytes.{Appends}
use Rattle.frame.specs.declared.Frame.{Frame}
use Rattle.show_field.specs.declared.Wanted.{Wanted}
use Rattle.show_field.specs.Output.{parts_of, output}
use Rattle.show_field.specs.Shown.{file_frame, loaded_of, problem_of, output_of}

pub shown : {E : Type 0} (r : Result ℕ E) (w : Wanted) (b : List ℕ) (old new : Option (List ℕ)) (f : Frame) (ys xs : List ℤ) (refs : List ℕ) → OnOk r (Appends old new (output w f ys xs refs))
    → IfOk r (λ n. n ≡ parts_of w f) → f ≡ file_frame b → ys ≡ (loaded_of b).store.field_y → xs ≡ (loaded_of b).store.field_x → refs ≡ (loaded_of b).store.field_ref → problem_of b ≡ None
    → IfOk r (λ n. (problem_of b ≡ None) × (n ≡ parts_of w (file_frame b)) × Appends old new (output_of w b))
shown (Ok n) w b old new f ys xs refs a ne fe ye xe re p = let e : output w f ys xs refs ≡ output_of w b = rw (fe, ye, xe, re) refl in (p, ne ∙ ap (parts_of w) fe, subst (Appends old new) e a)
shown (Err d) w b old new f ys xs refs a ne fe ye xe re p = tt
