-- The differences of order hints that setup looks at. Assumes nothing.
use Rattle.env.specs.Hints.{hint_diff}
use Rattle.std.specs.Prelude.{ℕ, Bool, false, cond, ◌&&◌, ◌||◌, [], ltb, eqb, ℤ, pos, nat_abs, get_or}
use Rattle.std.specs.Int.Signed.{lt_z}
use Rattle.loops.specs.Over.{span}
use Rattle.levels.specs.declared.OrderHint.{OrderHint}
use Rattle.picks.specs.declared.Saved.{Saved}
use Rattle.picks.specs.declared.Pocs.{Pocs}

-- past the end of an array; never read, there are seven
abbrev pub no_hint : OrderHint
no_hint = record { 0 = 0 }

abbrev pub no_saved : Saved
no_saved = record { ref_poc = []; refcnt = 0 }

abbrev pub hint_of : Pocs → ℕ → OrderHint
hint_of h i = get_or h.ref_poc i no_hint

abbrev pub saved_of : Pocs → ℕ → Saved
saved_of h i = get_or h.saved i no_saved

-- refusal 3, hint bits above 8: its number where it holds, else 0
unfoldable pub bits_refusal : Pocs → ℕ
bits_refusal h = cond (ltb 8 h.nbits) 3 0

-- refusals 3 and 4, hint bits above 8 and slots above 7: the number of the first that holds, 0 for neither
unfoldable pub hints_refusal : Pocs → ℕ
hints_refusal h = cond (ltb 8 h.nbits) 3 (cond (ltb 7 h.n_refs) 4 0)

-- from reference n of slot i to the hint a: with the slot's hint the local ref2ref of init_frame, with the frame's its ref2cur; 0 for a slot with reference count 0
unfoldable pub saved_diff_of : Pocs → OrderHint → ℕ → ℕ → ℤ
saved_diff_of h a i n = cond (eqb (saved_of h i).refcnt 0) (pos 0) (hint_diff h.nbits a (get_or (saved_of h i).ref_poc n no_hint))

-- both are above 0, or with late off both below
abbrev pub same_side : ℤ → ℤ → Bool → Bool
same_side d e late = cond late (lt_z (pos 0) d && lt_z (pos 0) e) (lt_z d (pos 0) && lt_z e (pos 0))

-- the lesser of b and the distance d, where d and e are on the same side; else b
abbrev pub closer : ℤ → ℤ → Bool → ℕ → ℕ
closer d e late b = cond (same_side d e late && ltb (nat_abs d) b) (nat_abs d) b

-- the same for slot i's reference n, from its differences to the slot and to the frame
unfoldable pub closer_of : Pocs → ℕ → Bool → ℕ → ℕ → ℕ
closer_of h i late n b = closer (saved_diff_of h (hint_of h i) i n) (saved_diff_of h h.poc i n) late b

-- abs_closest_ref: the least distance from slot i to a reference on the same side of it and of the frame, 255 if there is none
unfoldable pub closest : Pocs → ℕ → Bool → ℕ
closest h i late = span (closer_of h i late) 0 7 255

-- slot i's reference n is later than the slot, with late off earlier
unfoldable pub on_side : Pocs → ℕ → Bool → ℕ → Bool
on_side h i late n = cond late (lt_z (saved_diff_of h (hint_of h i) i n) (pos 0)) (lt_z (pos 0) (saved_diff_of h (hint_of h i) i n))

-- b, or reference n is
abbrev pub or_on_side : Pocs → ℕ → Bool → ℕ → Bool → Bool
or_on_side h i late n b = b || on_side h i late n

-- have_ref_sign: slot i has a reference later than itself, or with late off an earlier one
unfoldable pub some_on_side : Pocs → ℕ → Bool → Bool
some_on_side h i late = span (or_on_side h i late) 0 7 false
