-- What the setup keeps of each slot in use (01 "Setup record"; the first loops of init_frame). Assumes nothing.
use Rattle.std.specs.Prelude.{ℕ, ◌+◌, ◌*◌, ◌^◌, Bool, false, cond, List, Option, Some, None, ltb, eqb, ℤ, pos, negsuc, nat_abs, get_or}
use Rattle.std.specs.Bool.{beq}
use Rattle.std.specs.Int.Signed.{lt_z}
use mir.Val.{bool_byte}
use Rattle.loops.specs.Over.{span}
use Rattle.loops.specs.Seven.{seven, first_seven}
use Rattle.intops.specs.Choice.{clip_z}
use Rattle.env.specs.Hints.{hint_diff}
use Rattle.picks.specs.declared.Pocs.{Pocs}
use Rattle.picks.specs.declared.Saved.{Saved}
use Rattle.levels.specs.declared.Slot.{Slot}
use Rattle.levels.specs.Slots.{slot}
use Rattle.picks.specs.Hints.{no_hint, hint_of, saved_of}
use Rattle.entry.specs.Entry.{found}

-- the sign (ref_sign): slot i's hint is before the frame's
unfoldable pub is_earlier : Pocs → ℕ → Bool
is_earlier h i = lt_z (hint_diff h.nbits (hint_of h i) h.poc) (pos 0)

-- the clipped difference (pocdiff): from slot i to the frame, clipped to -31..31
unfoldable pub clipped : Pocs → ℕ → ℤ
clipped h i = clip_z (negsuc 30) (pos 31) (hint_diff h.nbits h.poc (hint_of h i))

-- of the slots in use; the others are 0
unfoldable pub signs : Pocs → List Bool
signs h = first_seven h.n_refs false (is_earlier h)

-- of the slots in use; the others are 0
unfoldable pub diffs : Pocs → List ℤ
diffs h = first_seven h.n_refs (pos 0) (clipped h)

-- the absolute differences (abspocdiff), of the slots in use
unfoldable pub abs_diffs : Pocs → List ℕ
abs_diffs h = first_seven h.n_refs 0 (λ i. nat_abs (clipped h i))

-- whether slot n is flipped for slot i: with equal signs where i's hint is before n's, else where n's sign is set
abbrev pub flips_of : Bool → Bool → Bool → Bool
flips_of x y before = cond (beq x y) before y

abbrev pub flips : Pocs → List Bool → ℕ → ℕ → Bool
flips h sign i n = flips_of (get_or sign i false) (get_or sign n false) (lt_z (hint_diff h.nbits (hint_of h i) (hint_of h n)) (pos 0))

-- row i of the flip mask: bit n for each slot n in use
abbrev pub add_flip : Pocs → List Bool → ℕ → ℕ → ℕ → ℕ
add_flip h sign i n r = r + bool_byte (flips h sign i n) * 2 ^ n

unfoldable pub flip_row : Pocs → List Bool → ℕ → ℕ
flip_row h sign i = span (add_flip h sign i) 0 h.n_refs 0

-- the flip mask (ref_flip): bit 8 i + n for the slots i and n in use
abbrev pub add_row : Pocs → List Bool → ℕ → ℕ → ℕ
add_row h sign i m = m + flip_row h sign i * 2 ^ (8 * i)

unfoldable pub flip_mask : Pocs → List Bool → ℕ
flip_mask h sign = span (add_row h sign) 0 h.n_refs 0

-- the slot of a number, if there is one
abbrev pub slot_if : Option ℕ → Option Slot
slot_if None = None
slot_if (Some k) = Some (slot k)

-- for the dependency order (refref2curref_idx): the first of the slots in use with the hint of a slot's reference n, or none; a slot with reference count 0 has none
unfoldable pub link_in : Pocs → Saved → ℕ → Option Slot
link_in h s n = cond (eqb s.refcnt 0) None (slot_if (found h.ref_poc (get_or s.ref_poc n no_hint) h.n_refs 0))

-- that of slot i
abbrev pub link_of : Pocs → ℕ → ℕ → Option Slot
link_of h i n = link_in h (saved_of h i) n

-- those of slot i; a slot that is not in use has none
unfoldable pub links_from : Pocs → ℕ → List (Option Slot)
links_from h i = seven (λ n. cond (ltb i h.n_refs) (link_of h i n) None)

-- the links of all seven slots
unfoldable pub links_of : Pocs → List (List (Option Slot))
links_of h = seven (links_from h)
