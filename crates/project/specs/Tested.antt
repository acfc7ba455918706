-- What tests 9 and 12 ask of a source and of its saved blocks (01 "Why a tank is turned back"). Assumes nothing.
use Rattle.std.specs.Prelude.{Bool, true, not, ◌&&◌, ◌||◌, List, ℕ, zero, suc, ◌+◌, ◌-◌, ◌*◌, ◌/◌, leb, ltb, ℤ, pos, negsuc, nat_abs, get_or}
use Rattle.std.specs.Int.Signed.{lt_z}
use Rattle.intops.specs.Choice.{eq_z}
use Rattle.levels.specs.declared.QMv.{QMv}
use Rattle.mv.specs.Packing.{is_mark_byte}
use Rattle.entry.specs.declared.Source.{Source}
use Rattle.tile.specs.Geometry.{Geometry}
use Rattle.project.specs.Project.{saved_at, saved_ref, saved_mv}

-- p holds of 0 .. n - 1
unfoldable pub all_below : ℕ → (ℕ → Bool) → Bool
all_below zero p = true
all_below (suc n) p = all_below n p && p n

-- a ≤ z ≤ b
abbrev pub within : ℤ → ℤ → ℤ → Bool
within a b z = not (lt_z z a) && not (lt_z b z)

-- ---- 9: "setup out of range"

-- "for each source slot 0..6, target -1..6, direction 0 or 1, ref2cur -32..31, ref2ref ±31, ref2idx -1..6, factors ±507,904"
abbrev pub entry_in_range : Source → ℕ → Bool
entry_in_range s k =
    leb (nat_abs (get_or s.ref2ref k (pos 0))) 31
    && within (negsuc 0) (pos 6) (get_or s.ref2idx k (pos 0))
    && leb (nat_abs (get_or s.ref2sf0 k (pos 0))) 507904
    && leb (nat_abs (get_or s.ref2sf1 k (pos 0))) 507904

unfoldable pub source_in_range : Source → Bool
source_in_range s =
    ltb s.reference.0 7 && within (negsuc 0) (pos 6) s.tgt && ltb s.dir 2 && within (negsuc 31) (pos 31) s.ref2cur
    && all_below 7 (entry_in_range s)

-- ---- 12

-- "with reference outside -1..6, or reference not -1 and exactly one byte -128 in the vector of that direction" is a block that may not be read
unfoldable pub block_fine : ℤ → QMv → Bool
block_fine r q =
    eq_z r (negsuc 0)
    || (within (pos 0) (pos 6) r && not ((is_mark_byte q.y || is_mark_byte q.x) && not (is_mark_byte q.y && is_mark_byte q.x)))

-- "a sampled block of the row (rows and columns at the step, all columns of W, plane present, source not skipped, its direction)"
unfoldable pub row_fine : Geometry → List ℤ → Source → Bool
row_fine t planes s =
    all_below ((t.bottom - t.top + (t.step - 1)) / t.step) (λ j.
    all_below ((t.wide + (t.step - 1)) / t.step) (λ i.
    let at = saved_at t s.reference.0 (t.top + j * t.step) (i * t.step) in
    block_fine (saved_ref planes at s.dir) (saved_mv planes at s.dir)))
