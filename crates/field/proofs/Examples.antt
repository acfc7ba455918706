-- The worked examples hold: the definitions compute to them. Assumes nothing.
use Rattle.std.proofs.Common.{◌≡◌, refl, ap, ◌∙◌, cond, [], ◌∷◌, ◌||◌, true, eqb, ℕ, zero, suc, ◌+◌, ◌%◌, ◌≤◌, ◌<◌, arith, leb}
use Rattle.intops.proofs.Signed.{none_plus}
use Rattle.levels.specs.declared.Mv.{Mv}
use Rattle.levels.specs.Vector.{empty}
use Rattle.loops.specs.Over.{over}
use Rattle.mv.proofs.Averages.{gap_alone}
use Rattle.store.specs.Store.{Store}
use Rattle.tile.specs.Layout.{row_cells, place, field_at, block_start}
use Rattle.tile.specs.Owner.{own_block, owns}
use Rattle.tile.specs.Sound.{Sound}
use Rattle.field.specs.Field.{as_byte, fill_hole, fill_around, fill_holes, put_gaps_proj, gap_proj, fill_gap_proj}
use Rattle.field.specs.Examples.{one_row, eight_wide, three_wide, field_of, FilledInPlace, FilledPastFrame}

module _ {S : Type 0} (f : ℕ → S → S) where
  -- a loop of one turn
  once : (d p : ℕ) (s e : S) → f p s ≡ e → over f d 1 p s ≡ e
  unfolding over
  once d p s e h = h

  -- each turn takes c from its number to the next
  abbrev Turns : (ℕ → S) → ℕ → ℕ → Type 0
  Turns c zero p = Unit {0}
  Turns c (suc n) p = (f p (c p) ≡ c (p + 1)) × Turns c n (p + 1)

  by_turns : (c : ℕ → S) (n p q : ℕ) → p + n ≡ q → Turns c n p → over f 1 n p (c p) ≡ c q
  unfolding over
  by_turns c zero p q e h = let w : p ≡ q = omega arith in ap c w
  by_turns c (suc n) p q e h = ap (over f 1 n (p + 1)) h.0 ∙ by_turns c n (p + 1) q (omega arith) h.1

-- the tiles are such as accepted calls have
sound_row : (step edge wide : ℕ) → (eqb step 1 || eqb step 2) ≡ true → 1 ≤ step → step ≤ 2 → edge ≤ 8 → edge % step ≡ 0 → 0 < wide → wide ≤ 32 → Sound (one_row step edge wide)
sound_row step edge wide k l n e m z w =
    record {
      side = omega arith;
      side_kind = refl;
      block = refl;
      step = k;
      few = omega arith;
      edge = e;
      edge_on_step = m;
      start = refl;
      some = z;
      right = omega arith;
      wide = w;
      stride = refl;
      offset = refl;
      top_on_side = refl;
      top_on_block = refl;
      side_on_block = refl;
      rows = omega arith;
      bottom = omega arith;
      frame_end = omega arith;
      side_low = omega arith;
      block_low = omega arith;
      step_low = n;
      stride_low = omega arith;
      high_low = omega arith;
      offset_low = omega arith;
    }

pub sound_eight : Sound eight_wide
sound_eight = sound_row 1 4 8 refl (omega arith) (omega arith) (omega arith) refl (omega arith) (omega arith)

pub sound_three : Sound three_wide
sound_three = sound_row 2 8 3 refl (omega arith) (omega arith) (omega arith) refl (omega arith) (omega arith)

-- turn by turn: from column 2 on each cell hands on to the next what the turn before has filled
pub filled_in_place : FilledInPlace
unfolding row_cells place field_at block_start own_block owns fill_hole fill_around fill_holes
filled_in_place v delta r0 r1 r2 r3 r4 r5 r6 r7 s h =
    once _ 8 0 _ _ (once _ 1 0 _ _ (by_turns _ at 8 0 8 refl (rw h (refl, (refl, (refl, (refl, (refl, (refl, (refl, (refl, tt)))))))))))
  where
    -- the store as turn x finds it; a hole that is filled by then stands with the first turn that finds it so
    at : ℕ → Store
    at x = field_of (empty ∷ cell 3 ∷ v ∷ cell 3 ∷ cell 4 ∷ cell 5 ∷ cell 6 ∷ cell 7 ∷ []) (r0 ∷ byte 3 r1 ∷ r2 ∷ byte 3 r3 ∷ byte 4 r4 ∷ byte 5 r5 ∷ byte 6 r6 ∷ byte 7 r7 ∷ []) s
      where
        cell : ℕ → Mv
        cell n = cond (leb n x) v empty

        byte : ℕ → ℕ → ℕ
        byte n r = cond (leb n x) (as_byte delta) r

pub filled_past_frame : FilledPastFrame
unfolding over row_cells place field_at block_start own_block owns put_gaps_proj gap_proj fill_gap_proj
filled_past_frame v u r0 r1 r2 r3 s h = rw (h, none_plus v.y, none_plus v.x, gap_alone v.y, gap_alone v.x) refl
