-- `saved::block_at` meets its contract. Assumes nothing.
use Rattle.std.proofs.Common.{◌≡◌, false, List, ℕ, ◌+◌, ◌*◌, ℤ, pos, negsuc, nat_abs, get_or, w8, w32, SFits, rules}
use lib.Signed.{lt_z}
use Rattle.intops.proofs.Signed.{signed!, back, eq_yes, eq_no}
use Rattle.mv.specs.Packing.{is_mark_byte}
use Rattle.mv.proofs.Packing.{not_mark}
use Rattle.project.proofs.Tested.{fine_low, has_index, no_index}
use Rattle.saved.proofs.Fine.{no_reference, no_vector, x_too, has_both, has_range}
use Rattle.saved.proofs.block_at.Goals.{In-Ok, Else-y}
use Rattle.saved.proofs.block_at.Goals as goal

-- the three bytes, and what is known of them
abbrev reference : List ℤ → ℕ → ℕ → ℤ
reference part at dir = get_or part (at + 4 + dir) (pos 0)

abbrev y_of : List ℤ → ℕ → ℕ → ℤ
y_of part at dir = get_or part (at + 2 * dir) (pos 0)

abbrev x_of : List ℤ → ℕ → ℕ → ℤ
x_of part at dir = get_or part (at + 2 * dir + 1) (pos 0)

low_fits : SFits w8 (negsuc 127)
low_fits = omega signed!

pub returns-in_default-clause-block : goal.returns-in_default-clause-block
returns-in_default-clause-block c =
    let f : SFits w8 (reference c.args.part.now c.args.at c.args.dir) = search rules in
    no_reference _ _ c.requires.fine (no_index c.try_from.result _ f (simp back at c.try_from.ensures) _ c.in_default.is)

is : (c : In-Ok) → (lt_z (reference c.args.part.now c.args.at c.args.dir) (pos 0) ≡ false) × (c.in-Ok.reference ≡ nat_abs (reference c.args.part.now c.args.at c.args.dir))
is c =
    let f : SFits w8 (reference c.args.part.now c.args.at c.args.dir) = search rules in
    has_index c.try_from.result _ f (simp back at c.try_from.ensures) _ c.in-Ok.is

some : (c : In-Ok) → lt_z (reference c.args.part.now c.args.at c.args.dir) (pos 0) ≡ false
some c = (is c).0

pub returns-then-y-clause-block : goal.returns-then-y-clause-block
returns-then-y-clause-block c =
    let f : SFits w8 (y_of c.args.part.now c.args.at c.args.dir) = search rules in
    no_vector _ _ c.requires.fine (some (goal.at.returns-then-y-clause-block c).In-Ok) (eq_yes {w = w8} {b = negsuc 127} f low_fits c.if-y.true)

y_fits : (c : Else-y) → SFits w8 (y_of c.args.part.now c.args.at c.args.dir)
y_fits c = search rules

y_no : (c : Else-y) → is_mark_byte (y_of c.args.part.now c.args.at c.args.dir) ≡ false
y_no c = eq_no {w = w8} {b = negsuc 127} (y_fits c) low_fits c.if-y.false

pub dequantize_mv_comp-vx-requires : goal.dequantize_mv_comp-vx-requires
dequantize_mv_comp-vx-requires c =
    let x = x_of c.args.part.now c.args.at c.args.dir in
    let f : SFits w8 x = search rules in let g : SFits w32 c.from-2.result = search rules in
    let e : c.from-2.result ≡ x = simp back at c.from-2.ensures in
    simp back (rw e (not_mark x f (x_too _ _ c.requires.fine (some (goal.at.dequantize_mv_comp-vx-requires c).In-Ok) (y_no (goal.at.dequantize_mv_comp-vx-requires c).Else-y))))

pub returns : goal.returns
returns c =
    let y = y_of c.args.part.now c.args.at c.args.dir in let x = x_of c.args.part.now c.args.at c.args.dir in
    let g = y_fits (goal.at.returns c).Else-y in let h : SFits w8 x = search rules in
    let i : SFits w32 c.from.result = search rules in let j : SFits w32 c.from-2.result = search rules in
    let ye : c.from.result ≡ y = simp back at c.from.ensures in let xe : c.from-2.result ≡ x = simp back at c.from-2.ensures in
    let k : SFits w32 c.dequantize_mv_comp-vy.result = search rules in let m : SFits w32 c.dequantize_mv_comp-vx.result = search rules in
    let v = simp back at c.dequantize_mv_comp-vy.ensures in let w = simp back at c.dequantize_mv_comp-vx.ensures in
    let p = some (goal.at.returns c).In-Ok in let q = y_no (goal.at.returns c).Else-y in
    let r = (is (goal.at.returns c).In-Ok).1 in
    record {
      block = rw r (simp back (rw (v, w, ye, xe) (has_both _ _ c.requires.fine p q g)));
      reference = rw r (fine_low _ _ c.requires.fine);
      vector = simp back (rw (v, w, ye, xe) (has_range _ _ c.requires.fine p q g h));
    }
