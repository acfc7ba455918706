-- `pass_cases::pass_at` meets its contract. Assumes nothing.
use Rattle.std.proofs.Common.{Ok, arith, rules, nat_abs, ◌≡◌, refl, sym, ◌∙◌, subst, w32, w64, SFits, to_z, of_z}
use Rattle.std.proofs.lemmas.Grind.{common_steps}
use Rattle.std.proofs.lemmas.Result.{IfOk-at_ok}
use borrow.Author.Rules.{sfits_of}
use mir.ValLaws.{to_z-of_z}
use Rattle.intops.specs.Bounds.{Within}
use Rattle.intops.proofs.Signed.{back}
use Rattle.cases.specs.Numbers.{at}
use Rattle.cases.proofs.Elements.{as_i32}
use Rattle.cases.proofs.Verdicts.{roomy, size}
use Rattle.pass_cases.specs.PassCase.{PassNumbers}
use Rattle.pass_cases.proofs.PassCase.{short}
use Rattle.pass_cases.proofs.pass_at.Goals.{After-number-mv_x}
use Rattle.pass_cases.proofs.pass_at.Goals as goal

fit : (c : After-number-mv_x) → PassNumbers c.args.n.now
fit c = c.if-not-numbers_fit.ensures

is_a : (c : After-number-mv_x) → c.to_usize-a.result ≡ nat_abs (at c.args.n.now 1)
is_a c = let f : SFits w64 (at c.args.n.now 1) = search rules in (simp back at c.to_usize-a.ensures) (roomy (omega arith) ((fit c).slots 1 (omega arith) (omega arith)))

is_b : (c : After-number-mv_x) → c.to_usize-b.result ≡ nat_abs (at c.args.n.now 2)
is_b c = let f : SFits w64 (at c.args.n.now 2) = search rules in (simp back at c.to_usize-b.ensures) (roomy (omega arith) ((fit c).slots 2 (omega arith) (omega arith)))

is_y : (c : After-number-mv_x) → c.to_usize-y.result ≡ nat_abs (at c.args.n.now 3)
is_y c = let f : SFits w64 (at c.args.n.now 3) = search rules in (simp back at c.to_usize-y.ensures) (roomy (omega arith) ((fit c).block 3 (omega arith) (omega arith)))

is_x : (c : After-number-mv_x) → c.to_usize-x.result ≡ nat_abs (at c.args.n.now 4)
is_x c = let f : SFits w64 (at c.args.n.now 4) = search rules in (simp back at c.to_usize-x.ensures) (roomy (omega arith) ((fit c).block 4 (omega arith) (omega arith)))

is_mv_y : (c : After-number-mv_x) → to_z w32 (of_z w32 c.number-mv_y.result) ≡ at c.args.n.now 5
is_mv_y c =
    let f : SFits w64 (at c.args.n.now 5) = search rules in
    let g : SFits w32 c.number-mv_y.result = sfits_of c.number-mv_y.type_inv in
    let e = simp back at c.number-mv_y.ensures in
    to_z-of_z w32 _ g ∙ as_i32 e (short ((fit c).vector 5 (omega arith) (omega arith))).0

is_mv_x : (c : After-number-mv_x) → to_z w32 (of_z w32 c.number-mv_x.result) ≡ at c.args.n.now 6
is_mv_x c =
    let f : SFits w64 (at c.args.n.now 6) = search rules in
    let g : SFits w32 c.number-mv_x.result = sfits_of c.number-mv_x.type_inv in
    let e = simp back at c.number-mv_x.ensures in
    to_z-of_z w32 _ g ∙ as_i32 e (short ((fit c).vector 6 (omega arith) (omega arith))).0

pub invariant_of-result : goal.invariant_of-result
invariant_of-result c =
    let d = (goal.at.invariant_of-result c).After-number-mv_x in let m = fit d in
    record {
      low = record {
        slot_low = omega (arith, is_a d, size (m.slots 1 (omega arith) (omega arith)));
        other_low = omega (arith, is_b d, size (m.slots 2 (omega arith) (omega arith)));
        row_low = omega (arith, is_y d, size (m.block 3 (omega arith) (omega arith)));
        y_low = subst (Within 65535) (sym (is_mv_y d)) (short (m.vector 5 (omega arith) (omega arith))).1;
        x_low = subst (Within 65535) (sym (is_mv_x d)) (short (m.vector 6 (omega arith) (omega arith))).1;
      };
    }

pub returns : goal.returns
returns c =
    let d = (goal.at.returns c).After-number-mv_x in
    let f : SFits w64 (at c.args.n.now 0) = search rules in
    let r : c.try_from.result ≡ Ok c.in_ok-kind.kind = grind (arith, common_steps, c.ok.ensures.value, c.in_ok-kind.ensures.value) in
    record { numbers = fit d; kind = IfOk-at_ok _ r (simp back at c.try_from.ensures); a = is_a d; b = is_b d; y = is_y d; x = is_x d; mv = rw (is_mv_y d, is_mv_x d) refl }
