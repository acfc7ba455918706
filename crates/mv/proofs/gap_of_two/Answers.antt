-- `mv::gap_of_two` meets its contract. Assumes nothing.
use Rattle.std.proofs.Common.{rules, ◌≡◌, refl, ap, ◌∙◌, Bool, true, false, cond, ◌+ℤ◌, w32, SFits}
use Rattle.intops.proofs.Signed.{back, none_plus}
use Rattle.levels.specs.declared.Mv.{Mv}
use Rattle.mv.specs.Averages.{gap_mean}
use Rattle.mv.specs.Sums.{is_empty, no_sum, added, gap_of}
use Rattle.mv.proofs.Averages.{gap_twice}
use Rattle.mv.proofs.gap_of_two.Goals as goal

-- with e for the test, by cases
two : (v a : Mv) (e : Bool) → is_empty v ≡ false → is_empty a ≡ e
    → let b = cond e v a in record { y = gap_mean 2 (v.y +ℤ b.y); x = gap_mean 2 (v.x +ℤ b.x) } ≡ gap_of (added a (added v no_sum))
two v a true f h = rw (h, f, gap_twice v.y, gap_twice v.x)
two v a false f h = rw (h, f, none_plus v.y, none_plus v.x)

pub returns : goal.returns
returns c =
    let a = c.args in let o = c.or_else-b in let k = c.mean_of_two-y in let l = c.mean_of_two-x in let b = cond (is_empty a.a) a.v a.a in
    let vy : SFits w32 a.v.y = search rules in let vx : SFits w32 a.v.x = search rules in let oy : SFits w32 o.result.y = search rules in let ox : SFits w32 o.result.x = search rules in
    let ky : SFits w32 k.result = search rules in let lx : SFits w32 l.result = search rules in
    let y : k.result ≡ gap_mean 2 (a.v.y +ℤ b.y) = simp back at k.ensures ∙ ap (λ (b : Mv). gap_mean 2 (a.v.y +ℤ b.y)) o.ensures in
    let x : l.result ≡ gap_mean 2 (a.v.x +ℤ b.x) = simp back at l.ensures ∙ ap (λ (b : Mv). gap_mean 2 (a.v.x +ℤ b.x)) o.ensures in
    simp back (rw (y, x) (two a.v a.a (is_empty a.a) c.requires refl))
