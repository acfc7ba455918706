-- `mv::Sum::add` meets its contract. Assumes nothing.
use Rattle.std.proofs.Common.{rules, ◌≡◌, refl, sym, Bool, true, false, not, cond, ◌+◌, ◌≤◌, add-zero, arith, ℤ, pos, ◌+ℤ◌, to_z-of_z, w32, w64, SFits, to_z, of_z}
use Rattle.std.proofs.Math.Facts.{sfits_lit}
use mir.Val.{bool_byte}
use Rattle.intops.proofs.Signed.{back, plus_none}
use Rattle.levels.specs.declared.Mv.{Mv}
use Rattle.mv.specs.Averages.{SumOf}
use Rattle.mv.specs.Sums.{is_empty, added, Fair}
use Rattle.mv.specs.declared.Sum.{Sum}
use Rattle.mv.proofs.Averages.{sum_more, sum_wide}
use Rattle.mv.proofs.Sum.add.Goals as goal

fits_kept : (t : Bool) {z : ℤ} → SFits w32 z → SFits w32 (cond t z (pos 0))
fits_kept true f = f
fits_kept false f = sfits_lit tt

-- a sum with one more, or with 0, has 64 bits
fits_more : (s : Sum) (t : Bool) (z y : ℤ) → SumOf s.n y → s.n ≤ 4 → SFits w32 z → SFits w64 (y +ℤ cond t z (pos 0))
fits_more s t z y h l f = sum_wide (s.n + 1) _ (omega arith) (sum_more s.n y _ h (fits_kept t f))

-- what `kept` answers, its number read back from a local's bits
kept_of : (t : Bool) {z r : ℤ} → SFits w32 z → r ≡ cond t (to_z w32 (of_z w32 z)) (pos 0) → r ≡ cond t z (pos 0)
kept_of t f e = simp back at e

-- a sum, read back from a local's bits
sum_of : (y z r : ℤ) → SFits w64 y → SFits w64 r → r ≡ z → SFits w64 (y +ℤ z) → to_z w64 (of_z w64 (to_z w64 (of_z w64 y) +ℤ to_z w64 (of_z w64 r))) ≡ y +ℤ z
sum_of y z r p q e f = rw (to_z-of_z p, to_z-of_z q, e, to_z-of_z f)

-- with e for the test, by cases
grown : (v : Mv) (s : Sum) (e : Bool) → is_empty v ≡ e → Fair s → SFits w32 v.y → SFits w32 v.x
    → let r : Sum = record { y = s.y +ℤ cond (not e) v.y (pos 0); x = s.x +ℤ cond (not e) v.x (pos 0); n = s.n + bool_byte (not e) } in
    (r ≡ added v s) × Fair r × (s.n ≤ r.n) × (r.n ≤ s.n + 1)
grown v s true h f fy fx = rw (plus_none s.y, plus_none s.x, add-zero s.n, h) (refl, f, omega arith, omega arith)
grown v s false h f fy fx = (rw h, record { y = sum_more s.n s.y v.y f.y fy; x = sum_more s.n s.x v.x f.x fx }, omega arith, omega arith)

made : (v : Mv) (s : Sum) (e : Bool) (y x : ℤ) → is_empty v ≡ e → Fair s → SFits w32 v.y → SFits w32 v.x → y ≡ s.y +ℤ cond (not e) v.y (pos 0) → x ≡ s.x +ℤ cond (not e) v.x (pos 0)
    → let r : Sum = record { y = y; x = x; n = s.n + bool_byte (not e) } in (r ≡ added v s) × Fair r × (s.n ≤ r.n) × (r.n ≤ s.n + 1)
made v s e y x h f fy fx p q = rw (p, q) (grown v s e h f fy fx)

pub returns : goal.returns
returns c =
    let a = c.args in let i = c.is_empty-there in let fy : SFits w32 a.v.y = search rules in let fx : SFits w32 a.v.x = search rules in
    let py : SFits w64 a.self.y = search rules in let px : SFits w64 a.self.x = search rules in
    let (e, f, l, u) = made a.v a.self i.result _ _ (sym i.ensures) c.requires.fair fy fx
    (sum_of a.self.y _ c.kept.result py (let g : SFits w64 c.kept.result = search rules in g) (kept_of (not i.result) fy c.kept.ensures) (fits_more a.self (not i.result) a.v.y a.self.y c.requires.fair.y c.requires.few fy))
    (sum_of a.self.x _ c.kept-2.result px (let g : SFits w64 c.kept-2.result = search rules in g) (kept_of (not i.result) fx c.kept-2.ensures) (fits_more a.self (not i.result) a.v.x a.self.x c.requires.fair.x c.requires.few fx)) in
    rw c.from.ensures (record { sum = e; fair = f; no_fewer = l; one_more = u })
