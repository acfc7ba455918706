-- `intersect::clip_sum` meets its contract. Assumes nothing.
use Rattle.std.proofs.Common.{rules, ◌≡◌, ap, ◌∙◌, ℤ, pos, ◌+ℤ◌, ◌-ℤ◌, w32, w64, SFits}
use Rattle.intops.specs.Choice.{clip_z}
use Rattle.intops.proofs.Signed.{back, signed, ud_minus, within_add, within_fits, fits_within, zero_minus}
use Rattle.intersect.proofs.clip_sum.Goals.{Start}
use Rattle.intersect.proofs.clip_sum.Goals as goal

ways : (s : Start) → SFits w32 s.args.a × SFits w32 s.args.b × SFits w64 (s.args.a +ℤ s.args.b) × SFits w32 (pos s.args.bound) × SFits w32 (pos 0 -ℤ pos s.args.bound)
ways s =
    let l = s.ranges.bound.fits in
    (s.ranges.a, s.ranges.b, fits_within w64 tt (within_add (within_fits w32 s.ranges.a) (within_fits w32 s.ranges.b)), omega signed, omega (signed, ud_minus (pos 0) (pos s.args.bound)))

pub returns : goal.returns
returns c =
    let (a, b, s, m, n) = ways (goal.at.returns c).Start in let g = c.args in
    let p : SFits w64 c.from.result = search rules in let q : SFits w64 c.from-2.result = search rules in let r : SFits w32 c.from-m.result = search rules in
    let ea : c.from.result ≡ g.a = simp back at c.from.ensures in
    let eb : c.from-2.result ≡ g.b = simp back at c.from-2.ensures in
    let em : c.from-m.result ≡ pos g.bound = c.from-m.ensures in
    let e : c.iclip64to32.result ≡ clip_z (pos 0 -ℤ pos g.bound) (pos g.bound) (g.a +ℤ g.b) = simp back at (rw (em, ea, eb) at c.iclip64to32.ensures) in
    let f : SFits w32 c.iclip64to32.result = search rules in
    simp back (e ∙ ap (λ (z : ℤ). clip_z z (pos g.bound) (g.a +ℤ g.b)) (zero_minus (pos g.bound)))
