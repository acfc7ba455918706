-- `frame::tip_of` meets its contract. Assumes nothing.
use Rattle.std.proofs.Common.{eq-eqb, pos, get_or, w32, SFits, w8, rules}
use Rattle.intops.proofs.Signed.{back}
use Rattle.frame.specs.Frame.{tip_of}
use Rattle.frame.proofs.Laws.{tip_is}
use Rattle.frame.proofs.tip_of.Goals as goal

pub returns-then-mode-eq0 : goal.returns-then-mode-eq0
unfolding tip_of
returns-then-mode-eq0 c = rw (eq-eqb _ _ c.if-mode-eq0.true)

pub returns : goal.returns
returns c =
    let a = c.args in let d = c.tip_diff-d.result in let k = a.c.now in let ds = k.diff in
    let f : SFits w32 d = search rules in
    let u : SFits w8 (get_or ds c.index.result (pos 0)) = search rules in
    let v : SFits w8 (get_or ds c.index-2.result (pos 0)) = search rules in
    let i : SFits w8 c.in_byte.result = search rules in
    let p : SFits w32 c.ratio.result = search rules in let q : SFits w32 c.ratio-2.result = search rules in
    let x = simp back at (rw c.from.ensures at c.ratio.ensures) in let y = simp back at (rw c.from-2.ensures at c.ratio-2.ensures) in
    simp back (tip_is k.hints.hints.pocs a.mode a.both a.pair.first a.pair.second d ds _ _ _ _ c.if-mode-eq0.false c.tip_diff-d.ensures k.diffs
    (simp back at c.unsigned_abs.ensures.value) c.in_byte.ensures (rw c.index.ensures at x) (rw c.index-2.ensures at y))
