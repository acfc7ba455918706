-- `entry::source_of` meets its contract. Assumes nothing.
use Rattle.std.proofs.Common.{◌≡◌, ◌∙◌, ap, ◌≤◌, arith, nat_abs, w8, w32, SFits, rules, lt-ltb, le-ltb}
use Rattle.env.specs.Hints.{hint_diff}
use Rattle.intops.proofs.Signed.{back, signed, ud}
use Rattle.entry.specs.Entry.{cur, ref2ref_of, ref2idx_of, factors_of, source_of}
use Rattle.entry.proofs.source_of.Goals.{After-unsigned_abs}
use Rattle.entry.proofs.source_of.Goals as goal

-- the difference, and its magnitude
cur_is : (c : After-unsigned_abs) → let d = c.diff-cur.result in (d ≡ cur c.args.h.now.pocs c.args.p.now) × (c.unsigned_abs.result ≡ nat_abs d) × SFits w32 d
cur_is c =
    let d = c.diff-cur.result in let f : SFits w32 d = search rules in
    (c.diff-cur.ensures ∙ ap (λ a. hint_diff c.args.h.now.pocs.nbits a c.args.h.now.pocs.poc) c.hint-hint.ensures, simp back at c.unsigned_abs.ensures.value, f)

pub returns-then-unsigned_abs-gt31 : goal.returns-then-unsigned_abs-gt31
unfolding source_of
returns-then-unsigned_abs-gt31 c =
    let (k, m, f) = cur_is (goal.at.returns-then-unsigned_abs-gt31 c).After-unsigned_abs in
    rw (← k, lt-ltb _ _ (rw m at c.if-unsigned_abs-gt31.true)) c.blank.ensures

pub returns : goal.returns
unfolding source_of ref2ref_of ref2idx_of factors_of
returns c =
    let (k, m, f) = cur_is (goal.at.returns c).After-unsigned_abs in
    let d = c.diff-cur.result in
    let e : nat_abs d ≤ 31 = omega (arith, m, c.if-unsigned_abs-gt31.false) in
    let g : SFits w8 d = omega (signed, ud d) in
    let t : SFits w8 c.target_byte.result = search rules in
    let x = simp back at c.factors.ensures in let y = simp back at c.factors-2.ensures in
    rw (← k, le-ltb _ _ e) (simp back (rw (y, x, c.ref2idx_of.ensures, c.ref2ref_of-ref2ref.ensures, c.hint-hint.ensures, c.index.ensures, ← c.target_byte.ensures)))
