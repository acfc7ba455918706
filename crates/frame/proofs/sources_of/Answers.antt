-- `frame::sources_of` meets its contract. Assumes nothing.
use Rattle.std.proofs.Common.{lt-ltb, le-ltb, eq-eqb, ne_eqb}
use Rattle.frame.specs.Frame.{sources_of}
use Rattle.frame.proofs.Laws.{picked_fine}
use Rattle.frame.proofs.sources_of.Goals.{then-not-f-via-then-not-f, then-not-f-via-else-not-f+then-pocs-eq0, then-not-f-via-else-not-f+else-pocs-eq0+then-pocs-lt2}
use Rattle.frame.proofs.sources_of.Goals as goal

pub returns-then-not-f : goal.returns-then-not-f
unfolding sources_of
returns-then-not-f c =
    rw c.no_sources.ensures (rw (← c.requires.hints)
    (elim c.then-not-f.branch [
      | then-not-f-via-then-not-f w ↦ rw (w.if-not-f.true)
      | then-not-f-via-else-not-f+then-pocs-eq0 w ↦ rw (w.if-not-f.false, eq-eqb _ _ w.if-pocs-eq0.true)
      | then-not-f-via-else-not-f+else-pocs-eq0+then-pocs-lt2 w ↦ rw (w.if-not-f.false, ne_eqb _ _ w.if-pocs-eq0.false, lt-ltb _ _ w.if-pocs-lt2.true)
    ]))

pub fill_sources-requires : goal.fill_sources-requires
fill_sources-requires c =
    let f = c.args.f.now in let h = c.args.c.now.hints in let p = c.args.pair in
    rw (c.pick_sources-p.ensures) (picked_fine h.hints.pocs f.rp_ref f.tip _ _ h.few_slots p.first_low p.second_low)

pub returns : goal.returns
unfolding sources_of
returns c =
    rw (← c.requires.hints, c.if-not-f.false, ne_eqb _ _ c.if-pocs-eq0.false, le-ltb _ _ c.if-pocs-lt2.false, ← c.requires.first, ← c.requires.second, ← c.pick_sources-p.ensures)
    c.fill_sources.ensures
