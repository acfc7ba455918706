-- `sample::project_mv` meets its contract. Assumes nothing.
use Rattle.std.proofs.Common.{refl, sym, ◌∙◌, ℕ}
use Rattle.levels.specs.declared.Mv.{Mv}
use Rattle.entry.specs.declared.Source.{Source}
use Rattle.tile.specs.Tiles.{geometry}
use Rattle.landing.proofs.Landings.{landing, lands_nowhere, lands_at}
use Rattle.sample.proofs.Steps.{side_off, lands_off, lands_on}
use Rattle.landing.specs.Entries.{SaysSame}
use Rattle.sample.proofs.project_mv.Goals as goal

same_itself : {v : Mv} {s : Source} {n : ℕ} → SaysSame v s n s n
same_itself = record { slot = refl; tgt = refl; distance = refl; idx = refl; vector = refl; factor = refl }

pub returns-then-not-right_side-clause-stored : goal.returns-then-not-right_side-clause-stored
returns-then-not-right_side-clause-stored c =
    let a = c.args in let e = a.e.now.entry in
    side_off (geometry a.t.now) a.traj a.v a.from.y a.from.x e.source.now e.reference _ (sym c.right_side.ensures ∙ c.if-not-right_side.true)

pub returns-in_default-clause-stored : goal.returns-in_default-clause-stored
returns-in_default-clause-stored c =
    let a = c.args in let e = a.e.now.entry in let w = c.to_source-w.result in
    lands_off (geometry a.t.now) a.traj a.v a.from.y a.from.x e.source.now e.reference _ (sym c.right_side.ensures ∙ c.if-not-right_side.false) w c.to_source-w.ensures
    (lands_nowhere (geometry a.t.now) a.from.y a.from.x w c.landing.result c.landing.ensures c.in_default.is)

pub put_mv-requires-clause-landing : goal.put_mv-requires-clause-landing
put_mv-requires-clause-landing c =
    let a = c.args in let t = geometry a.t.now in let w = c.to_source-w.result in
    let h = lands_at t a.from.y a.from.x w c.landing.result c.landing.ensures c.in-Some.to c.in-Some.is in
    rw (← h.1, ← h.2) (landing t a.t.now.sound a.from.y a.from.x w c.requires.top c.requires.bottom c.requires.column h.0)

pub returns-clause-stored : goal.returns-clause-stored
returns-clause-stored c =
    let a = c.args in let e = a.e.now.entry in let t = geometry a.t.now in let w = c.to_source-w.result in
    let h = lands_at t a.from.y a.from.x w c.landing.result c.landing.ensures c.in-Some.to c.in-Some.is in
    lands_on t a.traj a.v a.from.y a.from.x e.source.now e.reference _ (sym c.right_side.ensures ∙ c.if-not-right_side.false) w c.to_source-w.ensures
    h.0 c.in-Some.to.y c.in-Some.to.x h.1 h.2 _ (c.put_mv.ensures.stored e.source.now e.reference same_itself c.to_source-w.ensures)
