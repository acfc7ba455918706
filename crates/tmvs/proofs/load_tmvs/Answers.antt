-- `tmvs::load_tmvs` meets its contract. Assumes nothing.
use Rattle.std.proofs.Common.{◌≡◌, refl, sym, arith, rules}
use Rattle.levels.proofs.Refusals.{number_pos}
use Rattle.store.specs.Store.{Store}
use Rattle.field.specs.Lent.{store_of}
use Rattle.tile.specs.Geometry.{Geometry}
use Rattle.load.specs.Asked.{call_of}
use Rattle.load.specs.Load.{Call, tile_of}
use Rattle.load.specs.Calls.{answer}
use Rattle.tmvs.proofs.Calls.{Ready, ready, loaded, turned_back}
use Rattle.tmvs.proofs.load_tmvs.Goals.{Start}
use Rattle.tmvs.proofs.load_tmvs.Goals as goal

-- the call, and the store as it is lent
abbrev asked : Start → Call
asked s = let a = s.args in call_of a.setup.now a.asked a.planes.now

abbrev was : Start → Store
was s = let a = s.args in store_of a.field.now a.trajectories.now a.maps.now

-- what an accepted call shows
shown : (s : Start) {t : Geometry} → (answer (asked s) (was s) ≡ 0) × (t ≡ tile_of (asked s)) → Ready (asked s) (was s) t
shown s h = ready (asked s) (was s) h.0 _ h.1

pub returns-in_err-t-clause-answer : goal.returns-in_err-t-clause-answer
returns-in_err-t-clause-answer c = let e = c.in_err-t.ensures in search rules

pub returns-in_err-t-clause-stored : goal.returns-in_err-t-clause-stored
returns-in_err-t-clause-stored c =
    let s = (goal.at.returns-in_err-t-clause-stored c).Start in turned_back (asked s) (was s) (λ h. omega (arith, number_pos c.in_err-t.field-0.0, c.in_err-t.ensures, h))

pub load_tile-requires-clause-row_mode : goal.load_tile-requires-clause-row_mode
load_tile-requires-clause-row_mode c = (shown (goal.at.load_tile-requires-clause-row_mode c).Start c.in_ok-t.ensures).row_mode

pub load_tile-requires-clause-planes : goal.load_tile-requires-clause-planes
load_tile-requires-clause-planes c = (shown (goal.at.load_tile-requires-clause-planes c).Start c.in_ok-t.ensures).planes

pub load_tile-requires-clause-fine : goal.load_tile-requires-clause-fine
load_tile-requires-clause-fine c = (shown (goal.at.load_tile-requires-clause-fine c).Start c.in_ok-t.ensures).fine

pub load_tile-requires-clause-slots : goal.load_tile-requires-clause-slots
load_tile-requires-clause-slots c = (shown (goal.at.load_tile-requires-clause-slots c).Start c.in_ok-t.ensures).slots

pub load_tile-requires-clause-field : goal.load_tile-requires-clause-field
load_tile-requires-clause-field c = (shown (goal.at.load_tile-requires-clause-field c).Start c.in_ok-t.ensures).field

pub load_tile-requires-clause-trajectories : goal.load_tile-requires-clause-trajectories
load_tile-requires-clause-trajectories c = (shown (goal.at.load_tile-requires-clause-trajectories c).Start c.in_ok-t.ensures).trajectories

pub load_tile-requires-clause-maps : goal.load_tile-requires-clause-maps
load_tile-requires-clause-maps c = (shown (goal.at.load_tile-requires-clause-maps c).Start c.in_ok-t.ensures).maps

pub returns-clause-answer : goal.returns-clause-answer
returns-clause-answer c = sym c.in_ok-t.ensures.0

pub returns-clause-stored : goal.returns-clause-stored
returns-clause-stored c = let s = (goal.at.returns-clause-stored c).Start in let e = c.in_ok-t.ensures in loaded (asked s) (was s) e.0 _ e.1 _ (c.load_tile.ensures.stored (asked s) (record { setup = refl; whole_frame = refl; traj = refl; holes = refl; planes = refl }))
