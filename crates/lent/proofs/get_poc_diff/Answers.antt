-- `lent::get_poc_diff` meets its contract. Assumes nothing.
use Rattle.std.proofs.Common.{rules, List, ◌≡◌, refl, ℕ, ℤ, w32, SFits}
use Rattle.std.specs.Prelude.{Ok}
use Rattle.intops.proofs.Signed.{back}
use Rattle.env.specs.Hints.{SaidDiff}
use Rattle.lent.specs.Lent.{GivesDiff}
use Rattle.lent.proofs.get_poc_diff.Goals as goal

gives : {s t : SaidDiff} {r : ℕ} {before after : List ℤ} → s ≡ t → GivesDiff s r before after → GivesDiff t r before after
gives e h = rw e at h

pub returns-in-Ok : goal.returns-in-Ok
returns-in-Ok c =
    let d = c.in-Ok.d in
    let e : c.get_poc_diff.result ≡ Ok d = search rules in
    let f : SFits w32 d = search rules in
    simp back (gives (rw e at c.get_poc_diff.ensures) (record { number = refl; buffer = refl }))
