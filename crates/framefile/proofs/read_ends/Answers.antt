-- `framefile::read_ends` meets its contract. The invariant: the ends that are read, with those that are still to come, are all. Assumes nothing.
use Rattle.std.proofs.Common.{◌≡◌, ap, [], ◌∷◌, ◌++◌, ◌∙◌, ℕ, ◌+◌, ◌<◌, add-one, arith, length, take, set, take-suc-set, length-take-le}
use Rattle.std.proofs.Math.Nat.{sub-zero}
use Rattle.std.proofs.lemmas.Grind.{common_steps}
use Rattle.text.proofs.Joined.{joined_more, joined_all}
use Rattle.framefile.specs.File.{end_at}
use Rattle.framefile.proofs.read_ends.Goals as goal

pub loop-i-init : goal.loop-i-init
loop-i-init c = rw sub-zero

pub loop-i-preserved : goal.loop-i-preserved
loop-i-preserved c =
    let l = c.loop-i in
    let m : length (take c.args.n c.args.ends.now) ≡ c.args.n = length-take-le _ _ c.requires.room in
    let t : l.i < c.args.n = omega (arith, c.loop-i-test.true, m) in
    let p : take (l.i + 1) (set l.end-items l.i c.end_at.result) ≡ take l.i l.end-items ++ (end_at c.args.b.now l.i ∷ []) = rw add-one (take-suc-set l.end-items l.i c.end_at.result (omega (arith, c.loop-i-test.true))) ∙ ap (λ (n : ℕ). take l.i l.end-items ++ (n ∷ [])) c.end_at.ensures in
    joined_more _ _ (λ i. end_at c.args.b.now i ∷ []) c.args.n l.i t l.invariant p

pub returns : goal.returns
returns c =
    let l = c.loop-i in
    let m : length (take c.args.n c.args.ends.now) ≡ c.args.n = length-take-le _ _ c.requires.room in
    let e : length l.end-items ≡ c.args.n = omega (arith, m) in
    let d = joined_all _ _ _ l.i (omega (arith, c.loop-i-test.false, m)) l.invariant in
    grind (arith, common_steps, e, d)
