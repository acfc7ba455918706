use Rattle.std.proofs.Common.{◌≡◌, ◌+◌, ◌-◌, nat_abs, true≢false, refl, ◌∙◌, arith, rules, w64}
use mir.Facts.{to_z-of_z}
use mir.Val.{SFits}
use Rattle.cases.specs.Numbers.{at}
use Rattle.cases.proofs.Verdicts.{passed, roomy}
use Rattle.replay_loads.specs.Lists.{start_of, Lies}
use Rattle.replay_loads.proofs.Runs.{rest_all, run_as}
use Rattle.replay_loads.proofs.lists.put.Goals as goal

pub returns : goal.returns
returns c =
    let n = c.args.n.now in
    let l : Lies c.args.lengths.now n = passed c.lies.result c.if-not-lies.false-raw c.lies.ensures in
    let f0 : SFits w64 (at n 0) = search rules in
    let f1 : SFits w64 (at n 1) = search rules in
    let f2 : SFits w64 (at n 2) = search rules in
    let list : c.to_usize.result ≡ nat_abs (at n 0) = (simp to_z-of_z at c.to_usize.ensures) (roomy {h = 95768} (omega arith) (l.whole 0 (omega arith) (omega arith))) in
    let from : c.to_usize-2.result ≡ nat_abs (at n 1) = (simp to_z-of_z at c.to_usize-2.ensures) (roomy {h = 95768} (omega arith) (l.whole 1 (omega arith) (omega arith))) in
    let count : c.to_usize-3.result ≡ nat_abs (at n 2) = (simp to_z-of_z at c.to_usize-3.ensures) (roomy {h = 95768} (omega arith) (l.whole 2 (omega arith) (omega arith))) in
    let start = c.start_of in
    let first : start.result + c.to_usize-2.result ≡ start_of (nat_abs (at n 0)) + nat_abs (at n 1) = rw (start.ensures.value, list, from) refl in
    let many : start.result + c.to_usize-2.result + c.to_usize-3.result - (start.result + c.to_usize-2.result) ≡ nat_abs (at n 2) = omega (arith, count) in
    record { put = λ e. (l, c.put_run.ensures ∙ run_as c.args.to.now (rest_all n) many first); left = λ e. absurd (true≢false e) }
