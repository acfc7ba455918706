-- `cases::numbers` meets its contract. Assumes nothing.
use Rattle.std.proofs.Common.{◌≡◌, ap, ◌∙◌, ◌+◌, ◌<◌, ℕ, length, pos, arith, ℤ}
use Rattle.std.proofs.lemmas.List.{ext_get_or, length-replicate}
use Rattle.std.proofs.lemmas.Option.{slice_get-get_or}
use Rattle.cases.specs.Numbers.{at}
use Rattle.cases.proofs.Elements.{all_32}
use Rattle.cases.proofs.numbers.Goals as goal

pub returns : goal.returns
returns g c =
    let told = λ (i : ℕ) (l : i < length c.read.new.to). c.in_ok-read.ensures.read i (at c.read.new.to i) (slice_get-get_or c.read.new.to i (pos 0) l) in
    let same = λ (i : ℕ) (l : i < length c.read.new.to). let e : 0 + i ≡ i = omega arith in let s : at c.read.new.to i ≡ at c.args.n.now i = (told i l).1 ∙ ap (at c.args.n.now) e in s in
    record {
      same = ext_get_or (pos 0) c.read.new.to c.args.n.now (omega (arith, c.read.auto.to, c.if-n.false, length-replicate {A = ℤ})) same;
      fit = all_32 c.read.new.to (λ i l. let e : at c.read.new.to i ≡ at c.args.n.now (0 + i) = (told i l).1 in rw e (told i l).0);
    }
