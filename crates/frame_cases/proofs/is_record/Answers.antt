-- `frame_cases::is_record` meets its contract. Assumes nothing.
use Rattle.std.proofs.Common.{◌≡◌, length, arith, pos, rules, List, ap, ◌∙◌, ℤ}
use Rattle.std.proofs.lemmas.Option.{slice_get-get_or}
use Rattle.cases.specs.Numbers.{at}
use Rattle.cases.proofs.Verdicts.{when_true}
use Rattle.frame_cases.specs.FrameCase.{record_of}
use Rattle.frame_cases.proofs.is_record.Goals as goal

pub returns : goal.returns
unfolding record_of
returns c =
    let long : length c.put_frame.new.out ≡ 171 = search rules in
    when_true c.same.result
    (λ same k h. same k (at c.put_frame.new.out k) (slice_get-get_or c.put_frame.new.out k (pos 0) (omega (arith, long))) ∙ ap (λ (l : List ℤ). at l k) c.put_frame.ensures)
    c.same.ensures
