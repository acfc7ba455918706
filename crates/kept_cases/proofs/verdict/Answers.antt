-- `kept_cases::verdict` meets its contract. Assumes nothing.
use Rattle.std.proofs.Common.{sym, length-take-le, w8, w32, SFits}
use Rattle.cases.proofs.Verdicts.{when_agrees}
use Rattle.kept_cases.proofs.KeptCase.{lent, lent_bytes}
use Rattle.kept_cases.proofs.verdict.Goals as goal

pub returns : goal.returns
returns c =
    let n = c.args.cells.now in
    let e1 = c.in_ok-copy.ensures in let e2 = c.in_ok-copy-2.ensures in let e3 = c.in_ok-copy-3.ensures in let e4 = c.in_ok-copy-4.ensures in
    let e5 = c.in_ok-copy-5.ensures in let e6 = c.in_ok-copy-6.ensures in let e7 = c.in_ok-copy-7.ensures in let e8 = c.in_ok-copy-8.ensures in
    when_agrees c.judge_lists.result (λ w. record {
      store = _;
      planes = _;
      long = record {
        l0 = sym (length-take-le _ _ e1.room);
        l1 = sym (length-take-le _ _ e2.room);
        l2 = sym (length-take-le _ _ e3.room);
        l3 = sym (length-take-le _ _ e4.room);
        l4 = sym (length-take-le _ _ e5.room);
        l5 = sym (length-take-le _ _ e6.room);
        l6 = sym (length-take-le _ _ e7.room);
        l7 = sym (length-take-le _ _ e8.room);
      };
      listed = record {
        field_y = lent (SFits w32) n 0 _ _ e1.room e1.copied;
        field_x = lent (SFits w32) n 2048 _ _ e2.room e2.copied;
        field_ref = lent_bytes n 4096 _ _ e3.room e3.copied;
        traj_y = lent (SFits w32) n 6144 _ _ e4.room e4.copied;
        traj_x = lent (SFits w32) n 13318 _ _ e5.room e5.copied;
        map_y = lent (SFits w8) n 20492 _ _ e6.room e6.copied;
        map_x = lent (SFits w8) n 42002 _ _ e7.room e7.copied;
      };
      planes_listed = lent (SFits w8) n 63512 _ _ e8.room e8.copied;
      agrees = w;
    }) c.judge_lists.ensures
