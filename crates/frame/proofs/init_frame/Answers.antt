-- `frame::init_frame` meets its contract. Assumes nothing.
use Rattle.std.proofs.Common.{◌≡◌, sym, ◌∙◌, Err, rules}
use Rattle.levels.specs.Answer.{number_of}
use Rattle.frame.specs.Frame.{refusal_of}
use Rattle.frame.proofs.Laws.{refused, passed, hints_first, hints_none, setup_refused, setup_made}
use Rattle.frame.proofs.init_frame.Goals as goal

pub returns-in_err-h : goal.returns-in_err-h
returns-in_err-h c =
    let f = c.args.f.now in let r = c.in_err-h.field-0.0 in
    let k : c.from_residual.result ≡ Err r = search rules in
    let b = c.in_err-h.ensures in
    rw (k, setup_refused f r (hints_first f r (sym b.0)))

pub returns-in_err-check_superblock : goal.returns-in_err-check_superblock
unfolding refusal_of
returns-in_err-check_superblock c =
    let f = c.args.f.now in let r = c.in_err-check_superblock.field-0.0 in
    let k : c.from_residual-in_err-check_superblock.result ≡ Err r = search rules in
    let h = c.in_ok-h.ensures in let (p, q) = hints_none f (sym h.0) in
    let (t, e) = refused _ _ r (sym c.check_superblock.ensures ∙ c.in_err-check_superblock.was) in
    let n : refusal_of f ≡ number_of r = rw (p, q, t) (rw (← e)) in
    rw (k, setup_refused f r n)

pub returns-in_err-check_step : goal.returns-in_err-check_step
unfolding refusal_of
returns-in_err-check_step c =
    let f = c.args.f.now in let r = c.in_err-check_step.field-0.0 in
    let k : c.from_residual-in_err-check_step.result ≡ Err r = search rules in
    let h = c.in_ok-h.ensures in let (p, q) = hints_none f (sym h.0) in
    let check_superblock = passed _ _ _ (sym c.check_superblock.ensures ∙ c.in_ok-check_superblock.was) in
    let (t, e) = refused _ _ r (sym c.check_step.ensures ∙ c.in_err-check_step.was) in
    let n : refusal_of f ≡ number_of r = rw (p, q, check_superblock, t) (rw (← e)) in
    rw (k, setup_refused f r n)

pub returns-in_err-check_size : goal.returns-in_err-check_size
unfolding refusal_of
returns-in_err-check_size c =
    let f = c.args.f.now in let r = c.in_err-check_size.field-0.0 in
    let k : c.from_residual-in_err-check_size.result ≡ Err r = search rules in
    let h = c.in_ok-h.ensures in let (p, q) = hints_none f (sym h.0) in
    let check_superblock = passed _ _ _ (sym c.check_superblock.ensures ∙ c.in_ok-check_superblock.was) in
    let check_step = passed _ _ _ (sym c.check_step.ensures ∙ c.in_ok-check_step.was) in
    let (t, e) = refused _ _ r (sym c.check_size.ensures ∙ c.in_err-check_size.was) in
    let n : refusal_of f ≡ number_of r = rw (p, q, check_superblock, check_step, t) (rw (← e)) in
    rw (k, setup_refused f r n)

pub returns-in_err-check_tip : goal.returns-in_err-check_tip
unfolding refusal_of
returns-in_err-check_tip c =
    let f = c.args.f.now in let r = c.in_err-check_tip.field-0.0 in
    let k : c.from_residual-in_err-check_tip.result ≡ Err r = search rules in
    let h = c.in_ok-h.ensures in let (p, q) = hints_none f (sym h.0) in
    let check_superblock = passed _ _ _ (sym c.check_superblock.ensures ∙ c.in_ok-check_superblock.was) in
    let check_step = passed _ _ _ (sym c.check_step.ensures ∙ c.in_ok-check_step.was) in
    let check_size = passed _ _ _ (sym c.check_size.ensures ∙ c.in_ok-check_size.was) in
    let (t, e) = refused _ _ r (sym c.check_tip.ensures ∙ c.in_err-check_tip.was) in
    let n : refusal_of f ≡ number_of r = rw (p, q, check_superblock, check_step, check_size, t) (rw (← e)) in
    rw (k, setup_refused f r n)

pub returns : goal.returns
unfolding refusal_of
returns c =
    let f = c.args.f.now in
    let h = c.in_ok-h.ensures in let (p, q) = hints_none f (sym h.0) in
    let check_superblock = passed _ _ _ (sym c.check_superblock.ensures ∙ c.in_ok-check_superblock.was) in
    let check_step = passed _ _ _ (sym c.check_step.ensures ∙ c.in_ok-check_step.was) in
    let check_size = passed _ _ _ (sym c.check_size.ensures ∙ c.in_ok-check_size.was) in
    let check_tip = passed _ _ _ (sym c.check_tip.ensures ∙ c.in_ok-check_tip.was) in
    let n : refusal_of f ≡ 0 = rw (p, q, check_superblock, check_step, check_size, check_tip) in
    rw (c.frame_of.ensures, setup_made f n)
