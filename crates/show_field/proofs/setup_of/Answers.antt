-- `show_field::setup_of` meets its contract. Assumes nothing.
use Rattle.std.proofs.Common.{Some, arith, sym, ap, subst, ◌∙◌, ◌≤◌, ◌<◌}
use Rattle.frame.specs.declared.Frame.{Frame}
use Rattle.levels.specs.declared.Refusal.{Refusal}
use Rattle.levels.proofs.Refusals.{number_pos}
use Rattle.show_field.specs.declared.problems.Problem.TheVariants.{Setup}
use Rattle.show_field.specs.Shown.{said_of}
use Rattle.std.proofs.lemmas.Result.{err_from_is_err_and}
use Rattle.show_field.proofs.Mapped.{was_ok, was_err}
use Rattle.show_field.proofs.Parts.{refused_as, setup_as}
use Rattle.show_field.proofs.Tests.{head_short, no_file, no_setup, too_wide, too_high, head_fine, said_as}
use Rattle.show_field.proofs.setup_of.Goals as goal

pub returns-then-file-lt103 : goal.returns-then-file-lt103
returns-then-file-lt103 c = head_short c.args.file.now c.if-file-lt103.true

pub returns-then-not-is_frame_file : goal.returns-then-not-is_frame_file
returns-then-not-is_frame_file c = no_file c.args.file.now c.if-file-lt103.false (sym c.is_frame_file.ensures ∙ c.if-not-is_frame_file.true)

pub returns-in_err-setup : goal.returns-in_err-setup
returns-in_err-setup c =
    let f = c.args.file.now in
    let long = c.if-file-lt103.false in
    let file = sym c.is_frame_file.ensures ∙ c.if-not-is_frame_file.false in
    let p = err_from_is_err_and c.from_residual.result c.from_residual.ensures.1 in
    let m = was_err _ c.init_frame.result c.map_err.result c.map_err.ensures.cases c.in_err-setup.was in
    let r = m.0 in
    let e = refused_as f c.header_of.result c.init_frame.result r m.1 c.header_of.ensures c.init_frame.ensures in
    let t = no_setup f long file (λ z. omega (arith, number_pos r, e ∙ z)) ∙ ap (λ (s : Refusal). Some (Setup s)) (ap said_of (sym e) ∙ said_as r) in
    rw (p.1, p.2) (t ∙ ap Some (sym m.2))

pub returns-then-setup-gt2048 : goal.returns-then-setup-gt2048
returns-then-setup-gt2048 c =
    let f = c.args.file.now in
    let long = c.if-file-lt103.false in
    let file = sym c.is_frame_file.ensures ∙ c.if-not-is_frame_file.false in
    let e = setup_as f c.header_of.result c.init_frame.result c.in_ok-setup.setup (was_ok _ c.init_frame.result c.map_err.result c.map_err.ensures.cases c.in_ok-setup.was) c.header_of.ensures c.init_frame.ensures in
    too_wide f long file (sym e.0) (subst (λ (g : Frame). 2048 < g.width) e.1 c.if-setup-gt2048.true)

pub returns-then-setup-gt2048-2 : goal.returns-then-setup-gt2048-2
returns-then-setup-gt2048-2 c =
    let f = c.args.file.now in
    let long = c.if-file-lt103.false in
    let file = sym c.is_frame_file.ensures ∙ c.if-not-is_frame_file.false in
    let e = setup_as f c.header_of.result c.init_frame.result c.in_ok-setup.setup (was_ok _ c.init_frame.result c.map_err.result c.map_err.ensures.cases c.in_ok-setup.was) c.header_of.ensures c.init_frame.ensures in
    let wide = subst (λ (g : Frame). g.width ≤ 2048) e.1 c.if-setup-gt2048.false in
    too_high f long file (sym e.0) wide (subst (λ (g : Frame). 2048 < g.height) e.1 c.if-setup-gt2048-2.true)

pub returns : goal.returns
returns c =
    let f = c.args.file.now in
    let long = c.if-file-lt103.false in
    let file = sym c.is_frame_file.ensures ∙ c.if-not-is_frame_file.false in
    let e = setup_as f c.header_of.result c.init_frame.result c.in_ok-setup.setup (was_ok _ c.init_frame.result c.map_err.result c.map_err.ensures.cases c.in_ok-setup.was) c.header_of.ensures c.init_frame.ensures in
    let wide = subst (λ (g : Frame). g.width ≤ 2048) e.1 c.if-setup-gt2048.false in
    let high = subst (λ (g : Frame). g.height ≤ 2048) e.1 c.if-setup-gt2048-2.false in
    record {
      rest = head_fine f long file (sym e.0) wide high;
      frame = e.1;
      width = c.if-setup-gt2048.false;
      height = c.if-setup-gt2048-2.false;
      long = long;
    }
