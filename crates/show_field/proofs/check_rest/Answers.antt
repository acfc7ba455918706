-- `show_field::check_rest` meets its contract. Assumes nothing.
use Rattle.std.proofs.Common.{sym, ◌∙◌, ◌≤◌, length, arith}
use Rattle.framefile.proofs.Planes.{head_within}
use Rattle.show_field.specs.Shown.{end_of}
use Rattle.show_field.proofs.Parts.{end_as, columns_as}
use Rattle.show_field.proofs.Tests.{rest_short, rest_columns, rest_long, rest_fine}
use Rattle.show_field.proofs.check_rest.Goals as goal

pub returns-then-file-end : goal.returns-then-file-end
returns-then-file-end c =
    let a = c.requires.accepted in
    let e = c.plane_at-end.ensures ∙ end_as c.args.file.now c.args.setup.now a.frame _ _ _ _ c.present_of-present.ensures c.columns_of-n.ensures.value c.wide_of-wide.ensures c.high_of.ensures.value in
    a.rest ∙ rest_short c.args.file.now (omega (arith, e, c.if-file-end.true))

pub bad_columns-requires : goal.bad_columns-requires
bad_columns-requires c =
    let n = c.columns_of-n in
    record { columns = n.ensures.most; in_file = omega (arith, c.plane_at-end.ensures, head_within c.present_of-present.result n.result c.wide_of-wide.result c.high_of.result 7, c.if-file-end.false) }

pub returns-then-bad_columns : goal.returns-then-bad_columns
returns-then-bad_columns c =
    let a = c.requires.accepted in
    let e = c.plane_at-end.ensures ∙ end_as c.args.file.now c.args.setup.now a.frame _ _ _ _ c.present_of-present.ensures c.columns_of-n.ensures.value c.wide_of-wide.ensures c.high_of.ensures.value in
    let w = c.bad_columns.ensures ∙ columns_as c.args.file.now c.args.setup.now a.frame _ _ c.columns_of-n.ensures.value c.wide_of-wide.ensures in
    a.rest ∙ rest_columns c.args.file.now (omega (arith, e, c.if-file-end.false)) (sym w ∙ c.if-bad_columns.true)

pub returns-then-end-file : goal.returns-then-end-file
returns-then-end-file c =
    let a = c.requires.accepted in
    let e = c.plane_at-end.ensures ∙ end_as c.args.file.now c.args.setup.now a.frame _ _ _ _ c.present_of-present.ensures c.columns_of-n.ensures.value c.wide_of-wide.ensures c.high_of.ensures.value in
    let w = c.bad_columns.ensures ∙ columns_as c.args.file.now c.args.setup.now a.frame _ _ c.columns_of-n.ensures.value c.wide_of-wide.ensures in
    a.rest ∙ rest_long c.args.file.now (omega (arith, e, c.if-file-end.false)) (sym w ∙ c.if-bad_columns.false) (omega (arith, e, c.if-end-file.true))

pub returns : goal.returns
returns c =
    let a = c.requires.accepted in
    let e = c.plane_at-end.ensures ∙ end_as c.args.file.now c.args.setup.now a.frame _ _ _ _ c.present_of-present.ensures c.columns_of-n.ensures.value c.wide_of-wide.ensures c.high_of.ensures.value in
    let w = c.bad_columns.ensures ∙ columns_as c.args.file.now c.args.setup.now a.frame _ _ c.columns_of-n.ensures.value c.wide_of-wide.ensures in
    let whole : end_of c.args.file.now ≤ length c.args.file.now = omega (arith, e, c.if-file-end.false) in
    record {
      loads = a.rest ∙ rest_fine c.args.file.now whole (sym w ∙ c.if-bad_columns.false) (omega (arith, e, c.if-end-file.false));
      frame = a.frame;
      width = a.width;
      height = a.height;
      long = whole;
    }
