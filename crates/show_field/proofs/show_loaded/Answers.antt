-- `show_field::show_loaded` meets its contract. Assumes nothing.
use Rattle.std.proofs.Common.{◌∙◌, rules, sym, inl, inr, refl, Some, ap}
use Rattle.std.proofs.lemmas.Result.{err_from_is_err_and}
use Rattle.show_field.specs.Shown.{empty_store}
use Rattle.show_field.proofs.Mapped.{was_ok, was_err, mapped}
use Rattle.show_field.proofs.Shows.{shown}
use Rattle.show_field.proofs.Tests.{loads_fine, loads_refused}
use Rattle.show_field.proofs.show_loaded.Goals as goal

pub load_field-requires : goal.load_field-requires
unfolding empty_store
load_field-requires g c =
    let a = c.requires.complete in
    record { frame = a.frame; width = a.width; height = a.height; long = a.long; empty = record { y = refl; x = refl; reference = refl } }

pub returns-in_err-map_err : goal.returns-in_err-map_err
returns-in_err-map_err g c =
    let p = err_from_is_err_and c.from_residual.result c.from_residual.ensures.1 in
    let m = was_err _ c.load_field.result c.map_err.result c.map_err.ensures.cases c.in_err-map_err.was in
    let t = c.requires.complete.loads ∙ loads_refused c.args.file.now c.load_field.result c.load_field.ensures.refusal m.0 m.1 in
    rw (p.1, p.2) (inl (t ∙ ap Some (sym m.2), refl))

pub write_field-requires-clause-of_file : goal.write_field-requires-clause-of_file
write_field-requires-clause-of_file g c =
    let l = c.load_field.ensures.loaded in
    let same = c.load_field.ensures.same_field in
    let m = was_ok _ c.load_field.result c.map_err.result c.map_err.ensures.cases c.in_ok-map_err.was in
    record {
      file = c.args.file.now;
      fine = c.requires.complete.loads ∙ loads_fine c.args.file.now c.load_field.result c.load_field.ensures.refusal _ m;
      frame = c.requires.complete.frame;
      same_y = search rules ∙ l.y;
      same_x = search rules ∙ l.x;
      same_ref = search rules ∙ l.reference;
    }

pub returns : goal.returns
returns g c =
    let l = c.load_field.ensures.loaded in
    let same = c.load_field.ensures.same_field in
    let w = c.write_field.ensures in
    let m = was_ok _ c.load_field.result c.map_err.result c.map_err.ensures.cases c.in_ok-map_err.was in
    let t = c.requires.complete.loads ∙ loads_fine c.args.file.now c.load_field.result c.load_field.ensures.refusal _ m in
    mapped _ _ _ c.write_field.result c.map_err-2.result c.map_err-2.ensures.cases
    (shown c.write_field.result c.args.wanted c.args.file.now _ _ c.args.setup.now _ _ _ w.written w.all c.requires.complete.frame (search rules ∙ l.y) (search rules ∙ l.x) (search rules ∙ l.reference) t)
    (λ e d h. inr (t, search rules))
