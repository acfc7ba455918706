-- `show_field::from_file::load_tiles` meets its contract. Assumes nothing.
use Rattle.std.proofs.Common.{◌≡◌, refl, ap, ◌∙◌}
use Rattle.store.specs.Store.{pack}
use Rattle.loads.specs.Frame.{After, until_refused}
use Rattle.show_field.specs.Shown.{empty_store}
use Rattle.show_field.proofs.from_file.load_tiles.Goals as goal

pub returns : goal.returns
unfolding empty_store
returns c =
    let q = c.requires.empty in
    let e : pack c.args.field.now.y.now c.args.field.now.x.now c.args.field.now.reference.now empty_store.traj_y empty_store.traj_x empty_store.map_y empty_store.map_x ≡ empty_store = rw (q.y, q.x, q.reference) refl in
    let w = c.load_frame.ensures.loaded ∙ ap (until_refused _) e in
    record {
      same_field = c.load_frame.ensures.same_field;
      refusal = ap (λ (t : After). t.number) w;
      loaded = record { y = ap (λ (t : After). t.store.field_y) w; x = ap (λ (t : After). t.store.field_x) w; reference = ap (λ (t : After). t.store.field_ref) w };
    }
