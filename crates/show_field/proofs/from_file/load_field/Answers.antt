-- `show_field::from_file::load_field` meets its contract. Assumes nothing.
use Rattle.std.proofs.Common.{refl, ap, subst, ◌∙◌, ◌≤◌, arith, rules, length}
use Rattle.io.proofs.Counting.{prefix_len_of_le}
use Rattle.show_field.specs.Shown.{columns_of, file_frame, no_planes, HasField}
use Rattle.framefile.proofs.Planes.{head_within}
use Rattle.framefile.specs.File.{present_of, ends_of}
use Rattle.loads.specs.Frame.{After}
use Rattle.show_field.proofs.Parts.{planes_as, loaded_as}
use Rattle.load.specs.Load.{wide_of, high_of}
use Rattle.show_field.proofs.from_file.load_field.Goals as goal

pub columns_of-n-requires : goal.columns_of-n-requires
columns_of-n-requires c =
    let f = c.args.file.now in
    let h = head_within (present_of f) (columns_of f) (wide_of (file_frame f)) (high_of (file_frame f)) 7 in
    omega (arith, h, c.requires.long)

pub read_ends-requires : goal.read_ends-requires
read_ends-requires c =
    let f = c.args.file.now in
    let h = head_within (present_of f) (columns_of f) (wide_of (file_frame f)) (high_of (file_frame f)) 7 in
    let n = c.columns_of-n.ensures in record { columns = n.most; in_file = omega (arith, h, n.value, c.requires.long); room = n.most }

pub present_of-present-requires : goal.present_of-present-requires
present_of-present-requires c =
    let f = c.args.file.now in
    let h = head_within (present_of f) (columns_of f) (wide_of (file_frame f)) (high_of (file_frame f)) 7 in
    omega (arith, h, c.requires.long)

pub put_planes-requires : goal.put_planes-requires
put_planes-requires c =
    let f = c.args.file.now in
    let h = head_within (present_of f) (columns_of f) (wide_of (file_frame f)) (high_of (file_frame f)) 7 in
    let wide = c.wide_of.ensures in
    let high = c.high_of.ensures in
    let stride = c.stride_of.ensures in
    let n = c.columns_of-n.ensures in
    record {
      columns = n.most;
      narrow = omega (arith, wide, stride.value);
      stride = omega (arith, stride.value, c.requires.width);
      high = omega (arith, high.value, c.requires.height);
      in_file = rw (c.present_of-present.ensures, n.value, wide, high.value, c.requires.frame) c.requires.long;
      room = omega (arith, c.filled-planes.ensures.long);
    }

pub bounds-file-100 : goal.bounds-file-100
bounds-file-100 c =
    let f = c.args.file.now in
    let h : 103 ≤ length f = omega (arith, head_within (present_of f) (columns_of f) (wide_of (file_frame f)) (high_of (file_frame f)) 7, c.requires.long) in
    search rules

pub bounds-file-101 : goal.bounds-file-101
bounds-file-101 c =
    let f = c.args.file.now in
    let h : 103 ≤ length f = omega (arith, head_within (present_of f) (columns_of f) (wide_of (file_frame f)) (high_of (file_frame f)) 7, c.requires.long) in
    search rules

pub slice_bounds-load_tiles-end-2 : goal.slice_bounds-load_tiles-end-2
slice_bounds-load_tiles-end-2 c = (prefix_len_of_le c.columns_of-n.result c.read_ends.new.ends (omega (arith, c.columns_of-n.ensures.most, c.read_ends.auto))).1

pub returns : goal.returns
unfolding no_planes
returns c =
    let f = c.args.file.now in
    let fe = c.requires.frame in
    let n = c.columns_of-n.ensures.value in
    let pe = c.put_planes.ensures ∙ planes_as f c.args.setup.now fe _ _ _ _ _ _ c.present_of-present.ensures n c.wide_of.ensures c.high_of.ensures.value c.stride_of.ensures.value c.filled-planes.ensures.elements in
    let ee = c.read_ends.ensures ∙ ap (ends_of f) n in
    let e = loaded_as f c.args.setup.now fe _ _ _ _ refl refl pe ee in
    let t = c.load_tiles.ensures in
    record { same_field = t.same_field; refusal = t.refusal ∙ ap (λ (a : After). a.number) e; loaded = subst (λ (a : After). HasField c.load_tiles.new.field a.store) e t.loaded }

pub load_tiles-requires : goal.load_tiles-requires
load_tiles-requires c = record { height = omega (arith, c.requires.height); empty = c.requires.empty }
