-- Laws of a kept pass: what its tests say of the tile, the pass of each kind, its verdict. Assumes nothing.
use Rattle.std.proofs.Common.{◌≡◌, refl, sym, ap, ◌∙◌, subst, Bool, false, not, cond, List, [], ℕ, ◌*◌, ℤ, pos, negsuc, replicate}
use Rattle.std.proofs.Math.ListN.{length-replicate}
use Rattle.intops.specs.Bounds.{Within}
use Rattle.intops.proofs.Signed.{signed, ud, within_of}
use Rattle.frame.specs.declared.Frame.{Frame}
use Rattle.store.specs.Store.{Store}
use Rattle.store.specs.Program.{Prog, run, when}
use Rattle.tile.specs.Geometry.{Geometry}
use Rattle.tile.specs.Owner.{owns}
use Rattle.tile.specs.Sound.{FieldHeld, TrajHeld, MapHeld}
use Rattle.field.specs.Field.{copy_above, empty_field}
use Rattle.traj.specs.Traj.{empty_trajs}
use Rattle.load.specs.declared.Asked.{Asked}
use Rattle.load.specs.Asked.{call_of}
use Rattle.load.specs.Load.{high_of, stride_of, tile_of}
use Rattle.load.specs.Calls.{tile_fits}
use Rattle.load.proofs.Accepted.{in_range, columns}
use Rattle.load.proofs.Held.{long, field_held, traj_held, map_held}
use Rattle.cases.specs.Numbers.{Inside, Is32}
use Rattle.load_cases.specs.LoadCase.{asked_at, call_at, StoreListed}
use Rattle.frame_cases.specs.FrameCase.{record_of, Stated}
use Rattle.pass_cases.specs.declared.pass.Kind.{Kind}
use Rattle.pass_cases.specs.declared.pass.Kind.TheVariants.{Emptying, TipProjection, FillHoles, Smoothen, FillGapProj, FillGapTraj, CheckTrajIntersect}
use Rattle.pass_cases.specs.declared.pass.Pass.{Pass}
use Rattle.pass_cases.specs.PassCase.{emptying, meeting, pass_of, after_pass, Accepted, PassAgrees}
use Rattle.pass_cases.specs.Code.{code, Asks, program_of, Ran}

-- a vector's part of a line
pub short : {z : ℤ} → Inside (negsuc 65534) (pos 65535) z → Is32 z × Within 65535 z
short {z} i = (record { least = omega (signed, i.least); most = omega (signed, i.most) }, within_of z (omega (signed, i.least, i.most, ud z)))

-- what the passes ask of a tile, in a mode, and of the lists
pub record Ready (whole_frame : Bool) (s : Store) (t : Geometry) : Type 0 where
  pub row_mode : whole_frame ≡ false → t.offset ≡ 3 * t.stride
  pub field : FieldHeld t s.field_y s.field_x s.field_ref
  pub trajectories : TrajHeld t s.traj_y s.traj_x
  pub maps : MapHeld t s.map_y s.map_x

module _ (f : Frame) (a : Asked) (s : Store) (h : Accepted f a s) where
  own_tile : Ready a.whole_frame s (tile_of (call_of f a []))
  unfolding tile_of tile_fits
  own_tile =
      let k : ℕ = 6 * (7 * (high_of f * stride_of f)) in
      let p : List ℤ = replicate k (pos 0) in
      let c = call_of f a p in
      let r = in_range f h.setup in let b = columns c h.tile in let l = long c s (h.long p (length-replicate k (pos 0))) in
      record {
        row_mode = λ e. ap (λ (w : Bool). cond w a.row_start 3 * stride_of f) e;
        field = field_held c s l r b;
        trajectories = traj_held c s l;
        maps = map_held c s l;
      }

  pub ready : (t : Geometry) → t ≡ tile_of (call_of f a []) → Ready a.whole_frame s t
  ready t e = subst (Ready a.whole_frame s) (sym e) own_tile

-- the pass that the numbers of a line ask for
meeting_is : (t : Geometry) (a : Asked) (d : ℤ) (n : List ℤ) (p : Pass) → Asks n p → program_of t a d p CheckTrajIntersect ≡ meeting t n
meeting_is t a d n p k = rw (k.a, k.b, k.y, k.x, k.mv) refl

is_pass : (t : Geometry) (a : Asked) (d : ℤ) (n : List ℤ) (p : Pass) → Asks n p → (k : Kind) → program_of t a d p k ≡ pass_of t a.whole_frame a.traj d n (code k)
unfolding pass_of
is_pass t a d n p k Emptying = refl
is_pass t a d n p k TipProjection = refl
is_pass t a d n p k FillHoles = refl
is_pass t a d n p k Smoothen = refl
is_pass t a d n p k FillGapProj = refl
is_pass t a d n p k FillGapTraj = refl
is_pass t a d n p k CheckTrajIntersect = meeting_is t a d n p k

after : (f : Frame) (n : List ℤ) (p : Pass) → Asks n p → (s u : Store) → Ran f (asked_at n 7) p s u → u ≡ after_pass (call_at f n 7 []) n s
after f n p k s u r =
    let a = asked_at n 7 in let t = tile_of (call_of f a []) in let d = f.tip.delta in
    r.left ∙ ap (λ (q : Prog). run (owns t) q s) (is_pass t a d n p k p.kind) ∙ ap (λ (i : ℕ). run (owns t) (pass_of t a.whole_frame a.traj d n i) s) k.kind

-- the emptying in its order
pub emptied : (t : Geometry) (w j : Bool) (u v x y : Store) → v ≡ run (owns t) (when (not w) (copy_above t)) u → x ≡ run (owns t) (empty_field t) v
    → y ≡ run (owns t) (when j (empty_trajs t)) x → y ≡ run (owns t) (emptying t w j) u
emptied t w j u v x y p q r = r ∙ ap (run (owns t) (when j (empty_trajs t))) (q ∙ ap (run (owns t) (empty_field t)) p)

-- lines that are a case, and agree
pub agreed : (f : Frame) (setup n : List ℤ) (s : Store) (want : List ℤ) {a : Asked} {p : Pass} {u : Store} → a ≡ asked_at n 7
    → Stated (record_of f) setup 0 → Asks n p → Ran f a p s u → StoreListed u want → PassAgrees setup n s want
agreed f setup n s want {p = p} {u = u} e st k r same =
    let l = subst (λ (a : Asked). Ran f a p s u) e r in
    record { frame = f; stated = st; numbers = k.numbers; accepted = l.accepted; same_store = subst (λ (x : Store). StoreListed x want) (after f n p k s u l) same }
