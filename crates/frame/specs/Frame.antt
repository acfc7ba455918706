-- The setup record (01 "Setup record"; init_frame). Assumes nothing.
use Rattle.std.specs.Prelude.{ℕ, zero, suc, ◌+◌, ◌*◌, ◌≤◌, ◌<◌, Bool, true, false, not, cond, ◌&&◌, ◌||◌, ⊤, Option, Some, Result, Ok, Err, List, [], ◌∷◌, ltb, leb, eqb, ℤ, pos, negsuc, nat_abs, ◌≤ℤ◌, get_or, replicate}
use Rattle.std.specs.Int.Signed.{lt_z}
use mir.Val.{bool_byte}
use Rattle.loops.specs.Seven.{seven}
use Rattle.intops.specs.Choice.{pick_z}
use Rattle.levels.specs.declared.Slot.{Slot}
use Rattle.levels.specs.Slots.{slot, slot_at}
use Rattle.env.specs.Hints.{hint_diff}
use Rattle.picks.specs.declared.Pocs.{Pocs}
use Rattle.picks.specs.declared.MfmvRef.{MfmvRef}
use Rattle.picks.specs.declared.Picks.{Picks}
use Rattle.picks.specs.Hints.{hint_of}
use Rattle.picks.specs.Picks.{Valid, pushed, neighbours, nearest, rest}
use Rattle.entry.specs.declared.Source.{Source}
use Rattle.entry.specs.Entry.{source_of, ratio_z}
use Rattle.rank.specs.Rank.{sorted}
use Rattle.topo.specs.Topo.{ordered}
use Rattle.refs.specs.Refs.{signs, diffs, abs_diffs, links_of, flip_mask}
use Rattle.frame.specs.declared.Sources.{Sources}
use Rattle.frame.specs.declared.Tip.{Tip}
use Rattle.frame.specs.declared.Header.{Header}
use Rattle.frame.specs.declared.Frame.{Frame}
use Rattle.levels.specs.declared.Refusal.{Refusal}
use Rattle.levels.specs.Answer.{number_of}

-- where the leading run of the k sorted slots from l on whose sign is set ends (first_fut). Earlier: the sign is set; later: it is not, so also the frame's own hint. A slot half the range away has its sign set and a negative difference, and may stand past this run
unfoldable pub leading : List Bool → List Slot → ℕ → ℕ → ℕ
leading sign order zero l = l
leading sign order (suc k) l = cond (get_or sign (slot_at order l) false) (leading sign order k (l + 1)) l

-- a source that is not there: zeros
abbrev pub no_pick : MfmvRef
no_pick = record { reference = slot 0; tgt = Some (slot 0); dir = 0 }

-- a slot in use with no plane
abbrev pub no_plane : List Bool → ℕ → ℕ → Bool
no_plane present n i = ltb i n && not (get_or present i false)

-- f of each slot, for both directions: at 2 i + direction
abbrev pub both : (ℕ → Bool) → List Bool
both f = f 0 ∷ f 0 ∷ f 1 ∷ f 1 ∷ f 2 ∷ f 2 ∷ f 3 ∷ f 3 ∷ f 4 ∷ f 4 ∷ f 5 ∷ f 5 ∷ f 6 ∷ f 6 ∷ []

-- no source yet; a slot in use with no plane is taken in both directions
unfoldable pub started : List Bool → ℕ → Picks
started present n = record { list = replicate 4 no_pick; count = 0; taken = both (no_plane present n) }

-- slot s with the target t: direction 1 where s's hint is before t's, else 0
abbrev pub tip_pick : Pocs → Slot → Slot → MfmvRef
tip_pick h s t = record { reference = s; tgt = Some t; dir = bool_byte (lt_z (hint_diff h.nbits (hint_of h s.0) (hint_of h t.0)) (pos 0)) }

-- it is appended; whether s is taken or has a plane is not asked
abbrev pub tip_put : Pocs → Slot → Slot → Picks → Picks
tip_put h s t p = pushed (tip_pick h s t) p

-- the TIP source: of the pair, the slot that stands later in the dependency order
unfoldable pub tip_add : Pocs → List ℕ → Slot → Slot → Picks → Picks
tip_add h place a b p = cond (ltb (get_or place b.0 0) (get_or place a.0 0)) (tip_put h a b p) (tip_put h b a p)

-- where TIP is on and one of the pair is earlier than the frame
unfoldable pub with_tip : Pocs → Bool → List Bool → List ℕ → Slot → Slot → Picks → Picks
with_tip h on sign place a b p = cond (on && (get_or sign a.0 false || get_or sign b.0 false)) (tip_add h place a b p) p

-- TIP pair, two rounds of neighbours, nearest earlier slots, then the dependency order from its end
unfoldable pub picked : Pocs → List Bool → Bool → Slot → Slot → Picks
picked h present tip a b =
    let order = sorted (diffs h) h.n_refs in
    let first = leading (signs h) order h.n_refs 0 in
    let o = ordered (links_of h) h.n_refs in
    rest (diffs h) o.list o.count
    (nearest order first
    (neighbours h order first
    (with_tip h tip (signs h) o.place a b (started present h.n_refs))))

-- what the loader tests of a source (01, setup record)
pub record SourceInRange (s : Source) : Type 0 where
  pub reference : s.reference.0 < 7
  pub target_low : negsuc 0 ≤ℤ s.tgt
  pub target_high : s.tgt ≤ℤ pos 6
  pub dir : s.dir < 2
  pub cur_low : negsuc 31 ≤ℤ s.ref2cur
  pub cur_high : s.ref2cur ≤ℤ pos 31
  pub refs : (k : ℕ) → nat_abs (get_or s.ref2ref k (pos 0)) ≤ 31
  pub idx_low : (k : ℕ) → negsuc 0 ≤ℤ get_or s.ref2idx k (pos 0)
  pub idx_high : (k : ℕ) → get_or s.ref2idx k (pos 0) ≤ℤ pos 6
  pub to_cur : (k : ℕ) → nat_abs (get_or s.ref2sf0 k (pos 0)) ≤ 507904
  pub to_ref : (k : ℕ) → nat_abs (get_or s.ref2sf1 k (pos 0)) ≤ 507904

-- ---- the record

-- a source with no entries
abbrev pub no_source : Source
no_source =
    record {
      reference = slot 0;
      tgt = pos 0;
      dir = 0;
      ref2cur = pos 0;
      ref2ref = seven (λ m. pos 0);
      ref2idx = seven (λ m. pos 0);
      ref2sf0 = seven (λ m. pos 0);
      ref2sf1 = seven (λ m. pos 0);
    }

-- n sources with no entries, and the mask m
abbrev pub no_sources : ℕ → ℕ → Sources
no_sources n m = record { mfmv = replicate 4 no_source; n_mfmvs = n; mfmv_mask = m }

-- bit k of the mask of used slots: slot k is taken in either direction, that is picked, or in use with no plane (ref_done)
abbrev pub used : List Bool → ℕ → ℕ
used t k = bool_byte (get_or t (2 * k) false || get_or t (2 * k + 1) false)

-- the mask of used slots
unfoldable pub mask_of : List Bool → ℕ
mask_of t = used t 0 + 2 * used t 1 + 4 * used t 2 + 8 * used t 3 + 16 * used t 4 + 32 * used t 5 + 64 * used t 6

-- the source at place i: of a source that is picked its entries, zeros past those
abbrev pub source_at : Pocs → Picks → ℕ → Source
source_at h p i = cond (ltb i p.count) (source_of h (get_or p.list i no_pick)) no_source

-- the sources that are picked, and the mask of used slots
unfoldable pub filled : Pocs → Picks → Sources
filled h p = record { mfmv = source_at h p 0 ∷ source_at h p 1 ∷ source_at h p 2 ∷ source_at h p 3 ∷ []; n_mfmvs = p.count; mfmv_mask = mask_of p.taken }

-- a TIP slot as a slot; one out of range is never looked at
unfoldable pub slot_of : ℤ → Slot
slot_of t = cond (lt_z t (pos 0)) (slot 0) (cond (lt_z (pos 6) t) (slot 0) (slot (nat_abs t)))

-- none where the frame's switch is off, hint bits are 0 or fewer than two slots exist
unfoldable pub sources_of : Header → Sources
sources_of f =
    let h = f.pocs in let none = no_sources 0 0 in
    cond f.use_ref_frame_mvs
    (cond (eqb h.nbits 0) none
    (cond (ltb h.n_refs 2) none
    (filled h (picked h f.rp_ref f.tip (slot_of f.tip0) (slot_of f.tip1)))))
    none

-- the TIP distance runs from the first to the second with references on both sides, else from the second to the first
unfoldable pub tip_diff : Pocs → Bool → Slot → Slot → ℤ
tip_diff h both a b = cond both (hint_diff h.nbits (hint_of h b.0) (hint_of h a.0)) (hint_diff h.nbits (hint_of h a.0) (hint_of h b.0))

-- kept in a signed byte: 128 becomes -128; a distance is 128 at most
abbrev pub in_byte : ℕ → ℤ
in_byte m = pick_z (ltb m 128) (pos m) (negsuc 127)

-- a distance and two factors
abbrev pub tip_with : ℤ → ℤ → ℤ → Tip
tip_with x y z = record { delta = x; sf0 = y; sf1 = z }

-- the TIP distance, and the factors of the pair's clipped differences over it; zeros where TIP mode is 0
unfoldable pub tip_of : Pocs → ℕ → Bool → Slot → Slot → Tip
tip_of h mode both a b =
    cond (eqb mode 0) (tip_with (pos 0) (pos 0) (pos 0))
    (tip_with (in_byte (nat_abs (tip_diff h both a b)))
    (ratio_z (get_or (diffs h) a.0 (pos 0)) (tip_diff h both a b))
    (ratio_z (get_or (diffs h) b.0 (pos 0)) (tip_diff h both a b)))

-- ---- the refusals

-- refusal 5: above 2
unfoldable pub bad_superblock : ℕ → Bool
bad_superblock n = ltb 2 n

-- refusal 6: not 1 or 2
unfoldable pub bad_step : ℕ → Bool
bad_step n = not (eqb n 1 || eqb n 2)

-- refusal 7: not 1..65,536
unfoldable pub bad_size : ℕ → Bool
bad_size n = cond (eqb n 0) true (ltb 65536 n)

-- refusal 8 looks at the TIP pair where TIP mode is not 0, or sequence TIP and the frame's switch are on, hint bits not 0, slots above 1
unfoldable pub looks_at_tip : Header → Bool
looks_at_tip f =
    cond (eqb f.tip_frame_mode 0)
    (cond f.tip (cond f.use_ref_frame_mvs (cond (eqb f.pocs.nbits 0) false (ltb 1 f.pocs.n_refs)) false) false)
    true

-- not a slot in use
unfoldable pub not_in_use : Header → ℤ → Bool
not_in_use f t = cond (lt_z t (pos 0)) true (leb f.pocs.n_refs (nat_abs t))

-- refusal 8: one of the pair is not a slot in use, where the pair is looked at
unfoldable pub bad_tip : Header → Bool
bad_tip f = looks_at_tip f && (not_in_use f f.tip0 || not_in_use f f.tip1)

-- the number of the first refusal that holds, in the table's order, and 0 for none
unfoldable pub refusal_of : Header → ℕ
refusal_of f =
    cond (ltb 8 f.pocs.nbits) 3
    (cond (ltb 7 f.pocs.n_refs) 4
    (cond (bad_superblock f.sb128) 5
    (cond (bad_step f.tmvp_sample_step) 6
    (cond (bad_size f.width || bad_size f.height) 7
    (cond (bad_tip f) 8 0)))))

-- the record of a header that is not refused; the planes are those of all seven slots, also past the slots in use
unfoldable pub frame_of : Header → Frame
frame_of f =
    record {
      width = f.width;
      height = f.height;
      sb128 = f.sb128;
      tmvp_sample_step = f.tmvp_sample_step;
      n_refs = f.pocs.n_refs;
      tip_frame_mode = f.tip_frame_mode;
      tip0 = f.tip0;
      tip1 = f.tip1;
      rp_ref = f.rp_ref;
      ref_sign = signs f.pocs;
      pocdiff = diffs f.pocs;
      abspocdiff = abs_diffs f.pocs;
      ref_flip = flip_mask f.pocs (signs f.pocs);
      tip = tip_of f.pocs f.tip_frame_mode f.has_bothside_refs (slot_of f.tip0) (slot_of f.tip1);
      use_ref_frame_mvs = ltb 0 (sources_of f).n_mfmvs;
      sources = sources_of f;
    }

-- all zeros
abbrev pub zero_frame : Frame
zero_frame =
    record {
      width = 0;
      height = 0;
      sb128 = 0;
      tmvp_sample_step = 0;
      n_refs = 0;
      tip_frame_mode = 0;
      tip0 = pos 0;
      tip1 = pos 0;
      rp_ref = seven (λ i. false);
      ref_sign = seven (λ i. false);
      pocdiff = seven (λ i. pos 0);
      abspocdiff = seven (λ i. 0);
      ref_flip = 0;
      tip = tip_with (pos 0) (pos 0) (pos 0);
      use_ref_frame_mvs = false;
      sources = no_sources 0 0;
    }

-- what init_frame says in 01's terms: the refusal's number, 0 for none, and the record
pub record SaidSetup : Type 0 where
  pub refusal : ℕ
  pub frame : Frame

-- number and record of an answer
abbrev pub says_setup : Result Frame Refusal → SaidSetup
says_setup (Ok f) = record { refusal = 0; frame = f }
says_setup (Err e) = record { refusal = number_of e; frame = zero_frame }

-- init_frame: the record, or the number of the refusal beside a record of zeros
unfoldable pub setup_of : Header → SaidSetup
setup_of f = record { refusal = refusal_of f; frame = cond (eqb (refusal_of f) 0) (frame_of f) zero_frame }

-- ---- For the contracts of internal functions

-- a source that may be picked: a slot, a slot as its target where it has one, direction 0 or 1
pub record Pickable (x : MfmvRef) : Type 0 where
  pub reference : x.reference.0 < 7
  pub target : Valid x.tgt
  pub dir : x.dir < 2

-- four such sources at most
pub record Fine (p : Picks) : Type 0 where
  pub few : p.count ≤ 4
  pub each : (k : ℕ) → Pickable (get_or p.list k no_pick)
