-- Every setup that init_frame accepts passes test 9. Assumes nothing.
use Rattle.std.proofs.Common.{◌≡◌, refl, Bool, true, false, ℕ, zero, suc, ◌≤◌, arith, le-leb, lt-ltb, ne_eqb, le-ltb, ℤ, pos, negsuc, nat_abs, get_or, ◌≤ℤ◌}
use lib.Signed.{lt_z}
use Rattle.intops.proofs.Signed.{signed}
use Rattle.entry.specs.declared.Source.{Source}
use Rattle.frame.specs.declared.Frame.{Frame}
use Rattle.frame.specs.Frame.{no_source, bad_size, SourceInRange}
use Rattle.frame.specs.Theorems.{FrameInRange}
use Rattle.frame.proofs.Theorems.{accepted_in_range}
use Rattle.project.specs.Tested.{all_below, within, entry_in_range, source_in_range}
use Rattle.load.specs.Calls.{setup_in_range}
use Rattle.load.specs.Theorems.{SetupPasses}

not_below : (a z : ℤ) → a ≤ℤ z → lt_z z a ≡ false
not_below a z h = go (lt_z z a) refl
  where
    go : (b : Bool) → lt_z z a ≡ b → b ≡ false
    go true e = absurd (omega signed)
    go false e = refl

is_within : (a b z : ℤ) → a ≤ℤ z → z ≤ℤ b → within a b z ≡ true
is_within a b z p q = rw (not_below a z p, not_below z b q)

all_of : (n : ℕ) (p : ℕ → Bool) → ((i : ℕ) → p i ≡ true) → all_below n p ≡ true
unfolding all_below
all_of zero p h = refl
all_of (suc n) p h = rw (all_of n p h) (h n)

source_passes : (s : Source) → SourceInRange s → source_in_range s ≡ true
unfolding source_in_range
source_passes s r =
    rw (
      lt-ltb s.reference.0 7 r.reference,
      is_within (negsuc 0) (pos 6) s.tgt r.target_low r.target_high,
      lt-ltb s.dir 2 r.dir,
      is_within (negsuc 31) (pos 31) s.ref2cur r.cur_low r.cur_high,
    ) (all_of 7 (entry_in_range s) entry)
  where
    entry : (k : ℕ) → entry_in_range s k ≡ true
    entry k =
        rw (
          le-leb (nat_abs (get_or s.ref2ref k (pos 0))) 31 (r.refs k),
          is_within (negsuc 0) (pos 6) (get_or s.ref2idx k (pos 0)) (r.idx_low k) (r.idx_high k),
          le-leb (nat_abs (get_or s.ref2sf0 k (pos 0))) 507904 (r.to_cur k),
          le-leb (nat_abs (get_or s.ref2sf1 k (pos 0))) 507904 (r.to_ref k),
        )

good_size : (n : ℕ) → 1 ≤ n → n ≤ 65536 → bad_size n ≡ false
unfolding bad_size
good_size n p q = rw (ne_eqb n 0 (λ e. omega arith)) (le-ltb 65536 n q)

frame_passes : (f : Frame) → FrameInRange f → setup_in_range f ≡ true
unfolding setup_in_range
frame_passes f r =
    rw (
      le-leb f.n_refs 7 r.slots,
      le-leb f.sb128 2 r.code,
      ne_eqb f.tmvp_sample_step 0 (λ e. omega (arith, r.step_low)),
      le-leb f.tmvp_sample_step 2 r.step_high,
      good_size f.width r.width_low r.width_high,
      good_size f.height r.height_low r.height_high,
      le-leb f.sources.n_mfmvs 4 r.few,
    ) (all_of f.sources.n_mfmvs (λ n. source_in_range (get_or f.sources.mfmv n no_source)) (λ n. source_passes (get_or f.sources.mfmv n no_source) (r.each n)))

pub setup_passes : SetupPasses
setup_passes f h = frame_passes _ (accepted_in_range f h)
