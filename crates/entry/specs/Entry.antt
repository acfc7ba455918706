-- One source of the setup (01 "Setup record"; the last loop of init_frame). Assumes nothing.
use Rattle.env.specs.Hints.{hint_diff}
use Rattle.std.specs.Prelude.{ℕ, zero, suc, ◌+◌, ◌-◌, ◌*◌, min, Bool, cond, List, Option, Some, None, ltb, eqb, ℤ, pos, negsuc, neg_ℤ, nat_abs, ◌-ℤ◌, get_or}
use Rattle.std.specs.Bool.{beq}
use Rattle.std.specs.Int.Signed.{lt_z}
use Rattle.loops.specs.Seven.{seven}
use Rattle.intops.specs.Choice.{pick_z}
use Rattle.mv.specs.Projection.{reciprocal}
use Rattle.levels.specs.declared.Slot.{Slot}
use Rattle.levels.specs.declared.OrderHint.{OrderHint}
use Rattle.picks.specs.declared.Pocs.{Pocs}
use Rattle.picks.specs.declared.MfmvRef.{MfmvRef}
use Rattle.picks.specs.Hints.{no_hint, hint_of, saved_of}
use Rattle.entry.specs.declared.Source.{Source}

-- the first of the k slots from l on with the hint x, if one has it
unfoldable pub found : List OrderHint → OrderHint → ℕ → ℕ → Option ℕ
found hs x zero l = None
found hs x (suc k) l = cond (eqb (get_or hs l no_hint).0 x.0) (Some l) (found hs x k (l + 1))

-- a slot's number, -1 for none
abbrev pub or_none : Option ℕ → ℤ
or_none None = negsuc 0
or_none (Some k) = pos k

-- ref2idx: the first of all seven slots with the hint, even past the slots in use; -1 where none has it
unfoldable pub found_slot : List OrderHint → OrderHint → ℤ
found_slot hs x = or_none (found hs x 7 0)

-- the size of a factor: the distance a times the reciprocal of the distance b, both of 31 at most
unfoldable pub size : ℤ → ℤ → ℕ
size a b = min (nat_abs a) 31 * reciprocal (min (nat_abs b) 31)

-- whether both are below 0, or neither
abbrev pub same_sign : ℤ → ℤ → Bool
same_sign a b = beq (lt_z a (pos 0)) (lt_z b (pos 0))

-- the factor a / b, in parts of 16384, by the table: both distances cut to 31, the reciprocal's whole part taken first; 0 for b = 0
unfoldable pub ratio_z : ℤ → ℤ → ℤ
ratio_z a b = cond (same_sign a b) (pos (size a b)) (neg_ℤ (pos (size a b)))

-- ref2ref: a difference of 31 at most is kept, another is 0
abbrev pub near_z : ℤ → ℤ
near_z d = pick_z (lt_z d (negsuc 30)) (pos 0) (pick_z (lt_z (pos 31) d) (pos 0) d)

-- the hint of reference m that was saved with slot i. Here all seven count, whatever the slot's reference count
abbrev pub saved_hint : Pocs → ℕ → ℕ → OrderHint
saved_hint h i m = get_or (saved_of h i).ref_poc m no_hint

-- from reference m, of the saved hints hs, to the slot they were saved with, whose hint is a
unfoldable pub diff_of : ℕ → OrderHint → List OrderHint → ℕ → ℤ
diff_of nbits a hs m = near_z (hint_diff nbits a (get_or hs m no_hint))

-- ref2ref: from slot i's reference m to slot i, 0 where past ±31
abbrev pub ref_diff : Pocs → ℕ → ℕ → ℤ
ref_diff h i m = diff_of h.nbits (hint_of h i) (saved_of h i).ref_poc m

-- from the frame to the source
abbrev pub cur : Pocs → MfmvRef → ℤ
cur h p = hint_diff h.nbits (hint_of h p.reference.0) h.poc

-- a target as C's record has it: the slot's number in a signed byte, from 128 on less 256; -1 for any
abbrev pub target_byte : Option Slot → ℤ
target_byte None = negsuc 0
target_byte (Some t) = pick_z (ltb t.0 128) (pos t.0) (negsuc (255 - t.0))

-- the source p with ref2cur c and no entries
abbrev pub blank_of : MfmvRef → ℤ → Source
blank_of p c =
    record {
      reference = p.reference;
      tgt = target_byte p.tgt;
      dir = p.dir;
      ref2cur = c;
      ref2ref = seven (λ m. pos 0);
      ref2idx = seven (λ m. pos 0);
      ref2sf0 = seven (λ m. pos 0);
      ref2sf1 = seven (λ m. pos 0);
    }

-- the source p, of slot i, at c from the frame: for each of its references the difference, the slot with its hint, and two factors, that of c and that of what is left of the difference, over the difference
abbrev pub full_of : Pocs → MfmvRef → ℕ → ℤ → Source
full_of h p i c =
    record {
      reference = p.reference;
      tgt = target_byte p.tgt;
      dir = p.dir;
      ref2cur = c;
      ref2ref = seven (λ m. ref_diff h i m);
      ref2idx = seven (λ m. found_slot h.ref_poc (saved_hint h i m));
      ref2sf0 = seven (λ m. ratio_z c (ref_diff h i m));
      ref2sf1 = seven (λ m. ratio_z (ref_diff h i m -ℤ c) (ref_diff h i m));
    }

-- a source more than 31 from the frame has ref2cur -32, and no entries
unfoldable pub source_of : Pocs → MfmvRef → Source
source_of h p = cond (ltb 31 (nat_abs (cur h p))) (blank_of p (negsuc 31)) (full_of h p p.reference.0 (cur h p))

-- ---- how the code goes about it: array after array

-- the difference of each reference, of the saved hints hs, to their slot, whose hint is a
unfoldable pub ref2ref_of : ℕ → OrderHint → List OrderHint → List ℤ
ref2ref_of nbits a hs = seven (diff_of nbits a hs)

-- the slot with the hint of each
unfoldable pub ref2idx_of : List OrderHint → List OrderHint → List ℤ
ref2idx_of hints hs = seven (λ m. found_slot hints (get_or hs m no_hint))

-- what is left of the difference d after c, or c
abbrev pub part_of : Bool → ℤ → ℤ → ℤ
part_of rest c d = cond rest (d -ℤ c) c

-- the factor of that part of difference m, over the difference
abbrev pub factor_of : ℤ → List ℤ → Bool → ℕ → ℤ
factor_of c ds rest m = ratio_z (part_of rest c (get_or ds m (pos 0))) (get_or ds m (pos 0))

-- the factor of each difference
unfoldable pub factors_of : ℤ → List ℤ → Bool → List ℤ
factors_of c ds rest = seven (factor_of c ds rest)
