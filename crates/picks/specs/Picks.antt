-- The picking of sources: candidates are offered one after the other. Assumes nothing.
use Rattle.std.specs.Prelude.{ℕ, ◌+◌, ◌*◌, ◌-◌, ◌<◌, Bool, true, false, cond, List, Option, Some, None, IfSome, ltb, leb, ℤ, pos, get_or, set}
use Rattle.std.specs.Int.Signed.{le_z}
use Rattle.loops.specs.Over.{span}
use Rattle.levels.specs.declared.Slot.{Slot}
use Rattle.levels.specs.Slots.{slot, slot_at}
use Rattle.picks.specs.declared.Pocs.{Pocs}
use Rattle.picks.specs.declared.Picks.{Picks}
use Rattle.picks.specs.declared.MfmvRef.{MfmvRef}
use Rattle.picks.specs.Hints.{closest, some_on_side}

-- a source is appended, and its slot is taken in its direction
abbrev pub pushed : MfmvRef → Picks → Picks
pushed x p = record { list = set p.list p.count x; count = p.count + 1; taken = set p.taken (x.reference.0 * 2 + x.dir) true }

-- a candidate in direction dir is appended if fewer than `limit` sources are there and it is not taken
unfoldable pub offered : ℕ → Option Slot → ℕ → Picks → Picks
offered limit None dir p = p
offered limit (Some s) dir p =
    cond (leb limit p.count) p
    (cond (get_or p.taken (s.0 * 2 + dir) false) p (pushed (record { reference = s; tgt = None; dir = dir }) p))

-- a candidate, if it has a reference later than itself, or with late off an earlier one
unfoldable pub with_side : Pocs → Bool → Option Slot → Option Slot
with_side h late None = None
with_side h late (Some s) = cond (some_on_side h s.0 late) (Some s) None

-- the k-th slot before the first later one, counted from 1
unfoldable pub nth_earlier : List Slot → ℕ → ℕ → Option Slot
nth_earlier order first k = cond (ltb first k) None (Some (get_or order (first - k) (slot 0)))

-- the n-th slot from the first later one on, of `count` in all, counted from 0
unfoldable pub nth_later : List Slot → ℕ → ℕ → ℕ → Option Slot
nth_later order first count n = cond (leb count (first + n)) None (Some (get_or order (first + n) (slot 0)))

-- the earlier neighbour is first where its closest reference is nearer than the later one's
unfoldable pub nearer_earlier : Pocs → Option Slot → Option Slot → Bool
nearer_earlier h (Some a) (Some b) = ltb (closest h a.0 false) (closest h b.0 true)
nearer_earlier h (Some a) None = false
nearer_earlier h None b = false

-- the two neighbours in their order, up to three sources
unfoldable pub in_turn : Pocs → Option Slot → Option Slot → Picks → Picks
in_turn h a b p =
    cond (nearer_earlier h a b)
    (offered 3 b 0 (offered 3 a 1 p))
    (offered 3 a 1 (offered 3 b 0 p))

-- one round: neighbour n before and after the frame, counted from 0: the earlier with a later reference, the later with an earlier one
abbrev pub round : Pocs → List Slot → ℕ → ℕ → Picks → Picks
round h order first n p = in_turn h (with_side h true (nth_earlier order first (n + 1))) (with_side h false (nth_later order first h.n_refs n)) p

-- two rounds of neighbours, up to three sources
unfoldable pub neighbours : Pocs → List Slot → ℕ → Picks → Picks
neighbours h order first p = span (round h order first) 0 2 p

-- the two nearest earlier slots, up to three sources
unfoldable pub nearest : List Slot → ℕ → Picks → Picks
nearest order first p = offered 3 (nth_earlier order first 2) 0 (offered 3 (nth_earlier order first 1) 0 p)

-- a slot's two directions, direction 1 first where its difference is not negative
unfoldable pub both_ways : List ℤ → Slot → Picks → Picks
both_ways diffs s p =
    cond (le_z (pos 0) (get_or diffs s.0 (pos 0)))
    (offered 4 (Some s) 0 (offered 4 (Some s) 1 p))
    (offered 4 (Some s) 1 (offered 4 (Some s) 0 p))

-- one slot of the dependency order, counted from its end
abbrev pub from_end : List ℤ → List Slot → ℕ → ℕ → Picks → Picks
from_end diffs list count n p = both_ways diffs (get_or list (count - 1 - n) (slot 0)) p

-- then the dependency order from its end, up to four sources
unfoldable pub rest : List ℤ → List Slot → ℕ → Picks → Picks
rest diffs list count p = span (from_end diffs list count) 0 count p

-- ---- For the contracts of internal functions

-- a candidate, if there is one, is a slot
abbrev pub Valid : Option Slot → Type 0
Valid c = IfSome c (λ s. s.0 < 7)

-- all of them are slots. The bound stands here and not in the type of a slot: each definition that makes a list of slots would have to carry a proof for each of them
abbrev pub Slots : List Slot → Type 0
Slots xs = (k : ℕ) → slot_at xs k < 7
