-- The dependency order of the slots (01 "Setup record"; `topo_insert`, and its loop in `init_frame`). Assumes nothing.
use Rattle.std.specs.Prelude.{ℕ, zero, suc, ◌+◌, cond, List, [], ◌∷◌, Option, Some, None, ltb, eqb, set, get_or, replicate}
use mir.Val.{bool_byte}
use Rattle.loops.specs.Over.{span}
use Rattle.levels.specs.declared.Slot.{Slot}
use Rattle.levels.specs.Slots.{slot}
use Rattle.topo.specs.declared.Order.{Order}

-- the table of links: the references of each slot, each a slot or none ("A slot with reference count 0 has none")
abbrev pub Links : Type 0
Links = List (List (Option Slot))

-- the number of a link's slot, or 7 for none
abbrev pub number_of : Option Slot → ℕ
number_of None = 7
number_of (Some s) = s.0

-- the number of reference n of slot i, or 7 for none
abbrev pub reference : Links → ℕ → ℕ → ℕ
reference links i n = number_of (get_or (get_or links i []) n None)

-- how many slots are not yet entered: their place is 7, as it is -1 in `topo_insert`
unfoldable pub free : List ℕ → ℕ
free [] = 0
free (p ∷ ps) = bool_byte (eqb p 7) + free ps

-- `topo_insert` gives a slot the place 0 while its references are entered: it counts as already entered
abbrev pub marked : ℕ → Order → Order
marked i o = record { list = o.list; place = set o.place i 0; count = o.count }

-- then the slot itself goes to the end of the order
abbrev pub placed : ℕ → Order → Order
placed i o =
    record { list = set o.list o.count (slot i); place = set o.place i o.count; count = o.count + 1 }

-- reference n of slot i is entered, if there is one; `go` enters a slot
abbrev pub link : (ℕ → Order → Order) → Links → ℕ → ℕ → Order → Order
link go links i n o = cond (ltb (reference links i n) 7) (go (reference links i n) o) o

-- "A slot's own references are entered before the slot itself, depth first, references 0 to 6, and a slot already entered is passed over."
-- To a depth of d: 7 is deep enough, as no more than seven slots are entered (`DeepEnough`)
unfoldable pub enter : ℕ → Links → ℕ → Order → Order
enter zero links i o = o
enter (suc d) links i o =
    cond (eqb (get_or o.place i 0) 7)
    (placed i (span (link (λ (k : ℕ) (p : Order). enter d links k p) links i) 0 7 (marked i o)))
    o

-- no slot is entered
abbrev pub no_order : Order
no_order = record { list = replicate 7 (slot 0); place = replicate 7 7; count = 0 }

-- the dependency order of the first n slots, the slots in use: they are entered in slot order, as in `init_frame`
unfoldable pub ordered : Links → ℕ → Order
ordered links n = span (enter 7 links) 0 n no_order
