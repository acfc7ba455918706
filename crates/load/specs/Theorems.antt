-- What is proved of the load's definition (proofs/). Demand 3 is `OrderOfLoads`. Assumes nothing.
use Rattle.std.specs.Prelude.{◌≡◌, true, false, List, map, ℕ, ◌≤◌, ◌<◌}
use Rattle.frame.specs.declared.Header.{Header}
use Rattle.frame.specs.Frame.{setup_of}
use Rattle.store.specs.Store.{Store, Kind, rd, SameLengths}
use Rattle.store.specs.Calls.{keep, Pairs, accepted, as_listed, answers, plain_calls, plain_run}
use Rattle.tile.specs.Owner.{owns}
use Rattle.load.specs.Load.{Call, tile_of}
use Rattle.load.specs.Calls.{answer, load, load_unguarded, setup_in_range}

-- "without a common column"; "A tile's columns run from start to end, end not included."
abbrev pub NoCommonColumn : Call → Call → Type 0
NoCommonColumn c d = (x : ℕ) → c.col_start ≤ x → x < c.col_end → d.col_start ≤ x → x < d.col_end → ⊥

-- loads of one frame's tiles with no common column: one width, superblock code and step. The mode, the planes, the switches, the row and the rest of the setup may be each call's own
pub record Apart (c d : Call) : Type 0 where
  pub width : c.setup.width ≡ d.setup.width
  pub code : c.setup.sb128 ≡ d.setup.sb128
  pub step : c.setup.tmvp_sample_step ≡ d.setup.tmvp_sample_step
  pub columns : NoCommonColumn c d

-- demand 3: for any list of calls and any store, if every two of the calls accepted on it are apart, the calls in the list's order, refused ones among them, leave the store that the plain run leaves
abbrev pub OrderOfLoads : Type 0
OrderOfLoads =
    (cs : List Call) (s : Store) → Pairs Apart (keep (accepted answer load s) cs)
    → as_listed answer load cs s ≡ plain_run answer load (λ c. c.col_start) cs s

-- "These are the calls really refused": each call of the list is answered as on the starting store, whatever the calls are
abbrev pub AnswersStay : Type 0
AnswersStay = (cs : List Call) (s : Store) → answers answer load cs s ≡ map (λ c. answer c s) cs

-- "The table's tests turn none of them back in this order either."
abbrev pub NoneRefused : Type 0
NoneRefused =
    (cs : List Call) (s : Store)
    → answers answer load (plain_calls answer load (λ c. c.col_start) cs s) s ≡ map (λ c. 0) (plain_calls answer load (λ c. c.col_start) cs s)

-- the guards are idle: with or without them an accepted call leaves the same store, so that 01's "takes it as empty and leaves it" never comes to pass
abbrev pub GuardsIdle : Type 0
GuardsIdle = (c : Call) (s : Store) → answer c s ≡ 0 → load c s ≡ load_unguarded c s

-- whatever the call, its load changes no cell but its own: those of its blocks, within the lengths that 01 states
abbrev pub KeepsOthers : Type 0
KeepsOthers = (c : Call) (s : Store) (k : Kind) (i : ℕ) → owns (tile_of c) k i ≡ false → rd (load c s) k i ≡ rd s k i

-- whatever the call, what its load leaves in its own cells depends on its own cells alone, and on the lengths
abbrev pub ReadsOwn : Type 0
ReadsOwn =
    (c : Call) (s u : Store) → SameLengths s u → ((k : Kind) (i : ℕ) → owns (tile_of c) k i ≡ true → rd s k i ≡ rd u k i)
    → (k : Kind) (i : ℕ) → owns (tile_of c) k i ≡ true → rd (load c s) k i ≡ rd (load c u) k i

-- every setup that init_frame accepts passes test 9
abbrev pub SetupPasses : Type 0
SetupPasses = (f : Header) → (setup_of f).refusal ≡ 0 → setup_in_range (setup_of f).frame ≡ true
