-- What is proved of the setup besides its definition (proofs/Theorems.antt). Assumes nothing.
use Rattle.std.specs.Prelude.{◌≡◌, ℕ, ◌≤◌, get_or}
use Rattle.levels.specs.Slots.{Permutes}
use Rattle.picks.specs.declared.Pocs.{Pocs}
use Rattle.refs.specs.Refs.{diffs, links_of}
use Rattle.rank.specs.Rank.{sorted}
use Rattle.topo.specs.Topo.{ordered}
use Rattle.topo.specs.Theorems.{Orders}
use Rattle.frame.specs.declared.Header.{Header}
use Rattle.frame.specs.declared.Frame.{Frame}
use Rattle.frame.specs.Frame.{SourceInRange, no_source, setup_of}

-- the ranges that 01 lists for the loader: frame size, superblock code, step and slot count as refusals 4 to 7; sources 0..4, and each source, counted or not
pub record FrameInRange (r : Frame) : Type 0 where
  pub width_low : 1 ≤ r.width
  pub width_high : r.width ≤ 65536
  pub height_low : 1 ≤ r.height
  pub height_high : r.height ≤ 65536
  pub code : r.sb128 ≤ 2
  pub step_low : 1 ≤ r.tmvp_sample_step
  pub step_high : r.tmvp_sample_step ≤ 2
  pub slots : r.n_refs ≤ 7
  pub few : r.sources.n_mfmvs ≤ 4
  pub each : (k : ℕ) → SourceInRange (get_or r.sources.mfmv k no_source)

-- every accepted setup lies in them; test 9 will be these ranges, so that it never turns one back
abbrev pub AcceptedInRange : Type 0
AcceptedInRange = (f : Header) → (setup_of f).refusal ≡ 0 → FrameInRange (setup_of f).frame

-- the sorted order and the dependency order are each a permutation of the slots in use; so the dependency order counts the slots in use, and the Rust's test of its count is 01's "fewer than two slots"
abbrev pub OrdersPermute : Type 0
OrdersPermute = (h : Pocs) → h.n_refs ≤ 7 → Permutes (sorted (diffs h) h.n_refs) h.n_refs × Orders (ordered (links_of h) h.n_refs) h.n_refs
