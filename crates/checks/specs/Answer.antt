-- What the tests of a load answer. Assumes nothing.
use Rattle.std.specs.Prelude.{◌≡◌, Bool, true, false, ◌&&◌, Result, MatchResult}
use Rattle.levels.specs.Answer.{number_of}
use Rattle.levels.specs.declared.Refusal.{Refusal}
use Rattle.store.specs.Store.{Store}
use Rattle.tile.specs.declared.numbers.Tile.{Tile}
use Rattle.tile.specs.Tiles.{geometry}
use Rattle.load.specs.Load.{Call, tile_of}
use Rattle.load.specs.Calls.{setup_in_range, tile_fits, answer}

-- a test's answer: this refusal where b is false, and none where it is true
abbrev pub Tests : {A : Type 0} → Bool → Refusal → Result A Refusal → Type 0
Tests b refusal r = MatchResult r (λ _. b ≡ true) (λ e. (e ≡ refusal) × (b ≡ false))

-- the tile of a call that passes tests 9 and 10, or the number of the one that turns it back, whatever the store
abbrev pub MakesTile : Call → Result Tile Refusal → Type 0
MakesTile c r =
    MatchResult r (λ t. (setup_in_range c.setup ≡ true) × (tile_fits c ≡ true) × (geometry t ≡ tile_of c))
    (λ e. ((setup_in_range c.setup && tile_fits c) ≡ false) × ((s : Store) → number_of e ≡ answer c s))

-- the tile of a call that passes all tests, or the number of the first that turns it back
abbrev pub AnswersCall : Call → Store → Result Tile Refusal → Type 0
AnswersCall c s r = MatchResult r (λ t. (answer c s ≡ 0) × (geometry t ≡ tile_of c)) (λ e. number_of e ≡ answer c s)
