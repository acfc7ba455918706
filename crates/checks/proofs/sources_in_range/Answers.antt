-- `checks::sources_in_range` meets its contract. Assumes nothing.
use Rattle.std.proofs.Common.{refl, ◌∙◌, arith, rules, tests, ℕ, Bool, get_or}
use Rattle.std.proofs.lemmas.Iterator.{YieldsList-from_range}
use Rattle.std.proofs.lemmas.Iterator.Search.{all_from_yields_List}
use Rattle.frame.specs.Frame.{no_source}
use Rattle.project.specs.Tested.{source_in_range}
use Rattle.checks.proofs.Defaults.{in_range_at}
use Rattle.checks.proofs.Lists.{numbers_below}
use Rattle.checks.proofs.sources_in_range.Goals as goal

pub returns : goal.returns
returns c =
    let r = c.args.sources.now in
    let test : ℕ → Bool = λ (k : ℕ). source_in_range (get_or r.mfmv k no_source) in
    all_from_yields_List test _ _ _ c.all.ensures.ran (YieldsList-from_range 0 r.n_mfmvs r.n_mfmvs refl (omega arith)) (λ x b q k. search (rules, tests, in_range_at r.mfmv x)) ∙ numbers_below test r.n_mfmvs
