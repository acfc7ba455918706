-- `framefile::present_before` meets its contract. Assumes nothing.
use Rattle.std.proofs.Common.{Bool, cond, true, false, ap, ◌≡◌, ◌≤◌, ◌<◌, refl, ◌∙◌, ℕ, ◌+◌, arith, List, length, take, get_or, length-take-le, zero, suc, add-one, rules}
use Rattle.std.proofs.lemmas.Iterator.{YieldsList-from_slice}
use Rattle.std.proofs.lemmas.Iterator.Consumers.{YieldsList-from_filter, count_from_yields_List}
use Rattle.std.proofs.lemmas.List.Sums.{length-filter, count_by-le-length, count_by_more_yes, count_by_more_no}
use Rattle.std.specs.List.{filter, count_by}
use Rattle.framefile.specs.File.{present_before}
use Rattle.framefile.proofs.present_before.Goals as goal

-- one slot more
step : (present : List Bool) (k : ℕ) (b : Bool) → get_or present k false ≡ b → k < length present → count_by (λ b. b) (take (k + 1) present) ≡ count_by (λ b. b) (take k present) + cond b 1 0
step present k true e l = count_by_more_yes (λ b. b) present k false l e
step present k false e l = let n = count_by_more_no (λ b. b) present k false l e in omega (arith, n)

-- all of them
counted : (present : List Bool) (k : ℕ) → k ≤ length present → count_by (λ b. b) (take k present) ≡ present_before present k
unfolding present_before
counted present zero h = refl
counted present (suc k) h =
    let e : count_by (λ b. b) (take (k + 1) present) ≡ count_by (λ b. b) (take k present) + cond (get_or present k false) 1 0 = step present k (get_or present k false) refl (omega arith) in
    rw add-one at e ∙ ap (λ (n : ℕ). n + cond (get_or present k false) 1 0) (counted present k (omega arith))

pub returns : goal.returns
returns c =
    let p = c.args.present in
    let xs = take c.args.k p in
    let r : length xs ≡ c.args.k = search (rules, length-take-le) in
    let e : c.count.result ≡ length (filter (λ (b : Bool). b) xs) = count_from_yields_List _ _ c.count.ensures.ran (YieldsList-from_filter _ (λ b. b) (YieldsList-from_slice xs cc) c.filter.ensures.closure (λ x r q k. search rules)) in
    let n : c.count.result ≡ count_by (λ (b : Bool). b) xs = e ∙ length-filter (λ b. b) xs in
    record { value = n ∙ counted p c.args.k (search rules); most = omega (arith, n, r, count_by-le-length (λ b. b) xs) }
