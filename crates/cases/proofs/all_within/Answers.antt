-- `cases::all_within` meets its contract. Assumes nothing.
use Rattle.std.proofs.Common.{Bool, true, false, ◌≡◌, ◌+◌, ◌-◌, ◌<◌, arith, ℕ, ℤ, List, pos, get_or, length, rules}
use Rattle.std.proofs.lemmas.Grind.{common_steps}
use Rattle.std.proofs.lemmas.Option.{gets}
use Rattle.std.proofs.lemmas.Iterator.{YieldsList-from_slice, cases_from_all}
use Rattle.std.specs.Bool.{MatchBool}
use Rattle.std.specs.List.{AllWithin, HoldsAt}
use Rattle.intops.proofs.Signed.{back}
use Rattle.cases.specs.Numbers.{at, Inside, AllInside}
use Rattle.cases.specs.Verdicts.{WhenTrue}
use Rattle.cases.proofs.all_within.Goals as goal

-- of the numbers from a up to b, each of which the list has
of_part : (low high : ℤ) (No : ℤ → Type 0) (r : Bool) (a b : ℕ) (n xs : List ℤ) → length xs ≡ b - a → ((k : ℕ) → k < length xs → get_or xs k (pos 0) ≡ at n (a + k))
    → MatchBool r (AllWithin (Inside low high) xs 0 (length xs)) ((k : ℕ) × (k < length xs) × HoldsAt No xs k) → WhenTrue r (AllInside low high a b n)
of_part low high No false a b n xs e g m = tt
of_part low high No true a b n xs e g m = λ k l h.
    let j : k - a < length xs = omega arith in
    let s : a + (k - a) ≡ k = omega arith in
    let w : Inside low high (get_or xs (k - a) (pos 0)) = m (k - a) (pos 0) (omega arith) j in
    rw (g (k - a) j, s) at w

pub returns : goal.returns
returns c =
    let n = c.args.n.now in
    let xs = c.in-Some.numbers.now in
    let f = c.ranges.low in
    let h = c.ranges.high in
    of_part c.args.low c.args.high (λ _. Unit {0}) c.all.result c.args.from c.args.to n xs (search rules) (λ k l. grind (arith, common_steps, gets, c.in-Some.ensures.lookup))
    (cases_from_all _ _ _ (Inside c.args.low c.args.high) (λ _. Unit {0}) c.all.ensures.ran (YieldsList-from_slice xs cc) (λ x q k. simp back (search rules)) (λ x q k. tt))
