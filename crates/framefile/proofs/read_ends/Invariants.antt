-- `framefile::read_ends` meets its contract. The invariant: the ends that are read, with those that are still to come, are all. Assumes nothing.
use Rattle.std.proofs.Common.{◌≡◌, [], ◌∷◌, ◌++◌, ◌-◌, take}
use Rattle.text.specs.Joined.{joined}
use Rattle.framefile.specs.File.{end_at, ends_of}
use Rattle.framefile.proofs.read_ends.Given as goal

abbrev pub invariant-loop-i : goal.invariant-loop-i
invariant-loop-i l = take l.i l.end-items ++ joined (λ i. end_at l.b i ∷ []) (l.n - l.i) l.i ≡ ends_of l.b l.n
