-- Laws of verdicts, and of lines that are put one behind the other. Assumes nothing.
use Rattle.std.proofs.Common.{sym, refl, ◌∙◌, cond, arith, Bool, true, false, Result, Ok, Err, MatchResult, ◌≡◌, ◌≢◌, ℕ, ◌+◌, ◌<◌, List, [], ◌∷◌, ◌++◌, append_assoc, add-one, length, drop, drop-cons, get_or, flat_map, Option, Some, None, rules}
use Rattle.std.proofs.lemmas.Bool.{false≢true}
use Rattle.std.proofs.lemmas.List.Elements.{All-cons}
use Rattle.std.proofs.lemmas.Slice.Eq.{bytes_eq-Decides}
use Rattle.std.specs.List.{All, find}
use Rattle.std.specs.Option.{MatchOption}
use Rattle.std.specs.Result.{result_ok}
use Rattle.std.specs.Str.{bytes_eq}
use Rattle.cases.specs.declared.Verdict.{Verdict}
use Rattle.cases.specs.declared.Verdict.TheVariants.{Agrees, Differs as Differing, NotACase as NoCase}
use Rattle.cases.specs.Verdicts.{WhenAgrees}
use Rattle.replay.specs.declared.End.TheVariants.{AllRead}
use Rattle.replay.specs.declared.kinds.Kind.{Kind}
use Rattle.replay.specs.declared.kinds.Kind.TheVariants.{Project, Scale, Quantize, Dequantize, Hint, Smooth, Gap, Frame}
use Rattle.replay.specs.declared.kinds.UnknownKind.{UnknownKind}
use Rattle.replay.specs.Kinds.{end_of, name}
use Rattle.replay.specs.Report.{kinds}

-- past a verdict the run goes on only if the case agrees
pub agrees : {p : Type 0} (v : Verdict) → end_of v ≡ None → WhenAgrees v p → p
agrees Agrees e h = h
agrees Differing e h = absurd (search rules)
agrees NoCase e h = absurd (search rules)

-- .. and no verdict is the input's end
pub no_end : (v : Verdict) → end_of v ≢ Some AllRead
no_end Agrees e = search rules
no_end Differing e = search rules
no_end NoCase e = search rules

-- of the kinds that are looked at, one that is found has the word as its name; where none is, none has
found_go : (t : Bool) (w : List ℕ) (k : Kind) (xs : List Kind) (o : Option Kind) → bytes_eq (name k) w ≡ t → MatchOption o (All (λ j. w ≢ name j) xs) (λ j. w ≡ name j) → MatchOption (cond t (Some k) o) (All (λ j. w ≢ name j) (k ∷ xs)) (λ j. w ≡ name j)
found_go true w k xs o e h = sym ((bytes_eq-Decides (name k) w).0 e)
found_go false w k xs None e h = All-cons (λ j. w ≢ name j) k xs (λ q. false≢true (sym e ∙ (bytes_eq-Decides (name k) w).1 (sym q))) h
found_go false w k xs (Some j) e h = h

found : (w : List ℕ) (xs : List Kind) → MatchOption (find (λ k. bytes_eq (name k) w) xs) (All (λ j. w ≢ name j) xs) (λ j. w ≡ name j)
found w [] = λ k d l. absurd (omega arith)
found w (k ∷ xs) = found_go (bytes_eq (name k) w) w k xs (find (λ j. bytes_eq (name j) w) xs) refl (found w xs)

-- all kinds are looked at
of_all : (w : List ℕ) → All (λ j. w ≢ name j) kinds → (k : Kind) → w ≢ name k
of_all w h Project = h 0 Project (omega arith)
of_all w h Scale = h 1 Scale (omega arith)
of_all w h Quantize = h 2 Quantize (omega arith)
of_all w h Dequantize = h 3 Dequantize (omega arith)
of_all w h Hint = h 4 Hint (omega arith)
of_all w h Smooth = h 5 Smooth (omega arith)
of_all w h Gap = h 6 Gap (omega arith)
of_all w h Frame = h 7 Frame (omega arith)

pub named : (w : List ℕ) (r : Result Kind UnknownKind) → result_ok r ≡ find (λ k. bytes_eq (name k) w) kinds → MatchResult r (λ k. w ≡ name k) (λ _. (k : Kind) → w ≢ name k)
named w (Ok k) e = rw (← e) at (found w kinds)
named w (Err u) e = of_all w (rw (← e) at (found w kinds))

-- what is put, with what is still to come, is the whole: one element's text more
pub put_more : {A : Type 0} (f : A → List ℕ) (xs : List A) (i : ℕ) (d : A) (done more : List ℕ) {whole : List ℕ} → i < length xs → done ++ flat_map f (drop i xs) ≡ whole → more ≡ done ++ f (get_or xs i d) → more ++ flat_map f (drop (i + 1) xs) ≡ whole
put_more f xs i d done more h e p = rw (p, append_assoc, add-one) (rw (drop-cons xs i d h) at e)
