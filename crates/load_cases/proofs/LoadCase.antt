-- Laws of a kept load: the call by what is asked, its verdict. Assumes nothing.
use Rattle.std.proofs.Common.{Some, slice_get, get_or, ◌≡◌, ap, ◌∙◌, subst, List, ℕ, ◌+◌, ℤ, pos}
use Rattle.std.proofs.lemmas.Option.{slice_get-get_or}
use Rattle.frame.specs.declared.Frame.{Frame}
use Rattle.store.specs.Store.{Store}
use Rattle.store.specs.Calls.{called}
use Rattle.load.specs.declared.Asked.{Asked}
use Rattle.load.specs.Asked.{call_of}
use Rattle.load.specs.Calls.{answer, load}
use Rattle.cases.specs.Numbers.{at}
use Rattle.frame_cases.specs.FrameCase.{record_of, Stated}
use Rattle.load_cases.specs.LoadCase.{Listed, ListedBytes, asked_at, StoreListed, CallAgrees}

-- an answer and a store after a call
abbrev Left : Frame → List ℤ → Store → ℕ → Store → Asked → Type 0
Left f planes s r u a = (r ≡ answer (call_of f a planes) s) × (u ≡ called answer load (call_of f a planes) s)

pub left_by : (f : Frame) (planes : List ℤ) (s : Store) {a b : Asked} {u : Store} {r m : ℕ} → a ≡ b → r ≡ m → Left f planes s m u a → Left f planes s r u b
left_by f planes s {a} {b} {u} {r} {m} e q h = let k = subst (Left f planes s m u) e h in (q ∙ k.0, k.1)

-- lines that are a case, and agree
pub agreed : (f : Frame) (setup n planes : List ℤ) (s : Store) (want : List ℤ) {u : Store} {r : ℕ}
    → Stated (record_of f) setup 0 → Left f planes s r u (asked_at n 0) → at n 7 ≡ pos r → StoreListed u want → CallAgrees setup n planes s want
agreed f setup n planes s want st l e same = record { frame = f; stated = st; same_answer = e ∙ ap pos l.0; same_store = subst (λ (x : Store). StoreListed x want) l.1 same }

-- a list whose elements are the numbers, one by one
pub listed : (l n : List ℤ) (from : ℕ) → ((k : ℕ) (v : ℤ) → slice_get l k ≡ Some v → at n (from + k) ≡ v) → Listed l n from
listed l n from h = λ k b. h k (at l k) (slice_get-get_or l k (pos 0) b)

pub listed_bytes : (l : List ℕ) (n : List ℤ) (from : ℕ) → ((k v : ℕ) → slice_get l k ≡ Some v → at n (from + k) ≡ pos v) → ListedBytes l n from
listed_bytes l n from h = λ k b. h k (get_or l k 0) (slice_get-get_or l k 0 b)
