-- What replay_loads makes of a line: a call is counted only if a `check` line finds that it agrees. Assumes nothing.
use Rattle.std.specs.Prelude.{◌≡◌, ℕ, ◌+◌, ◌%◌, ◌^◌, ◌<◌, ◌≤◌, Bool, true, cond, ◌&&◌, List, length, replicate, ℤ, Option, Some, None, is_none, IsSomeAnd, ⊤, ◌==◌, ◌≢◌, slice_index, unsigned_abs}
use Rattle.cases.specs.declared.Verdict.{Verdict}
use Rattle.cases.specs.declared.Verdict.TheVariants.{Agrees, Differs as Differing, NotACase}
use Rattle.cases.specs.Numbers.{at, is_on, IsSize}
use Rattle.lines.specs.declared.Found.TheVariants.{Line, AllRead}
use Rattle.lines.specs.Line.{Reader, counted_up}
use Rattle.kept_cases.specs.KeptCase.{CaseAgrees}
use Rattle.replay_loads.specs.declared.asked.Asked.{Asked}
use Rattle.replay_loads.specs.declared.asked.Asked.TheVariants.{Call as ACall, Pass as APass}
use Rattle.replay_loads.specs.declared.book.Waiting.{Waiting}
use Rattle.replay_loads.specs.declared.book.Book.{Book}
use Rattle.replay_loads.specs.declared.book.End.{End}
use Rattle.replay_loads.specs.declared.book.End.TheVariants.{AllTaken, Differs, NotALine, NoRoom}
use Rattle.replay_loads.specs.declared.lists.Lists.{Lists as TheLists}
use Rattle.replay_loads.specs.declared.words.Word.{Word}
use Rattle.replay_loads.specs.declared.words.Word.TheVariants.{Case, Setup, Set, Call, Changed, Check, Pass}
use Rattle.replay_loads.specs.declared.words.Kind.{Kind}
use Rattle.replay_loads.specs.declared.words.Kind.TheVariants.{Load, RefusedLoad, Pass as OnePass}
use Rattle.replay_loads.specs.Words.{name, number}
use Rattle.replay_loads.specs.Lists.{start_of, cleared, Lies, line_put}

-- what a `call` line of the numbers n asks for: it takes eight
abbrev pub call_of : List ℤ → Option Asked
call_of n = cond (length n == 8) (Some (ACall n)) None

-- what a `pass` line of the numbers n asks for: it takes fourteen
abbrev pub pass_of : List ℤ → Option Asked
pass_of n = cond (length n == 14) (Some (APass n)) None

-- the numbers of the line
abbrev pub numbers : Asked → List ℤ
numbers (ACall n) = n
numbers (APass n) = n

-- the answer is the last of a call's eight: 0 is a load, the others are refusals
abbrev pub kind_of : Asked → Kind
kind_of (ACall n) = cond (is_on (at n 7)) RefusedLoad Load
kind_of (APass n) = OnePass

-- the book's fields in their order
abbrev pub fields : Option End → List ℕ → Option (List ℤ) → Option Waiting → Book
fields e l s c = record { ended = e; lengths = l; setup = s; call = c }

-- before the first line: no case, no setup, no call
abbrev pub new_book : Book
new_book = fields None (replicate 8 0) None None

abbrev pub ended : End → Book → Book
ended why b = fields (Some why) b.lengths b.setup b.call

-- the call is checked: none is begun
abbrev pub checked : Book → Book
checked b = fields b.ended b.lengths b.setup None

-- a line after which nothing changes, if it may stand here
abbrev pub passed : Bool → Book → Book
passed may b = cond may b (ended NotALine b)

-- no call waits for its check
abbrev pub is_free : Book → Bool
is_free b = is_none b.call

-- there is a setup of the numbers n
abbrev pub set_up : List ℤ → Book → Book
set_up n b = fields b.ended b.lengths (Some n) b.call

-- what is asked for is begun on line l: no element is named as changed since
abbrev pub begun : Asked → ℕ → Book → Book
begun a l b = fields b.ended b.lengths b.setup (Some (record { asked = a; line = l; changed = 0 }))

-- what a `setup` line of the numbers n leaves: it takes 171, and no call may wait for its check
abbrev pub setup_leaves : List ℤ → Book → Book
setup_leaves n b = cond (is_free b && length n == 171) (set_up n b) (ended NotALine b)

-- what a `call` or a `pass` line leaves, if it has the numbers to ask for one: no call may wait for its check
abbrev pub call_leaves : Option Asked → ℕ → Book → Book
call_leaves (Some a) l b = cond (is_free b) (begun a l b) (ended NotALine b)
call_leaves None l b = ended NotALine b

-- what a verdict on the call c leaves of the book
abbrev pub left : Verdict → Waiting → Book → Book
left Agrees c b = checked b
left Differing c b = ended (Differs c.line c.asked) b
left NotACase c b = ended NotALine b

-- and of the tallies
abbrev pub tallied : Verdict → Kind → List ℕ → List ℕ
tallied Agrees kind t = counted_up (number kind) t
tallied Differing kind t = t
tallied NotACase kind t = t

-- a `check` line with the numbers n may stand here, after this setup and the call c: its one number, where it is not negative, is how many elements were named as changed
pub record MayCheck (b : Book) (n setup : List ℤ) (c : Waiting) : Type 0 where
  pub one : length n ≡ 1
  pub called : b.call ≡ Some c
  pub is_set_up : b.setup ≡ Some setup
  pub all_named : IsSize (at n 0) → c.changed ≡ unsigned_abs (at n 0)

-- a line may end the run so: not as one that has taken all, and at a difference only of the call that waits
abbrev pub MayEnd : End → Book → Type 0
MayEnd AllTaken b = ⊥
MayEnd (Differs l a) b = IsSomeAnd b.call (λ c. (l ≡ c.line) × (a ≡ c.asked))
MayEnd NotALine b = ⊤
MayEnd NoRoom b = ⊤

-- what a `check` line leaves: the call has agreed and is counted, and the lists are the wanted ones; or the run ends, not as one that has taken all, and nothing is counted
pub data Checked (b : Book) (n : List ℤ) (x y : TheLists) (before after : List ℕ) (r : Book) : Type 0 where
  counts : {setup : List ℤ} {c : Waiting} → MayCheck b n setup c → CaseAgrees b.lengths x.cells x.want setup (numbers c.asked) → after ≡ counted_up (number (kind_of c.asked)) before → y.cells ≡ x.want → y.want ≡ x.want → r ≡ checked b → Checked b n x y before after r
  stops : {why : End} → MayEnd why b → after ≡ before → r ≡ ended why b → y.want ≡ x.want → Checked b n x y before after r

-- the first k lists have the lengths that a `case` line states
abbrev pub LengthsStated : ℕ → List ℤ → List ℕ → Type 0
LengthsStated k n lengths = (i : ℕ) → i < k → IsSize (at n (i + 1)) → slice_index lengths i ≡ unsigned_abs (at n (i + 1))

-- each of the first k lists ends before the next begins
abbrev pub LengthsFit : ℕ → List ℕ → Type 0
LengthsFit k lengths = (i : ℕ) → i < k → start_of i + slice_index lengths i ≤ start_of (i + 1)

-- what a `case` line leaves of the book, where no call waits for its check: a new one, with the lengths that it states, for which there is room; or the run ends, not as one that has taken all
pub data CaseLeaves (b : Book) (n : List ℤ) (r : Book) : Type 0 where
  opens : is_free b ≡ true → length n ≡ 9 → r.ended ≡ None → r.setup ≡ None → r.call ≡ None → LengthsStated 8 n r.lengths → LengthsFit 8 r.lengths → CaseLeaves b n r
  opens_none : {why : End} → MayEnd why b → r ≡ ended why b → CaseLeaves b n r

-- elements were named as changed, d since the call c
abbrev pub named : ℕ → Waiting → Book → Book
named d c b = fields b.ended b.lengths b.setup (Some (record { asked = c.asked; line = c.line; changed = d }))

-- what a `set` line leaves: the lists and the wanted ones have its values; or the run ends
pub data SetLeaves (b : Book) (n : List ℤ) (x y : TheLists) (r : Book) : Type 0 where
  sets : Lies b.lengths n → y.cells ≡ line_put n x.cells → y.want ≡ line_put n x.want → r ≡ passed (is_free b) b → SetLeaves b n x y r
  set_stops : r ≡ ended NotALine b → SetLeaves b n x y r

-- what a `changed` line of the numbers n leaves of the book, if its values were put or not: after a call, so many elements more were named, in 64 bits
pub data NamedLeaves (b : Book) (n : List ℤ) (is_set : Bool) (r : Book) : Type 0 where
  names : {d : ℕ} {c : Waiting} → is_set ≡ true → b.call ≡ Some c → (IsSize (at n 2) → d ≡ (c.changed + unsigned_abs (at n 2)) % 2 ^ 64) → r ≡ named d c b → NamedLeaves b n is_set r
  names_none : r ≡ ended NotALine b → NamedLeaves b n is_set r

-- and of the wanted lists: they have its values; or the run ends
pub data ChangeLeaves (b : Book) (n want want2 : List ℤ) (r : Book) : Type 0 where
  changes : {c : Waiting} → Lies b.lengths n → want2 ≡ line_put n want → b.call ≡ Some c → r ≡ named ((c.changed + unsigned_abs (at n 2)) % 2 ^ 64) c b → ChangeLeaves b n want want2 r
  change_stops : r ≡ ended NotALine b → ChangeLeaves b n want want2 r

-- what a line of this word, with the numbers n, makes of the book, the lists and the tallies
abbrev pub Acted : Word → Book → ℕ → List ℤ → TheLists → TheLists → List ℕ → List ℕ → Book → Type 0
Acted Case b l n x y before after r = CaseLeaves b n r × (y.cells ≡ cleared x.cells) × (y.want ≡ cleared x.want) × (after ≡ before)
Acted Setup b l n x y before after r = (r ≡ setup_leaves n b) × (y ≡ x) × (after ≡ before)
Acted Set b l n x y before after r = SetLeaves b n x y r × (after ≡ before)
Acted Call b l n x y before after r = (r ≡ call_leaves (call_of n) l b) × (y ≡ x) × (after ≡ before)
Acted Changed b l n x y before after r = ChangeLeaves b n x.want y.want r × (y.cells ≡ x.cells) × (after ≡ before)
Acted Check b l n x y before after r = Checked b n x y before after r
Acted Pass b l n x y before after r = (r ≡ call_leaves (pass_of n) l b) × (y ≡ x) × (after ≡ before)

-- what is made of what the reader found: the line is taken, or the run ends
pub data Taken (b : Book) (l : Reader) (x y : TheLists) (before after : List ℕ) (r : Book) : Type 0 where
  acts : (w : Word) → l.state.found ≡ Some Line → l.word ≡ name w → Acted w b l.state.line l.numbers x y before after r → Taken b l x y before after r
  unknown : l.state.found ≡ Some Line → ((w : Word) → l.word ≢ name w) → y ≡ x → after ≡ before → r ≡ ended NotALine b → Taken b l x y before after r
  ends : l.state.found ≡ Some AllRead → y ≡ x → after ≡ before → r ≡ ended (cond (is_free b) AllTaken NotALine) b → Taken b l x y before after r
  refuses : (l.state.found ≢ Some AllRead) → (l.state.found ≢ Some Line) → y ≡ x → after ≡ before → r ≡ ended NotALine b → Taken b l x y before after r
