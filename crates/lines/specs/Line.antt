-- A line is a word of small letters and `_`, and behind it one or more decimal numbers, each with one space before it. A line that starts with `#` is a
-- comment, and an empty line is passed over. This file says what the reader makes of one byte, and of the bytes that were read up to the end of a line.
-- Which bytes the input gives, no definition can say. Assumes nothing.
use Rattle.std.specs.Prelude.{Bool, true, false, cond, not, ◌&&◌, ◌||◌, List, [], ◌∷◌, ◌++◌, ◌≡◌, ℕ, zero, suc, ◌+◌, ◌-◌, ◌*◌, ◌^◌, ◌≤◌, min, leb, ltb, eqb, ℤ, pos, negsuc, neg_ℤ, Option, Some, None, is_some, length, get_or, set}
use Rattle.std.specs.Char.{is_ascii_digit, is_ascii_lowercase}
use Rattle.std.specs.Int.Signed.{le_z}
use Rattle.lines.specs.declared.State.{State}
use Rattle.lines.specs.declared.Reader.{Reader as TheReader}
use Rattle.lines.specs.declared.Found.{Found}
use Rattle.lines.specs.declared.Found.TheVariants.{Line, AllRead, NotALine}
use Rattle.lines.specs.declared.Place.{Place}
use Rattle.lines.specs.declared.Place.TheVariants.{Start, Word, Number, Digits, Comment}

-- ---- bytes, in ASCII

abbrev pub newline : ℕ
newline = 10

abbrev pub space : ℕ
space = 32

abbrev pub hash : ℕ
hash = 35

abbrev pub minus : ℕ
minus = 45

-- `a` to `z`, or `_`
abbrev pub is_letter : ℕ → Bool
is_letter b = is_ascii_lowercase b || eqb b 95

-- the digit that the byte stands for
abbrev pub digit : ℕ → ℕ
digit b = b - 48

-- ---- the state

-- the fields in their order
abbrev pub fields : Option Found → ℕ → Place → Bool → ℕ → ℕ → ℕ → State
fields f l p neg m a e = record { found = f; line = l; place = p; is_negative = neg; magnitude = m; at = a; end = e }

-- the state with this found
abbrev pub finds : Found → State → State
finds f s = fields (Some f) s.line s.place s.is_negative s.magnitude s.at s.end

-- .. with another thing that comes next
abbrev pub goes_to : Place → State → State
goes_to p s = fields s.found s.line p s.is_negative s.magnitude s.at s.end

-- .. with another number being read: whether it has a minus sign, and its magnitude so far
abbrev pub reading : Bool → ℕ → State → State
reading neg m s = fields s.found s.line s.place neg m s.at s.end

-- .. with other bytes still to be taken: those from a up to e
abbrev pub bytes : ℕ → ℕ → State → State
bytes a e s = fields s.found s.line s.place s.is_negative s.magnitude a e

-- one more; a count of 64 bits stays at its largest
abbrev pub one_more : ℕ → ℕ
one_more n = min (n + 1) (2 ^ 64 - 1)

-- before line l: nothing is found, nothing is read
abbrev pub before : ℕ → ℕ → ℕ → State
before l a e = fields None l Start false 0 a e

-- the line is passed over, and the next one starts
abbrev pub next_line : State → State
next_line s = before (one_more s.line) s.at s.end

-- what was read is no line
abbrev pub refused : State → State
refused s = finds NotALine s

-- ---- the word

-- the word and the letter b behind it, if there is room: a word has at most so many letters
unfoldable pub push_letter : ℕ → ℕ → State → List ℕ → State × List ℕ
push_letter room b s w =
    cond (eqb (length w) room)
    (refused s, w)
    (goes_to Word s, w ++ b ∷ [])

-- the first byte of a line: its end, the mark of a comment, or a letter
unfoldable pub start_step : ℕ → ℕ → State → List ℕ → State × List ℕ
start_step room b s w =
    cond (eqb b newline) (next_line s, w)
    (cond (eqb b hash) (goes_to Comment s, w) (cond (is_letter b) (push_letter room b s w) (refused s, w)))

-- the word goes on, or a space ends it
unfoldable pub word_step : ℕ → ℕ → State → List ℕ → State × List ℕ
word_step room b s w = cond (is_letter b) (push_letter room b s w) (cond (eqb b space) (goes_to Number s, w) (refused s, w))

-- ---- a number

-- one more digit; a magnitude whose tenfold is above 2^63 takes none, as no number of 64 bits would have it
unfoldable pub push_digit : ℕ → State → State
push_digit b s =
    cond (is_ascii_digit b && leb (10 * s.magnitude) (2 ^ 63))
    (goes_to Digits (reading s.is_negative (10 * s.magnitude + digit b) s))
    (refused s)

-- a minus sign stands first, and once
unfoldable pub number_step : ℕ → State → State
number_step b s = cond (eqb b minus && not s.is_negative) (reading true s.magnitude s) (push_digit b s)

-- a number from −2^63 up to 2^63 − 1, or none
abbrev pub fitting : ℤ → Option ℤ
fitting z = cond (le_z (negsuc (2 ^ 63 - 1)) z && le_z z (pos (2 ^ 63 - 1))) (Some z) None

-- the number that has this sign and magnitude
unfoldable pub value_of : Bool → ℕ → Option ℤ
value_of neg m = fitting (cond neg (neg_ℤ (pos m)) (pos m))

-- the number goes behind those that are there; one that does not fit is no line's
abbrev pub store : Option ℤ → State → List ℤ → State × List ℤ
store (Some v) s n = (goes_to Number (reading false 0 s), n ++ v ∷ [])
store None s n = (refused s, n)

-- the number that was read is stored, if there is room: a line has at most so many
unfoldable pub end_number : ℕ → State → List ℤ → State × List ℤ
end_number most s n = cond (eqb (length n) most) (refused s, n) (store (value_of s.is_negative s.magnitude) s n)

-- the line is whole, if nothing was wrong with its last number
abbrev pub end_line : State → State
end_line s = cond (is_some s.found) s (finds Line s)

-- a space or the end of the line ends the number; else it goes on
unfoldable pub digits_step : ℕ → ℕ → State → List ℤ → State × List ℤ
digits_step most b s n =
    cond (eqb b space) (end_number most s n)
    (cond (eqb b newline) (end_line (end_number most s n).0, (end_number most s n).1) (push_digit b s, n))

-- ---- a comment, which ends with its line

unfoldable pub comment_step : ℕ → State → State
comment_step b s = cond (eqb b newline) (next_line s) s

-- ---- the reader

-- the reader between two bytes: the state, the word and the numbers so far, and how many letters and how many numbers a line may have
pub record Reader : Type 0 where
  pub state : State
  pub word : List ℕ
  pub numbers : List ℤ
  pub room : ℕ
  pub most : ℕ

abbrev pub reader : State → List ℕ → List ℤ → ℕ → ℕ → Reader
reader s w n room most = record { state = s; word = w; numbers = n; room = room; most = most }

abbrev pub seen : {W N : ℕ} → TheReader W N → Reader
seen {W} {N} r = reader r.state r.word.items r.numbers.items W N

-- the reader with another state and word, another state and numbers, another state
abbrev pub with_word : Reader → State × List ℕ → Reader
with_word r p = reader p.0 p.1 r.numbers r.room r.most

abbrev pub with_numbers : Reader → State × List ℤ → Reader
with_numbers r p = reader p.0 r.word p.1 r.room r.most

abbrev pub with_state : Reader → State → Reader
with_state r s = reader s r.word r.numbers r.room r.most

-- what the byte b makes of it, where p was to come next
abbrev pub step_at : Place → ℕ → Reader → Reader
step_at Start b r = with_word r (start_step r.room b r.state r.word)
step_at Word b r = with_word r (word_step r.room b r.state r.word)
step_at Number b r = with_state r (number_step b r.state)
step_at Digits b r = with_numbers r (digits_step r.most b r.state r.numbers)
step_at Comment b r = with_state r (comment_step b r.state)

unfoldable pub step : ℕ → Reader → Reader
step b r = step_at r.state.place b r

-- f, unless the reader has found something
abbrev pub unless_found : (Reader → Reader) → Reader → Reader
unless_found f r = cond (is_some r.state.found) r (f r)

-- the bytes before i are taken
abbrev pub taken : ℕ → Reader → Reader
taken i r = with_state r (bytes i r.state.end r.state)

-- up to n bytes from i on are taken, until something is found; a byte that is not there is no line
unfoldable pub steps_from : ℕ → List ℕ → ℕ → Reader → Reader
steps_from zero input i r = r
steps_from (suc n) input i r =
    cond (ltb i (length input)) (unless_found (steps_from n input (i + 1)) (taken (i + 1) (step (get_or input i 0) r))) (with_state r (refused r.state))

-- the bytes that are still to be taken
unfoldable pub steps : List ℕ → Reader → Reader
steps input r = steps_from (r.state.end - r.state.at) input r.state.at r

-- the input has no more bytes: the last line may lack its end
unfoldable pub end_input : Reader → Reader
end_input r = unless_found (λ t. with_state t (finds AllRead t.state)) (step newline r)

-- the input gave e bytes more
unfoldable pub given : ℕ → Reader → Reader
given e r = cond (eqb e 0) (end_input (with_state r (bytes 0 e r.state))) (with_state r (bytes 0 e r.state))

-- q is what the bytes that are left in input make of r; where they end no line, the input is asked for more, which are then in next
pub record ReadSome (input : List ℕ) (r : Reader) (next : List ℕ) (q : Reader) : Type 0 where
  -- how many bytes it gives
  pub more : ℕ
  pub fits : more ≤ length input
  pub is : q ≡ unless_found (given more) (steps input r)
  -- where something is found in those that are left, the buffer stays
  pub same : is_some (steps input r).state.found ≡ true → next ≡ input

-- from r and the bytes in input on, in at most n turns, the reader comes to q, with the bytes in last: each turn has the bytes that the one before it asked for, and the last has found something
pub data Reads : ℕ → List ℕ → Reader → List ℕ → Reader → Type 0 where
  never : {input : List ℕ} {r : Reader} → Reads 0 input r input r
  found : {n : ℕ} {input last : List ℕ} {r q : Reader} → ReadSome input r last q → is_some q.state.found ≡ true → Reads (suc n) input r last q
  then : {n : ℕ} {input next last : List ℕ} {r m q : Reader} → ReadSome input r next m → is_some m.state.found ≡ false → Reads n next m last q → Reads (suc n) input r last q

-- ---- the tallies of a run

-- one more in the tally of a kind; a kind that has none changes nothing
abbrev pub counted_up : ℕ → List ℕ → List ℕ
counted_up kind tallies = set tallies kind (one_more (get_or tallies kind 0))
