-- What a report counts, and its lines, as lists of bytes. Assumes nothing.
use Rattle.std.specs.Prelude.{List, ◌++◌, ℕ, ◌+◌, ◌%◌, ◌^◌, codes, decimal}
use Rattle.std.specs.List.{fold}

-- the sum of the tallies, in 64 bits
abbrev pub total : List ℕ → ℕ
total t = fold (λ sum tally. (sum + tally) % 2 ^ 64) 0 t

-- `NAME: N agreed` and a line feed
unfoldable pub agreed_text : List ℕ → ℕ → List ℕ
agreed_text name n = name ++ codes ": " ++ decimal n ++ codes " agreed\n"

-- `line N: `
unfoldable pub line_text : ℕ → List ℕ
line_text n = codes "line " ++ decimal n ++ codes ": "

-- `line N: NAME differs` and a line feed
unfoldable pub differs_text : ℕ → List ℕ → List ℕ
differs_text line name = line_text line ++ name ++ codes " differs\n"

-- `line N: WHY` and a line feed
unfoldable pub why_text : ℕ → List ℕ → List ℕ
why_text line why = line_text line ++ why ++ codes "\n"

-- `all N agree` and a line feed
unfoldable pub all_text : ℕ → List ℕ
all_text n = codes "all " ++ decimal n ++ codes " agree\n"
