-- Sizes (01, "The sheet" and refusals 1, 5 and 7).
use Rattle.std.specs.Prelude.{ℕ}

-- A string has at most 1,000 letters, and no shortest length is above that.
abbrev pub most_letters : ℕ
most_letters = 1000

-- At most 64 changes stand.
abbrev pub most_changes : ℕ
most_changes = 64

-- A question allows at most 15 gaps, and at most 15 errors a piece.
abbrev pub most_gaps : ℕ
most_gaps = 15

abbrev pub most_errors : ℕ
most_errors = 15
