-- Parts as records of one fixed size, no header (01, "What is handed over").
use Rattle.std.specs.Prelude.{List, [], ◌∷◌, ◌++◌, ℕ, ◌+◌, ◌/◌, ◌%◌}
use Rattle.terms.specs.Texts.{Text}
use Rattle.spans.specs.Palindromes.{error_count}
use Rattle.tilings.specs.Tilings.{Part, piece, gap}
use Rattle.tilings.specs.Laws.{length_of}

-- A record's size.
abbrev pub record_size : ℕ
record_size = 6

-- Byte 0 is 80 (piece) or 71 (gap).
abbrev pub tag_of : Part → ℕ
tag_of (piece L) = 80
tag_of (gap L) = 71

-- Byte 1 is the error count, 0 for a gap.
abbrev pub errors_of : Text → ℕ → Part → ℕ
errors_of x i (piece L) = error_count x.letters x.map i L
errors_of x i (gap L) = 0

-- The record of the part that starts at i: bytes 2-3 are the start and 4-5 the length, high byte first.
abbrev pub record_of : Text → ℕ → Part → List ℕ
record_of x i p = tag_of p ∷ errors_of x i p ∷ i / 256 ∷ i % 256 ∷ length_of p / 256 ∷ length_of p % 256 ∷ []

-- The records of the parts from place i on, one after the other. The alphabet plays no part in them.
abbrev pub records_from : Text → ℕ → List Part → List ℕ
records_from x i [] = []
records_from x i (p ∷ ps) = record_of x i p ++ records_from x (i + length_of p) ps
