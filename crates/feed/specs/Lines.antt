-- The lines of an input (01, "The call program"): each ends before a line end, byte 10.
use Rattle.std.specs.Prelude.{◌≡◌, cond, List, [], ◌∷◌, ◌++◌, ℕ, min, eqb, length, take}

-- The line end.
abbrev pub line_end : ℕ
line_end = 10

-- The whole lines of an input, where the bytes `line` came before it with no line end.
abbrev pub whole_lines : List ℕ → List ℕ → List (List ℕ)
whole_lines line [] = []
whole_lines line (b ∷ input) = cond (eqb b line_end) (line ∷ whole_lines [] input) (whole_lines (line ++ (b ∷ [])) input)

-- The bytes after its last line end.
abbrev pub last_line : List ℕ → List ℕ → List ℕ
last_line line [] = line
last_line line (b ∷ input) = cond (eqb b line_end) (last_line [] input) (last_line (line ++ (b ∷ [])) input)

-- The room keeps the first bytes of a line, as many as it has places for: `at` of them.
pub record Kept (room : List ℕ) (at : ℕ) (line : List ℕ) : Type 0 where
  pub many : at ≡ min (length line) (length room)
  pub bytes : take at room ≡ take (length room) line
