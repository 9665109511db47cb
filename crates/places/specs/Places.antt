-- A string in the 1,000 places of a sheet (01, "The sheet").
use Rattle.std.specs.Prelude.{List, ◌++◌, ℕ, ◌-◌, length, replicate}
use Rattle.terms.specs.Sizes.{most_letters}

-- The string in N places, with zeros behind it.
unfoldable pub padded_to : ℕ → List ℕ → List ℕ
padded_to N string = string ++ replicate (N - length string) 0

-- The string, with zeros behind it.
abbrev pub padded : List ℕ → List ℕ
padded string = padded_to most_letters string
