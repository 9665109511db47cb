-- What a line that is read asks for: places in the line, and slices no longer than four digits can name. Working notions: no promise to a caller rests on reading them.
use Rattle.std.specs.Prelude.{List, ℕ, ◌≤◌, length, Option, Some, None}
use Rattle.inspect.specs.declared.asks.TilingAsk.{TilingAsk}
use Rattle.inspect.specs.declared.asks.CentresAsk.{CentresAsk}
use Rattle.inspect.specs.declared.asks.Ask.{Ask}
use Rattle.inspect.specs.declared.asks.Ask.TheVariants.{Tiling, OnSheet, Centres, Longest, Longer, Centre, Shuffled}

-- The place after a space is at most a given one.
abbrev pub Begins : ℕ → Option ℕ → Type 0
Begins most (Some next) = next ≤ most
Begins most None = Unit {0}

-- The same of the place after a letter: a map's, an alphabet's, or both.
abbrev pub Follows : {A : Type 0} → ℕ → Option (A × ℕ) → Type 0
Follows most (Some named) = named.1 ≤ most
Follows most None = Unit {0}

-- The string stands in the line, and four digits name the slices' lengths.
abbrev pub TilingFits : List ℕ → Option TilingAsk → Type 0
TilingFits xs (Some a) = (a.table ≤ 9999) × (a.room ≤ 9999) × (a.from ≤ length xs)
TilingFits xs None = Unit {0}

abbrev pub CentresFit : List ℕ → Option CentresAsk → Type 0
CentresFit xs (Some a) = (a.number ≤ 9999) × (a.from ≤ length xs)
CentresFit xs None = Unit {0}

-- The same of every line; of two strings the first stands in the line too.
abbrev pub Fits : List ℕ → Option Ask → Type 0
Fits xs (Some (Tiling a)) = TilingFits xs (Some a)
Fits xs (Some (OnSheet a)) = TilingFits xs (Some a)
Fits xs (Some (Centres a)) = CentresFit xs (Some a)
Fits xs (Some (Longest map from)) = from ≤ length xs
Fits xs (Some (Longer map from second)) = (from ≤ second) × (second ≤ length xs)
Fits xs (Some (Centre a)) = CentresFit xs (Some a)
Fits xs (Some (Shuffled entries from)) = (entries ≤ 9999) × (from ≤ length xs)
Fits xs None = Unit {0}
