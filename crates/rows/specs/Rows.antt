-- Rows of numbers, for the contracts of helpers. No promise to a caller rests on reading it.
use Rattle.std.specs.Prelude.{◌≡◌, List, ℕ, ◌+◌, ◌<◌, length, get_or}
use Rattle.tilings.specs.Work.{Lesser, Onward}

-- Each number is 65535.
abbrev pub Cleared : List ℕ → Type 0
Cleared after = (q : ℕ) → q < length after → get_or after q 0 ≡ 65535

-- Each number is the lesser of what it was and of the one below it.
pub record Lowered (before below after : List ℕ) : Type 0 where
  pub long : length after ≡ length before
  pub at : (q : ℕ) → q < length before → Lesser (get_or before q 0) (get_or below q 0) (get_or after q 0)

-- Number q + 1 is one more than the lesser of itself and of number q below; the first stays.
pub record Moved (before below after : List ℕ) : Type 0 where
  pub long : length after ≡ length before
  pub first : get_or after 0 0 ≡ get_or before 0 0
  pub at : (q : ℕ) → q + 1 < length before → (w : ℕ) × Lesser (get_or before (q + 1) 0) (get_or below q 0) w × Onward w (get_or after (q + 1) 0)

-- Each number is the lesser of the two rows'.
abbrev pub Stored : List ℕ → List ℕ → List ℕ → Type 0
Stored row gaps after = (q : ℕ) → q < length after → Lesser (get_or row q 0) (get_or gaps q 0) (get_or after q 0)
