-- Working notions: what the writer of records asks. No promise to a caller rests on reading them.
use Rattle.std.specs.Prelude.{List, [], ◌∷◌, ℕ, ◌+◌, ◌≤◌, ◌<◌, map}
use Rattle.terms.specs.Texts.{Text, size}
use Rattle.tilings.specs.Tilings.{Part}
use Rattle.tilings.specs.Laws.{length_of}
use Rattle.tilings.specs.Work.{decode}
use Rattle.records.specs.Records.{errors_of}

-- A part lies within the letters, and its error count is a byte.
pub record Fit (x : Text) (i : ℕ) (p : Part) : Type 0 where
  pub inside : i + length_of p ≤ size x
  pub byte : errors_of x i p < 256

unfoldable pub Writable : Text → ℕ → List Part → Type 0
Writable x i [] = Unit {0}
Writable x i (p ∷ ps) = Fit x i p × Writable x (i + length_of p) ps

-- The parts that numbers stand for.
abbrev pub parts_of : List ℕ → List Part
parts_of codes = map decode codes
