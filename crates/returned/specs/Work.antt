-- Working notions: what the helpers say. No promise to a caller rests on reading them.
use Rattle.std.specs.Prelude.{◌≡◌, Bool, true, false, List, ℕ, ◌+◌, ◌*◌, ◌<◌, ◌≤◌, length}
use Rattle.terms.specs.Tells.{Tells}
use Rattle.terms.specs.Texts.{Text, size}
use Rattle.terms.specs.declared.limits.Limits.{Limits}
use Rattle.tilings.specs.Tilings.{Part, gaps, GapFirst, Tiles}
use Rattle.boards.specs.Pieces.{board}
use Rattle.records.specs.Records.{record_size, records_from}
use Rattle.reader.specs.Reader.{record_bytes}
use Rattle.judged.specs.Judged.{Right}
use Rattle.returned.specs.Returned.{SomeWrong, Agrees}

-- Every record that begins before a place is a right part.
abbrev pub RightBefore : Text → Limits → List ℕ → ℕ → Type 0
RightBefore x l file at = (k : ℕ) → record_size * k < at → Right x l (record_bytes file (record_size * k))

abbrev pub AllRight : Text → Limits → List ℕ → Type 0
AllRight x l file = RightBefore x l file (length file)

-- The answer of the test of all records.
unfoldable pub Judged : Bool → Text → Limits → List ℕ → Type 0
Judged true x l file = AllRight x l file
Judged false x l file = SomeWrong x l file

-- What is left of a file is a tiling from i on, q gaps being used up; where the last part was a gap (b is true), not with a gap first.
pub record Rest (x : Text) (l : Limits) (left : List ℕ) (i q : ℕ) (b : Bool) : Type 0 where
  pub parts : List Part
  pub tiles : Tiles (board x l) i parts
  pub few : gaps parts + q ≤ l.g
  pub apart : b ≡ true → GapFirst parts → ⊥
  pub written : left ≡ records_from x i parts

-- Of right records the answer says whether they are a permitted tiling, whatever the letters: n of them, and at most g gaps.
abbrev pub Decides : Bool → ℕ → ℕ → List ℕ → Type 0
Decides r n g file = (x : Text) (l : Limits) → size x ≡ n → l.g ≡ g → AllRight x l file → Tells r (Agrees x l file)
