-- The table, the room and the `out` that the call program lends are enough; proved in proofs/.
use Rattle.std.specs.Prelude.{◌≡◌, List, [], ◌∷◌, ℕ, ◌≤◌, ◌<◌, length, get_or, IfSome}
use Rattle.terms.specs.Refusals.{OneOf}
use Rattle.questions.specs.Tiling.{Answer, number_in}
use Rattle.changes.specs.declared.Change.{Change}
use Rattle.changes.specs.declared.Change.TheVariants.{Letter, Kind, Lengths, PutIn, TakeOut}
use Rattle.kept.specs.Lists.{kept_at}
use Rattle.sheet.specs.Question.{SheetReply}
use Rattle.sheet.specs.declared.Sheet.{Sheet}
use Rattle.desk.specs.Desk.{DeskReply}
use Rattle.desk.specs.declared.Desk.{Desk}
use Rattle.desk.specs.declared.Turn.{Turn}

-- With so much lent, no question is refused for want of room: 11 and 12 don't occur.
abbrev pub RoomEnough : Type 0
RoomEnough =
    (s : Sheet) (table table' room room' : List ℕ) (r : Answer)
    → 16016 ≤ length table → 6000 ≤ length room → SheetReply s table table' room room' r → OneOf (number_in r) (0 ∷ 24 ∷ 10 ∷ [])

-- A sheet's letters, and those of its kept changes, are bytes, as the sheet's own type has it.
abbrev pub LettersOf : Change → Type 0
LettersOf (Letter p old new) = (old < 256) × (new < 256)
LettersOf (Kind k₀ d₀ k d) = Unit {0}
LettersOf (Lengths m₀ g₀ m g) = Unit {0}
LettersOf (PutIn p b) = b < 256
LettersOf (TakeOut p b) = b < 256

pub record Bytes (s : Sheet) : Type 0 where
  pub letters : (i : ℕ) → get_or s.letters i 0 < 256
  pub kept : (i : ℕ) → LettersOf (kept_at s.kept i)

-- With 65,536 bytes lent as `out`, no reply is cut: as many bytes are put as its text has.
abbrev pub RepliesFit : Type 0
RepliesFit =
    (d : Desk) (line table table' room room' out out' : List ℕ) (r : Turn)
    → IfSome d.sheet Bytes
    → 65536 ≤ length out
    → (reply : DeskReply d line table table' room room' out out' r) → r.written ≡ length reply.text
