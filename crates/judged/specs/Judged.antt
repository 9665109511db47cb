-- One record by itself (02, L1): whether it is the record of a part of the string.
use Rattle.std.specs.Prelude.{◌≡◌, List, ℕ, ◌+◌, ◌≤◌}
use Rattle.terms.specs.Texts.{Text}
use Rattle.terms.specs.declared.limits.Limits.{Limits}
use Rattle.tilings.specs.Tilings.{Board, Part, piece, gap}
use Rattle.boards.specs.Pieces.{board}
use Rattle.records.specs.Records.{record_of}

-- A part by itself: a piece, or a gap of one letter or more within the letters.
abbrev pub PartAt : Board → ℕ → Part → Type 0
PartAt B i (piece L) = B.Piece i L
PartAt B i (gap L) = (1 ≤ L) × (i + L ≤ B.size)

-- The bytes are the record of a part of the string.
pub record Right (x : Text) (l : Limits) (bytes : List ℕ) : Type 0 where
  pub start : ℕ
  pub part : Part
  pub is : PartAt (board x l) start part
  pub written : bytes ≡ record_of x start part
