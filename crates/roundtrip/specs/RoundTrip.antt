-- What a tiling question wrote is read back, part by part, and the second question says yes to it (02, L1); proved in proofs/.
use Rattle.std.specs.Prelude.{◌≡◌, List, ℕ, ◌*◌, take}
use Rattle.terms.specs.Texts.{Text}
use Rattle.terms.specs.declared.limits.Limits.{Limits}
use Rattle.tilings.specs.Tilings.{Part, Given}
use Rattle.boards.specs.Pieces.{board}
use Rattle.records.specs.Records.{record_size}
use Rattle.questions.specs.Tiling.{Answer, number_in, parts_in, TilingReply}
use Rattle.sheet.specs.Bounds.{text_of}
use Rattle.sheet.specs.Question.{SheetReply}
use Rattle.sheet.specs.declared.Sheet.{Sheet}
use Rattle.reader.specs.Laws.{HandsOut}
use Rattle.returned.specs.Returned.{AgreeReply}

-- The file that a question wrote into a room: parts × 6 bytes.
abbrev pub file_of : Answer → List ℕ → List ℕ
file_of r room = take (record_size * parts_in r) room

-- The reader hands out the parts of the tiling given, and whatever the second question answers is yes.
pub record ComesBack (x : Text) (l : Limits) (room : List ℕ) (r : Answer) : Type 0 where
  pub parts : List Part
  pub given : Given (board x l) 0 l.g parts
  pub handed : HandsOut x (file_of r room) 0 0 parts
  pub yes : (k : ℕ) → AgreeReply x l (file_of r room) k → k ≡ 0

-- So for every accepted question without a sheet, and on a sheet with its letters, map and limits.
abbrev pub WrittenComesBack : Type 0
WrittenComesBack =
    (x : Text) (l : Limits) (table table' room room' : List ℕ) (r : Answer) → TilingReply x l table table' room room' r → number_in r ≡ 0 → ComesBack x l room' r

abbrev pub SheetComesBack : Type 0
SheetComesBack =
    (s : Sheet) (table table' room room' : List ℕ) (r : Answer) → SheetReply s table table' room room' r → number_in r ≡ 0 → ComesBack (text_of s) s.limits room' r
