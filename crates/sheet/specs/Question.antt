-- The tiling question on a sheet (01, "Order"): 24, then 11, 10, 12; the sheet stays.
use Rattle.std.specs.Prelude.{◌≡◌, true, false, List, [], ◌∷◌, ◌⊎◌, ℕ}
use Rattle.terms.specs.Refusals.{OneOf}
use Rattle.questions.specs.Tiling.{Answer, number_in, refusal, TilingReply}
use Rattle.sheet.specs.Bounds.{text_of, in_bounds}
use Rattle.sheet.specs.declared.Sheet.{Sheet}

-- Out of bounds: 24, both rooms as lent. In bounds: as the question without a sheet replies to its letters, map and limits.
abbrev pub SheetReply : Sheet → List ℕ → List ℕ → List ℕ → List ℕ → Answer → Type 0
SheetReply s table table' room room' r =
    ((in_bounds s ≡ false) × (r ≡ refusal 24) × (table' ≡ table) × (room' ≡ room))
    ⊎ ((in_bounds s ≡ true) × TilingReply (text_of s) s.limits table table' room room' r)

-- For a reader: the number answered is one of these, and two replies to one question are equal, rooms included.
pub record SheetLaws (s : Sheet) (table room : List ℕ) : Type 0 where
  pub listed :
      (table' room' : List ℕ) (r : Answer) → SheetReply s table table' room room' r → OneOf (number_in r) (0 ∷ 24 ∷ 11 ∷ 10 ∷ 12 ∷ [])
  pub one :
      (table' table'' room' room'' : List ℕ) (r r'' : Answer)
      → SheetReply s table table' room room' r
      → SheetReply s table table'' room room'' r''
      → (table' ≡ table'') × (room' ≡ room'') × (r ≡ r'')
