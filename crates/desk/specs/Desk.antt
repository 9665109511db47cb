-- One line in, one reply out (01, "The call program"): 13, then 14, then the call.
use Rattle.std.specs.Prelude.{◌≡◌, Bool, cond, List, ◌⊎◌, ℕ, ◌<◌, eqb, drop, Result, Option, None, Some}
use Rattle.terms.specs.Maps.{plain_map, complement_map}
use Rattle.terms.specs.Texts.{text_all}
use Rattle.terms.specs.declared.refusal.Refusal.{Refusal}
use Rattle.tilings.specs.Tilings.{Part, Given}
use Rattle.boards.specs.Pieces.{board}
use Rattle.questions.specs.Tiling.{Answer, number_in, figures}
use Rattle.sheet.specs.Bounds.{text_of}
use Rattle.sheet.specs.Calls.{number_of, change_call, take_back_call, put_again_call, open_call}
use Rattle.sheet.specs.Question.{SheetReply}
use Rattle.sheet.specs.declared.Said.{Said}
use Rattle.sheet.specs.declared.Sheet.{Sheet}
use Rattle.sheet.specs.declared.Reply.{Reply}
use Rattle.printing.specs.Printing.{Put}
use Rattle.lines.specs.Lines.{Reads}
use Rattle.lines.specs.declared.Line.{Line}
use Rattle.lines.specs.declared.Line.TheVariants.{Open, Change, TakeBack, PutAgain, Question}
use Rattle.replies.specs.Replies.{refusal_text, said_text, restored_text, tiling_text}
use Rattle.desk.specs.declared.Desk.{Desk}
use Rattle.desk.specs.declared.Turn.{Turn}

-- The desk before any opening: no sheet is open.
abbrev pub new_desk : Desk
new_desk = record { sheet = None }

-- The desk with a sheet open.
abbrev pub with_sheet : Sheet → Desk
with_sheet s = record { sheet = Some s }

-- The map that a line names.
abbrev pub map_of : Bool → List ℕ
map_of complement = cond complement complement_map plain_map

-- An opening prints what it says; a refused one leaves the desk with the former sheet, or with none.
unfoldable pub opening : Desk → Reply → Desk × List ℕ
opening d r = (cond (eqb (number_of r.said) 0) (with_sheet r.sheet) d, said_text r.said)

-- What a call does to a desk, by the sheet given: it prints what it says and leaves the sheet that it hands back; with none, 14 is printed and the desk stays.
abbrev pub called : Desk → (Sheet → Reply) → (Result Said Refusal → List ℕ) → Option Sheet → Desk × List ℕ
called d call show None = (d, refusal_text 14)
called d call show (Some s) = (with_sheet (call s).sheet, show (call s).said)

-- The same by the desk's own sheet.
unfoldable pub calling : Desk → (Sheet → Reply) → (Result Said Refusal → List ℕ) → Desk × List ℕ
calling d call show = called d call show d.sheet

-- What a question prints: its refusal, or the figures and parts of the tiling given.
pub record Shown (s : Sheet) (table table' room room' text : List ℕ) : Type 0 where
  pub answer : Answer
  pub reply : SheetReply s table table' room room' answer
  pub printed :
      ((0 < number_in answer) × (text ≡ refusal_text (number_in answer)))
      ⊎ ((ps : List Part) × Given (board (text_of s) s.limits) 0 s.limits.g ps × (answer ≡ figures ps) × (text ≡ tiling_text (text_of s) ps))

-- The table and the room stay as lent.
abbrev pub Stay : List ℕ → List ℕ → List ℕ → List ℕ → Type 0
Stay table table' room room' = (table' ≡ table) × (room' ≡ room)

-- What a line brings about: the desk afterwards and the text of its reply, with table and room as lent and as left.
abbrev pub Does : Desk → List ℕ → Option Line → List ℕ → List ℕ → List ℕ → List ℕ → Desk × List ℕ → Type 0
Does d xs (Some (Open l c from)) t t' m m' o = (o ≡ opening d (open_call (text_all (drop from xs) (map_of c)) l)) × Stay t t' m m'
Does d xs (Some (Change e)) t t' m m' o = (o ≡ calling d (λ s. change_call s e) said_text) × Stay t t' m m'
Does d xs (Some TakeBack) t t' m m' o = (o ≡ calling d take_back_call (restored_text 66)) × Stay t t' m m'
Does d xs (Some PutAgain) t t' m m' o = (o ≡ calling d put_again_call (restored_text 65)) × Stay t t' m m'
Does d xs (Some Question) t t' m m' o =
    ((d.sheet ≡ None) × (o ≡ (d, refusal_text 14)) × Stay t t' m m')
    ⊎ ((s : Sheet) × (d.sheet ≡ Some s) × (o.0 ≡ d) × Shown s t t' m m' o.1)
Does d xs None t t' m m' o = (o ≡ (d, refusal_text 13)) × Stay t t' m m'

-- The reply to the line xs: the line is read, what it brings about is settled, and its text is put at the start of the room `out`.
pub record DeskReply (d : Desk) (xs table table' room room' out out' : List ℕ) (r : Turn) : Type 0 where
  pub line : Option Line
  pub reads : Reads xs line
  pub text : List ℕ
  pub does : Does d xs line table table' room room' (r.desk, text)
  pub puts : Put out 0 text r.written out'

-- Two replies to one line are equal, all rooms included.
abbrev pub OneTurn : Type 0
OneTurn =
    (d : Desk) (xs table room out table' table'' room' room'' out' out'' : List ℕ) (r s : Turn)
    → DeskReply d xs table table' room room' out out' r
    → DeskReply d xs table table'' room room'' out out'' s
    → (r ≡ s) × (table' ≡ table'') × (room' ≡ room'') × (out' ≡ out'')
