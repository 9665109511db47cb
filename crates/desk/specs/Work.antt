-- Working notions: what the functions behind `answer` promise one another. No promise to a caller rests on reading them.
use Rattle.std.specs.Prelude.{◌≡◌, List, [], ℕ, Result, Option, None, Some}
use Rattle.terms.specs.declared.refusal.Refusal.{Refusal}
use Rattle.sheet.specs.declared.Said.{Said}
use Rattle.lines.specs.declared.Line.TheVariants.{Question}
use Rattle.printing.specs.Printing.{Put}
use Rattle.replies.specs.Replies.{said_text, restored_text}
use Rattle.desk.specs.declared.Desk.{Desk}
use Rattle.desk.specs.declared.Turn.{Turn}
use Rattle.desk.specs.Desk.{Does}

-- What a call says; behind a letter, what a take-back or a put-again says.
abbrev pub said_behind : Option ℕ → Result Said Refusal → List ℕ
said_behind None said = said_text said
said_behind (Some letter) said = restored_text letter said

-- The desk after a line and the text of its reply, put at the start of the room `out`.
abbrev pub Turned : Desk × List ℕ → List ℕ → List ℕ → Turn → Type 0
Turned o out out' r = (r.desk ≡ o.0) × Put out 0 o.1 r.written out'

-- The same of a question, which is answered by a relation.
abbrev pub AskedOf : Desk → List ℕ → List ℕ → List ℕ → List ℕ → List ℕ → List ℕ → Turn → Type 0
AskedOf d table table' room room' out out' r =
    (text : List ℕ) × Does d [] (Some Question) table table' room room' (r.desk, text) × Put out 0 text r.written out'
