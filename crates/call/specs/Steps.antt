-- Lines answered one after the other, from a piece of the input and at its end (01, "The call program").
use Rattle.std.specs.Prelude.{◌≡◌, List, [], ◌∷◌, ℕ}
use Rattle.feed.specs.Lines.{whole_lines, last_line, Kept}
use Rattle.desk.specs.Desk.{DeskReply}
use Rattle.desk.specs.declared.Desk.{Desk}
use Rattle.desk.specs.declared.Turn.{Turn}

-- The desk, and the table, the room and `out` that are lent with it.
pub record State : Type 0 where
  pub desk : Desk
  pub table : List ℕ
  pub room : List ℕ
  pub out : List ℕ

-- A state from its four parts.
abbrev pub state : Desk → List ℕ → List ℕ → List ℕ → State
state d table room out = record { desk = d; table = table; room = room; out = out }

-- One line answered: desk, table, room and `out` before and after.
pub record Answered (s : State) (line : List ℕ) (s' : State) : Type 0 where
  pub written : ℕ
  pub reply : DeskReply s.desk line s.table s'.table s.room s'.room s.out s'.out (record { desk = s'.desk; written = written })

-- Lines answered one after the other, each with the desk, table, room and `out` that the one before left.
abbrev pub Answers : State → List (List ℕ) → State → Type 0
Answers s [] s' = s' ≡ s
Answers s (line ∷ lines) s' = (next : State) × Answered s line next × Answers next lines s'

-- A whole piece: its lines are answered one after the other, with table, room and `out` as lent and as left,
-- and what is kept afterwards is of the bytes behind its last line end.
abbrev pub Reading : Desk → List ℕ → List ℕ → ℕ → ℕ → List ℕ → List ℕ → List ℕ → List ℕ → List ℕ → List ℕ → List ℕ → Desk → Type 0
Reading d bytes bytes' at at' piece table table' room room' out out' d' =
    (line : List ℕ) → Kept bytes at line
    → Kept bytes' at' (last_line line piece) × Answers (state d table room out) (whole_lines line piece) (state d' table' room' out')

-- The end of the input: the line that has no line end is answered if it isn't empty; else nothing is answered or touched.
pub record Finished (d : Desk) (line table table' room room' out out' : List ℕ) (r : Turn) : Type 0 where
  pub empty : line ≡ [] → (r ≡ record { desk = d; written = 0 }) × (table' ≡ table) × (room' ≡ room) × (out' ≡ out)
  pub some : (line ≡ [] → ⊥) → DeskReply d line table table' room room' out out' r

-- The end of the input, whatever line the bytes kept are of.
abbrev pub Finishing : Desk → List ℕ → ℕ → List ℕ → List ℕ → List ℕ → List ℕ → List ℕ → List ℕ → Turn → Type 0
Finishing d bytes at table table' room room' out out' r =
    (line : List ℕ) → Kept bytes at line → Finished d line table table' room room' out out' r
