-- The lines of a call (01, "The call program"; 02, L5 and L6): what a line asks is what its text says, and nothing else is understood.
use Rattle.std.specs.Prelude.{◌≡◌, Bool, cond, Option, Some, None, List, [], ◌∷◌, ◌++◌, ℕ, ◌≤◌, ◌<◌, length, drop}
use Rattle.terms.specs.declared.limits.Limits.{Limits}
use Rattle.changes.specs.declared.Edit.{Edit}
use Rattle.changes.specs.declared.Edit.TheVariants.{Letter, Kind, Lengths, PutIn, TakeOut}
use Rattle.printing.specs.Printing.{fields}
use Rattle.lines.specs.declared.Line.{Line}
use Rattle.lines.specs.declared.Line.TheVariants.{Open, Change, TakeBack, PutAgain, Question}

-- What a line can ask: an opening (limits, whether the map is complement, string), a change, a take-back, a put-again or a question.
pub data Asked : Type 0 where
  opening : Limits → Bool → List ℕ → Asked
  change : Edit → Asked
  take_back put_again question : Asked

-- Kind, m, g and d as they stand in an opening.
abbrev pub limits_numbers : Limits → List ℕ
limits_numbers l = l.kind ∷ l.m ∷ l.g ∷ l.d ∷ []

-- The map's letter: I plain, C complement.
abbrev pub map_letter : Bool → ℕ
map_letter complement = cond complement 67 73

-- The bytes of a line: `O kind m g d map string`, `L place byte`, `I place byte`, `X place`, `K kind d`, `M m g`, `B`, `A`, `Q`. One space between fields.
abbrev pub line_text : Asked → List ℕ
line_text (opening l c string) = 79 ∷ (fields (limits_numbers l) ++ (32 ∷ map_letter c ∷ 32 ∷ string))
line_text (change (Letter place byte)) = 76 ∷ fields (place ∷ byte ∷ [])
line_text (change (PutIn place byte)) = 73 ∷ fields (place ∷ byte ∷ [])
line_text (change (TakeOut place)) = 88 ∷ fields (place ∷ [])
line_text (change (Kind kind d)) = 75 ∷ fields (kind ∷ d ∷ [])
line_text (change (Lengths m g)) = 77 ∷ fields (m ∷ g ∷ [])
line_text take_back = 66 ∷ []
line_text put_again = 65 ∷ []
line_text question = 81 ∷ []

-- Numbers are 1 to 4 digits: they are below 10,000.
abbrev pub Short : List ℕ → Type 0
Short [] = Unit {0}
Short (n ∷ ns) = (n < 10000) × Short ns

-- The numbers that a line may hold: 1 to 4 digits, a byte at most 255.
abbrev pub Proper : Asked → Type 0
Proper (opening l c string) = Short (limits_numbers l)
Proper (change (Letter place byte)) = (place < 10000) × (byte ≤ 255)
Proper (change (PutIn place byte)) = (place < 10000) × (byte ≤ 255)
Proper (change (TakeOut place)) = place < 10000
Proper (change (Kind kind d)) = Short (kind ∷ d ∷ [])
Proper (change (Lengths m g)) = Short (m ∷ g ∷ [])
Proper take_back = Unit {0}
Proper put_again = Unit {0}
Proper question = Unit {0}

-- A line has at most 1,040 bytes before its line end.
abbrev pub most_bytes : ℕ
most_bytes = 1040

-- The line xs asks a.
pub record Asks (xs : List ℕ) (a : Asked) : Type 0 where
  pub short : length xs ≤ most_bytes
  pub proper : Proper a
  pub form : xs ≡ line_text a

-- What a parsed line asks; an opening's string is the rest of the line from a place on. None asks nothing.
abbrev pub Reads : List ℕ → Option Line → Type 0
Reads xs (Some (Open l c from)) = Asks xs (opening l c (drop from xs)) × (from ≤ length xs)
Reads xs (Some (Change e)) = Asks xs (change e)
Reads xs (Some TakeBack) = Asks xs take_back
Reads xs (Some PutAgain) = Asks xs put_again
Reads xs (Some Question) = Asks xs question
Reads xs None = (a : Asked) → Asks xs a → ⊥

-- No two readings of a line differ.
abbrev pub OneReading : Type 0
OneReading = (xs : List ℕ) (r r' : Option Line) → Reads xs r → Reads xs r' → r ≡ r'
