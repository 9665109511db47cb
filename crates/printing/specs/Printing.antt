-- Lines printed into a lent room (01, "The call program").
use Rattle.std.specs.Prelude.{◌≡◌, cond, List, [], ◌∷◌, ◌++◌, ℕ, zero, suc, ◌+◌, ◌/◌, ◌%◌, min, ltb, length}
use Rattle.std.proofs.lemmas.List.Edits.{sets}

-- The digits of n in decimal, by at most so many divisions by ten.
abbrev pub decimal_by : ℕ → ℕ → List ℕ
decimal_by zero n = 48 ∷ []
decimal_by (suc turns) n = cond (ltb n 10) ((48 + n) ∷ []) (decimal_by turns (n / 10) ++ ((48 + n % 10) ∷ []))

-- A number in decimal: no leading zero but 0 itself. As many divisions as the number itself are always enough.
unfoldable pub decimal : ℕ → List ℕ
decimal n = decimal_by n n

-- Numbers, one space before each.
abbrev pub fields : List ℕ → List ℕ
fields [] = []
fields (n ∷ ns) = 32 ∷ (decimal n ++ fields ns)

-- A printed line: a letter, numbers, and the line end (byte 10).
abbrev pub printed : ℕ → List ℕ → List ℕ
printed letter ns = letter ∷ (fields ns ++ (10 ∷ []))

-- A text put into a room from place i on, as far as the room goes: r is the place after it. The bytes before and after it stay.
pub record Put (room : List ℕ) (i : ℕ) (text : List ℕ) (r : ℕ) (room' : List ℕ) : Type 0 where
  pub next : r ≡ min (i + length text) (length room)
  pub now : room' ≡ sets room i text
