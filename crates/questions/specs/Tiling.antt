-- The tiling question without a sheet (01, "What is handed over" and "Numbers that say no").
use Rattle.std.specs.Prelude.{◌≡◌, Bool, cond, List, [], ◌∷◌, ◌++◌, ◌⊎◌, ℕ, ◌*◌, ◌<◌, ltb, length, drop, Result, Ok, Err}
use Rattle.terms.specs.Refusals.{first_fault, refusal_number, refusal_of}
use Rattle.terms.specs.Texts.{Text, size, opening_faults}
use Rattle.terms.specs.declared.limits.Limits.{Limits}
use Rattle.terms.specs.declared.refusal.Refusal.{Refusal}
use Rattle.terms.specs.declared.refusal.Refusal.TheVariants.{RoomTooShort}
use Rattle.tilings.specs.Tilings.{Part, gaps, total, None, Given, entries, Table}
use Rattle.boards.specs.Pieces.{board}
use Rattle.records.specs.Records.{record_size, records_from}
use Rattle.questions.specs.declared.Figures.{Figures}
use Rattle.questions.specs.declared.Untiled.{Untiled}
use Rattle.questions.specs.declared.Untiled.TheVariants.{Refused as refused_for, ShortRoom}

-- What the question answers: the figures of the tiling given, or why none is handed over.
abbrev pub Answer : Type 0
Answer = Result Figures Untiled

-- The refusal behind that, 12 of a room too short.
abbrev pub behind : Untiled → Refusal
behind (refused_for e) = e
behind (ShortRoom parts) = RoomTooShort

-- The number answered, 0 with figures.
abbrev pub number_in : Answer → ℕ
number_in (Ok f) = 0
number_in (Err u) = refusal_number (behind u)

-- The parts answered, or needed; none of a mere refusal.
abbrev pub parts_in : Answer → ℕ
parts_in (Ok f) = f.parts
parts_in (Err (refused_for e)) = 0
parts_in (Err (ShortRoom parts)) = parts

-- Refusals that need no tiling: the opening's first, then 11 where the table lent is too short.
unfoldable pub table_faults : Text → Limits → ℕ → List (ℕ × Bool)
table_faults x l lent = opening_faults x l ++ (11, ltb lent (entries (size x) l.g)) ∷ []

-- A refusal returns its number alone.
abbrev pub refusal : ℕ → Answer
refusal k = Err (refused_for (refusal_of k))

-- 12 also returns the parts needed.
abbrev pub room_refusal : List Part → Answer
room_refusal ps = Err (ShortRoom (length ps))

-- The figures of a tiling: gap total, number of parts and number of gaps.
abbrev pub figures : List Part → Answer
figures ps = Ok (record { total = total ps; parts = length ps; gaps = gaps ps })

-- Of the tiling given: 12 where parts × 6 exceeds the room, which stays; else its figures, and its records with later bytes staying.
abbrev pub handing : Text → List Part → List ℕ → Answer × List ℕ
handing x ps room =
    cond (ltb (length room) (record_size * length ps))
    (room_refusal ps, room)
    (figures ps, records_from x 0 ps ++ drop (record_size * length ps) room)

-- What is handed over once the table is filled: 10 where no tiling exists, the room staying; else of the tiling given.
abbrev pub HandsOver : Text → Limits → List ℕ → List ℕ → Answer → Type 0
HandsOver x l room room' r =
    (None (board x l) 0 l.g × (r ≡ refusal 10) × (room' ≡ room))
    ⊎ ((ps : List Part) × Given (board x l) 0 l.g ps × (r ≡ (handing x ps room).0) × (room' ≡ (handing x ps room).1))

-- Refused by a test: table and room stay as lent.
pub record Refused (x : Text) (l : Limits) (table table' room room' : List ℕ) (r : Answer) : Type 0 where
  pub fault : 0 < first_fault (table_faults x l (length table))
  pub reply : r ≡ refusal (first_fault (table_faults x l (length table)))
  pub stays : table' ≡ table
  pub kept : room' ≡ room

-- Else the table is filled, its later entries staying, and the tiling given is handed over.
pub record Answered (x : Text) (l : Limits) (table table' room room' : List ℕ) (r : Answer) : Type 0 where
  pub fault : first_fault (table_faults x l (length table)) ≡ 0
  pub filled : Table (board x l) l.g table table'
  pub handed : HandsOver x l room room' r

-- The reply to the tiling question, with table and room as lent and as left.
abbrev pub TilingReply : Text → Limits → List ℕ → List ℕ → List ℕ → List ℕ → Answer → Type 0
TilingReply x l table table' room room' r =
    Refused x l table table' room room' r ⊎ Answered x l table table' room room' r
