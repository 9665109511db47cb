-- What an example shows, and when it holds: of the definitions, and of every reply that the promises allow.
use Rattle.std.specs.Prelude.{◌≡◌, cond, ◌||◌, List, [], ◌∷◌, ℕ, ◌+◌, ◌*◌, ◌≤◌, eqb, length, take, Result, Ok}
use Rattle.terms.specs.Maps.{values_from, plain_map, complement_map}
use Rattle.terms.specs.Texts.{Text, text, text_all, size}
use Rattle.terms.specs.declared.limits.Limits.{Limits}
use Rattle.terms.specs.declared.refusal.Refusal.{Refusal}
use Rattle.spans.specs.Palindromes.{centres}
use Rattle.spans.specs.Centres.{Holds, CentresReply}
use Rattle.tilings.specs.Tilings.{Part, piece, gap, gaps, total, None, Given, entries}
use Rattle.tilings.specs.Laws.{length_of}
use Rattle.boards.specs.Pieces.{board}
use Rattle.records.specs.Records.{record_size, errors_of, records_from}
use Rattle.questions.specs.Tiling.{Answer, refusal, TilingReply}

-- The alphabet A, C, G, T.
unfoldable pub bases : List ℕ
bases = values_from 0 256 (λ b. cond (eqb b 65 || (eqb b 67 || (eqb b 71 || eqb b 84))) 1 0)

-- The map of an example, with all 256 bytes for alphabet; or the complement with A, C, G, T.
pub data Map : Type 0 where
  plain complement strand : Map

abbrev pub text_of : Map → List ℕ → Text
text_of plain s = text_all s plain_map
text_of complement s = text_all s complement_map
text_of strand s = text s complement_map bases

-- A part as it is read out: piece or gap, its start, its length, its errors.
pub data Line : Type 0 where
  P G : ℕ → ℕ → ℕ → Line

abbrev pub line_of : ℕ → ℕ → Part → Line
line_of i e (piece L) = P i L e
line_of i e (gap L) = G i L e

-- The lines of the parts from place i on.
abbrev pub lines_from : Text → ℕ → List Part → List Line
lines_from x i [] = []
lines_from x i (p ∷ ps) = line_of i (errors_of x i p) p ∷ lines_from x (i + length_of p) ps

-- The parts that lines read out.
abbrev pub parts_of : List Line → List Part
parts_of [] = []
parts_of (P i L e ∷ ls) = piece L ∷ parts_of ls
parts_of (G i L e ∷ ls) = gap L ∷ parts_of ls

-- An example. A tiling: its gap total, its gaps, its parts, and its table where the sheet prints one. No tiling. The centres of a string.
pub data Sample : Type 0 where
  tiling : Map → List ℕ → Limits → ℕ → ℕ → List Line → List ℕ → Sample
  no_tiling : Map → List ℕ → Limits → Sample
  all_centres : Map → List ℕ → ℕ → List ℕ → Sample

-- The lines are those of the tiling given, with these totals; every reply with room enough shows them.
pub record TilingShown (x : Text) (l : Limits) (sum count : ℕ) (lines : List Line) (printed : List ℕ) : Type 0 where
  pub given : Given (board x l) 0 l.g (parts_of lines)
  pub lined : lines_from x 0 (parts_of lines) ≡ lines
  pub summed : total (parts_of lines) ≡ sum
  pub counted : gaps (parts_of lines) ≡ count
  pub replies :
      (table table' room room' : List ℕ) (r : Answer)
      → TilingReply x l table table' room room' r
      → entries (size x) l.g ≤ length table
      → record_size * length lines ≤ length room
      → (r ≡ Ok (record { total = sum; parts = length lines; gaps = count }))
      × (take (record_size * length lines) room' ≡ records_from x 0 (parts_of lines))
      × (take (length printed) table' ≡ printed)

-- No tiling exists; every reply with a table long enough is refusal 10.
pub record NoneShown (x : Text) (l : Limits) : Type 0 where
  pub none : None (board x l) 0 l.g
  pub replies :
      (table table' room room' : List ℕ) (r : Answer)
      → TilingReply x l table table' room room' r
      → entries (size x) l.g ≤ length table
      → (r ≡ refusal 10) × (room' ≡ room)

-- The lengths are those of all centres; every reply with entries enough shows them.
pub record CentresShown (x : Text) (d : ℕ) (printed : List ℕ) : Type 0 where
  pub long : length printed ≡ centres (size x)
  pub held : Holds x d printed
  pub replies :
      (before after : List ℕ) (r : Result ℕ Refusal)
      → CentresReply x d before after r
      → centres (size x) ≤ length before
      → (r ≡ Ok (length printed)) × (take (length printed) after ≡ printed)

-- An example holds.
abbrev pub Shown : Sample → Type 0
Shown (tiling f s l sum count lines printed) = TilingShown (text_of f s) l sum count lines printed
Shown (no_tiling f s l) = NoneShown (text_of f s) l
Shown (all_centres f s d printed) = CentresShown (text_of f s) d printed

abbrev pub AllShown : List Sample → Type 0
AllShown [] = Unit {0}
AllShown (e ∷ es) = Shown e × AllShown es
