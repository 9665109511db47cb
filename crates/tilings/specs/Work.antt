-- Working notions: what the recurrence of the table and the reading-out speak of. No promise to a caller rests on reading them.
use Rattle.std.specs.Prelude.{◌≡◌, List, [], ◌∷◌, map, ◌⊎◌, ℕ, ◌+◌, ◌-◌, ◌/◌, ◌%◌, ◌≤◌, ◌<◌, true, false, eqb, get_or, take}
use Rattle.tilings.specs.Tilings.{Board, Part, piece, gap, total, GapFirst, Permitted, Least}

-- A piece by the list of maximal lengths: its centre's length is at least, or is, its own.
pub record PieceBy (lens : List ℕ) (n kind m a L : ℕ) : Type 0 where
  pub some : 1 ≤ L
  pub inside : a + L ≤ n
  pub long : m ≤ L
  pub is : ((kind ≡ 1) × (L ≤ get_or lens (a + a + L - 1) 0)) ⊎ ((kind ≡ 2) × (get_or lens (a + a + L - 1) 0 ≡ L))

-- The board that the engine works on: it knows neither letters nor map.
abbrev pub board_by : List ℕ → ℕ → ℕ → ℕ → Board
board_by lens n kind m = record { size = n; Piece = PieceBy lens n kind m }

-- v is the lesser of a and c.
pub record Lesser (a c v : ℕ) : Type 0 where
  pub left : v ≤ a
  pub right : v ≤ c
  pub is : (v ≡ a) ⊎ (v ≡ c)

-- One more than a total, where there is one.
pub record Onward (v r : ℕ) : Type 0 where
  pub none : 65535 ≤ v → r ≡ 65535
  pub some : v < 65535 → r ≡ v + 1

-- v is the least total of a class of tilings, 65535 where the class is empty.
pub record Best (C : List Part → Type 0) (v : ℕ) : Type 0 where
  pub reached : (v ≡ 65535) ⊎ ((ps : List Part) × C ps × (total ps ≡ v))
  pub least : (ps : List Part) → C ps → v ≤ total ps

-- The class of tilings that begin with a piece shorter than M, with a piece, and with a gap.
abbrev pub PieceUnder : ℕ → List Part → Type 0
PieceUnder M [] = ⊥
PieceUnder M (piece L ∷ ps) = L < M
PieceUnder M (gap L ∷ ps) = ⊥

abbrev pub Pieces : Board → ℕ → ℕ → ℕ → List Part → Type 0
Pieces B i q M ps = Permitted B i q ps × PieceUnder M ps

abbrev pub PieceFirst : List Part → Type 0
PieceFirst [] = ⊥
PieceFirst (piece L ∷ ps) = Unit {0}
PieceFirst (gap L ∷ ps) = ⊥

abbrev pub Firsts : Board → ℕ → ℕ → List Part → Type 0
Firsts B i q ps = Permitted B i q ps × PieceFirst ps

abbrev pub Gaps : Board → ℕ → ℕ → List Part → Type 0
Gaps B i q ps = Permitted B i q ps × GapFirst ps

-- A piece of length M with which a tiling from i reaches the total v.
abbrev pub Reaches : Board → ℕ → ℕ → ℕ → ℕ → Type 0
Reaches B i q v M = B.Piece i M × Least B (i + M) q v

-- A tiling from j that reaches u does not have to begin with a gap.
abbrev pub Ends : Board → ℕ → ℕ → ℕ → Type 0
Ends B j q u = (j ≡ B.size) ⊎ ((N : ℕ) × Reaches B j q u N)

-- There is a tiling, with a least total.
abbrev pub Tiled : Board → ℕ → ℕ → Type 0
Tiled B i q = (w : ℕ) × Least B i q w

-- A part by its number: a piece of L letters is 2L, a gap of L letters 2L + 1.
unfoldable pub decode : ℕ → Part
decode c = elim (eqb (c % 2) 0) [ true ↦ piece (c / 2) | false ↦ gap (c / 2) ]

-- The parts that the first k numbers stand for.
abbrev pub decoded : ℕ → List ℕ → List Part
decoded k codes = map decode (take k codes)
