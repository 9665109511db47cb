-- Tilings and which one is given (01, "Tilings and which one is given" and the table of "What is handed over").
-- All of it is over a board: how many letters there are, and which spans are pieces.
use Rattle.std.specs.Prelude.{◌≡◌, List, [], ◌∷◌, ◌⊎◌, ℕ, suc, ◌+◌, ◌*◌, ◌≤◌, ◌<◌, length, get_or}

-- How many letters, and whether the L letters from place a are a piece (of the whole string).
pub record Board : Type 1 where
  pub size : ℕ
  pub Piece : ℕ → ℕ → Type 0

-- A part of a tiling, a piece or a gap, with its length.
pub data Part : Type 0 where
  piece gap : ℕ → Part

-- The number of gaps.
abbrev pub gaps : List Part → ℕ
gaps [] = 0
gaps (piece L ∷ ps) = gaps ps
gaps (gap L ∷ ps) = suc (gaps ps)

-- The gap total: the number of letters in gaps.
abbrev pub total : List Part → ℕ
total [] = 0
total (piece L ∷ ps) = total ps
total (gap L ∷ ps) = L + total ps

-- The list begins with a gap.
abbrev pub GapFirst : List Part → Type 0
GapFirst [] = ⊥
GapFirst (piece L ∷ ps) = ⊥
GapFirst (gap L ∷ ps) = Unit {0}

-- The parts cover the letters from place i on in order without overlap; a gap has one letter or more, and two gaps never touch.
abbrev pub Tiles : Board → ℕ → List Part → Type 0
Tiles B i [] = i ≡ B.size
Tiles B i (piece L ∷ ps) = B.Piece i L × Tiles B (i + L) ps
Tiles B i (gap L ∷ ps) = (1 ≤ L) × (GapFirst ps → ⊥) × Tiles B (i + L) ps

-- A tiling of the letters from i onward with at most q gaps.
pub record Permitted (B : Board) (i q : ℕ) (ps : List Part) : Type 0 where
  pub tiles : Tiles B i ps
  pub few : gaps ps ≤ q

-- No tiling exists.
abbrev pub None : Board → ℕ → ℕ → Type 0
None B i q = (ps : List Part) → Permitted B i q ps → ⊥

-- A piece comes before a gap, a longer piece before a shorter, a shorter gap before a longer.
abbrev pub Sooner : Part → Part → Type 0
Sooner (piece L) (piece M) = M < L
Sooner (piece L) (gap M) = Unit {0}
Sooner (gap L) (piece M) = ⊥
Sooner (gap L) (gap M) = L < M

-- The order of tilings: by the first part where the two differ.
abbrev pub Before : List Part → List Part → Type 0
Before [] qs = ⊥
Before (p ∷ ps) [] = ⊥
Before (p ∷ ps) (q ∷ qs) = Sooner p q ⊎ ((p ≡ q) × Before ps qs)

-- The tiling given: permitted, with the least gap total, and the first of equals in that order.
pub record Given (B : Board) (i q : ℕ) (ps : List Part) : Type 0 where
  pub permitted : Permitted B i q ps
  pub least : (qs : List Part) → Permitted B i q qs → total ps ≤ total qs
  pub first : (qs : List Part) → Permitted B i q qs → total qs ≡ total ps → (qs ≡ ps) ⊎ Before ps qs

-- v is the least gap total of a tiling of the letters from i onward with at most q gaps.
pub record Least (B : Board) (i q v : ℕ) : Type 0 where
  pub reached : (ps : List Part) × Permitted B i q ps × (total ps ≡ v)
  pub least : (qs : List Part) → Permitted B i q qs → v ≤ total qs

-- An entry of the table: the least gap total, 65535 where there is no tiling.
abbrev pub Entry : Board → ℕ → ℕ → ℕ → Type 0
Entry B i q v = Least B i q v ⊎ ((v ≡ 65535) × None B i q)

-- The room needed for a table of n letters and at most g gaps.
abbrev pub entries : ℕ → ℕ → ℕ
entries n g = (n + 1) * (g + 1)

-- The table: the entry at i × (g + 1) + q, for i from 0 to n and q from 0 to g. Later entries stay.
pub record Table (B : Board) (g : ℕ) (before after : List ℕ) : Type 0 where
  pub long : length after ≡ length before
  pub entry : (i q : ℕ) → i ≤ B.size → q ≤ g → Entry B i q (get_or after (i * (g + 1) + q) 0)
  pub stay : (k : ℕ) → entries B.size g ≤ k → get_or after k 0 ≡ get_or before k 0
