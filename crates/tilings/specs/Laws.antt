-- What a reader may count on of every tiling (01, "Tilings and which one is given"); proved in proofs/.
use Rattle.std.specs.Prelude.{◌≡◌, List, [], ◌∷◌, ℕ, ◌+◌, ◌≤◌, length}
use Rattle.tilings.specs.Tilings.{Board, Part, piece, gap, Permitted, Given, Entry, Table, None}

-- The length of a part, and of all parts of a list together.
abbrev pub length_of : Part → ℕ
length_of (piece L) = L
length_of (gap L) = L

abbrev pub lengths : List Part → ℕ
lengths [] = 0
lengths (p ∷ ps) = length_of p + lengths ps

-- On every board whose pieces have letters.
pub record TilingLaws (B : Board) : Type 0 where
  -- the lengths of all parts add up to n, and there are at most n parts
  pub whole : (q : ℕ) (ps : List Part) → Permitted B 0 q ps → lengths ps ≡ B.size
  pub few : (q : ℕ) (ps : List Part) → Permitted B 0 q ps → length ps ≤ B.size
  -- with g at least 1 the whole string may be a gap: none exists only with g = 0 and n at least 1
  pub none : (g : ℕ) → None B 0 g → (g ≡ 0) × (1 ≤ B.size)
  -- the tiling given is one, an entry of the table is one, a table is one
  pub given : (i q : ℕ) (ps qs : List Part) → Given B i q ps → Given B i q qs → ps ≡ qs
  pub entry : (i q v w : ℕ) → Entry B i q v → Entry B i q w → v ≡ w
  pub table : (g : ℕ) (before a b : List ℕ) → Table B g before a → Table B g before b → a ≡ b
