-- Working notions: what inner contracts say of a tiling half read. No promise to a caller rests on reading them.
use Rattle.std.specs.Prelude.{◌≡◌, List, [], ◌∷◌, Option, Some, None, ℕ, ◌+◌, ◌≤◌, ◌<◌, get_or}
use Rattle.tilings.specs.Tilings.{Board, Part, gaps, Given, Least}
use Rattle.tilings.specs.Work.{Reaches, Ends, Tiled, decode, decoded}

-- The longest piece from i that reaches v, or none where none does.
abbrev pub TopReach : Board → ℕ → ℕ → ℕ → Option ℕ → Type 0
TopReach B i q v (Some r) = Reaches B i q v r × ((M : ℕ) → Reaches B i q v M → M ≤ r)
TopReach B i q v None = (M : ℕ) → Reaches B i q v M → ⊥

-- A gap of L letters from i, with which v is reached, may stop there.
pub record Stops (B : Board) (i q v L : ℕ) : Type 0 where
  pub rest : ℕ
  pub least : Least B (i + L) q rest
  pub sum : v ≡ L + rest
  pub ends : Ends B (i + L) q rest

-- The shortest such gap.
pub record FirstStop (B : Board) (i q v r : ℕ) : Type 0 where
  pub some : 1 ≤ r
  pub is : Stops B i q v r
  pub first : (M : ℕ) → 1 ≤ M → M < r → Stops B i q v M → ⊥

-- The tiling given from i begins with the part numbered c, after which it goes on at j with at most p gaps.
pub record Leads (B : Board) (i q c j p : ℕ) : Type 0 where
  pub onward : i < j
  pub few : gaps (decode c ∷ []) + p ≡ q
  pub more : Tiled B j p
  pub leads : (ps : List Part) → Given B j p ps → Given B i q (decode c ∷ ps)

-- The first numbers of the list are the tiling given.
pub record ReadOut (B : Board) (g parts count : ℕ) (codes : List ℕ) : Type 0 where
  pub short : parts ≤ B.size
  pub given : Given B 0 g (decoded parts codes)
  pub gapped : gaps (decoded parts codes) ≡ count

-- The entries from k on stay.
abbrev pub Past : ℕ → List ℕ → List ℕ → Type 0
Past k before after = (j : ℕ) → k ≤ j → get_or after j 0 ≡ get_or before j 0
