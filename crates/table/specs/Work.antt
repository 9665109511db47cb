-- Working notions: what inner contracts say of a table half made. No promise to a caller rests on reading them.
use Rattle.std.specs.Prelude.{◌≡◌, List, ℕ, ◌+◌, ◌*◌, ◌≤◌, ◌<◌, length, get_or}
use Rattle.ways.specs.declared.Spans.{Spans}
use Rattle.ways.specs.Spans.{board_of, Whole}
use Rattle.ways.specs.Ways.{On, Step, Next}
use Rattle.tilings.specs.Tilings.{Board, Part, Entry, entries}
use Rattle.tilings.specs.Work.{Best, Pieces, Firsts, Gaps}
use Rattle.table.specs.declared.Totals.{Totals}

-- The rows from i on are right, and the table is long enough.
pub record Known (B : Board) (g i : ℕ) (t : List ℕ) : Type 0 where
  pub room : entries B.size g ≤ length t
  pub at : (j q : ℕ) → i ≤ j → j ≤ B.size → q ≤ g → Entry B j q (get_or t (j * (g + 1) + q) 0)

-- A table over whole spans and at most 15 gaps, of which the rows from i on are right.
abbrev pub KnownFrom : Totals → ℕ → Type 0
KnownFrom x i = Whole x.spans × (x.g ≤ 15) × Known (board_of x.spans) x.g i x.t.now

-- A row of g + 1 numbers, each the best of its class.
pub record Row (C : ℕ → List Part → Type 0) (g : ℕ) (row : List ℕ) : Type 0 where
  pub wide : length row ≡ g + 1
  pub at : (q : ℕ) → q ≤ g → Best (C q) (get_or row q 0)

-- The tilings from i that begin with a piece (shorter than M), and with a gap, for each number of gaps.
abbrev pub PieceRow : Board → ℕ → ℕ → List ℕ → Type 0
PieceRow B g i row = Row (λ q. Firsts B i q) g row

abbrev pub PieceRowUnder : Board → ℕ → ℕ → ℕ → List ℕ → Type 0
PieceRowUnder B g i M row = Row (λ q. Pieces B i q M) g row

abbrev pub GapRow : Board → ℕ → ℕ → List ℕ → Type 0
GapRow B g i row = Row (λ q. Gaps B i q) g row

-- The way of i stands at the centre c, behind `last`: between the two there is no piece of a start up to i.
pub record Along (s : Spans) (i last c : ℕ) : Type 0 where
  pub back : last ≤ c
  pub step : Step s i last c
  pub on : c < s.n + i → On s i c
  pub low : c < s.n + i → i + i + s.m ≤ c + 1

-- The centre c is looked at: the last one kept leads on from c.
pub record Looked (s : Spans) (i c r : ℕ) (next : List ℕ) : Type 0 where
  pub back : r ≤ c
  pub later : c < get_or next r 0
  pub step : Step s i c (get_or next r 0)
  pub steps : Next s i next
