-- Working notions: what contracts say of the spans that are pieces. No promise to a caller rests on reading them.
use Rattle.std.specs.Prelude.{ℕ, ◌+◌, ◌*◌, ◌≤◌, length}
use Rattle.tilings.specs.Tilings.{Board}
use Rattle.tilings.specs.Work.{PieceBy, board_by}
use Rattle.ways.specs.declared.Spans.{Spans}

-- A piece of L letters from a, by the maximal lengths, the number of letters, the kind and the shortest length.
abbrev pub PieceOf : Spans → ℕ → ℕ → Type 0
PieceOf s = PieceBy s.lens.now s.n s.kind s.m

-- The board of those pieces.
abbrev pub board_of : Spans → Board
board_of s = board_by s.lens.now s.n s.kind s.m

-- At most 1,000 letters, each of whose centres has its maximal length.
abbrev pub Measured : Spans → Type 0
Measured s = (s.n ≤ 1000) × (2 * s.n ≤ length s.lens.now + 1)

-- Such spans, of which a piece has at least one letter.
abbrev pub Whole : Spans → Type 0
Whole s = Measured s × (1 ≤ s.m)
