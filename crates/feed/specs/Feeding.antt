-- Working notions: a line taken in from pieces of the input, where it ends and what is kept of it. No promise of the whole rests on reading them.
use Rattle.std.specs.Prelude.{◌≡◌, Bool, cond, List, [], ◌∷◌, ◌++◌, ℕ, ◌+◌, eqb, ltb, length, drop}
use Rattle.feed.specs.Lines.{line_end, Kept}
use Rattle.feed.specs.declared.Fed.{Fed}

-- The bytes before the first line end, all where there is none.
abbrev pub up_to_end : List ℕ → List ℕ
up_to_end [] = []
up_to_end (b ∷ bs) = cond (eqb b line_end) [] (b ∷ up_to_end bs)

-- There is a line end.
abbrev pub ends : List ℕ → Bool
ends bs = ltb (length (up_to_end bs)) (length bs)

-- The line is taken on from place `from` of a piece to its next line end, or to the piece's end.
pub record Feeds (line piece : List ℕ) (from : ℕ) (room' : List ℕ) (r : Fed) : Type 0 where
  -- what is kept of the line as it now is
  pub kept : Kept room' r.at (line ++ up_to_end (drop from piece))
  -- whether its line end was reached
  pub whole : r.whole ≡ ends (drop from piece)
  -- where the piece is read on: behind the line end
  pub next : r.from ≡ from + length (up_to_end (drop from piece)) + cond (ends (drop from piece)) 1 0

-- Whatever line the room keeps the first bytes of.
abbrev pub TakesOn : List ℕ → ℕ → List ℕ → ℕ → List ℕ → Fed → Type 0
TakesOn room at piece from room' r = (line : List ℕ) → Kept room at line → Feeds line piece from room' r
