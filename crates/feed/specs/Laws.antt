-- What pieces have to do with lines: the laws, proved in proofs/Pieces.antt.
use Rattle.std.specs.Prelude.{◌≡◌, true, false, List, [], ◌∷◌, ◌++◌, ℕ, drop}
use Rattle.feed.specs.Lines.{whole_lines, last_line}
use Rattle.feed.specs.Feeding.{up_to_end, Feeds}
use Rattle.feed.specs.declared.Fed.{Fed}

-- However an input is cut in two, its lines are the same.
pub record Cutting : Type 0 where
  pub whole : (line a b : List ℕ) → whole_lines line (a ++ b) ≡ whole_lines line a ++ whole_lines (last_line line a) b
  pub last : (line a b : List ℕ) → last_line line (a ++ b) ≡ last_line (last_line line a) b

-- One feed: the line that it ends, if any, is the first of the lines that are left of the piece.
pub record Feeding : Type 0 where
  pub ended :
      (line piece : List ℕ) (from : ℕ) (room' : List ℕ) (r : Fed) → Feeds line piece from room' r → r.whole ≡ true
      → (whole_lines line (drop from piece) ≡ (line ++ up_to_end (drop from piece)) ∷ whole_lines [] (drop r.from piece))
      × (last_line line (drop from piece) ≡ last_line [] (drop r.from piece))
  pub unended :
      (line piece : List ℕ) (from : ℕ) (room' : List ℕ) (r : Fed) → Feeds line piece from room' r → r.whole ≡ false
      → (whole_lines line (drop from piece) ≡ []) × (last_line line (drop from piece) ≡ line ++ up_to_end (drop from piece))
