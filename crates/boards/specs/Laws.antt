-- What a reader may count on of the pieces (02, L2); proved in proofs/.
use Rattle.std.specs.Prelude.{◌≡◌, false, ℕ, ◌%◌}
use Rattle.terms.specs.Refusals.{first_fault}
use Rattle.terms.specs.Alphabets.{own_partner}
use Rattle.terms.specs.Texts.{Text, text_faults}
use Rattle.terms.specs.declared.limits.Limits.{Limits}
use Rattle.boards.specs.Pieces.{Piece}

-- Where the map has no own-partner letter within the alphabet, no piece of either kind has an odd length.
abbrev pub EvenPieces : Type 0
EvenPieces =
    (x : Text) (l : Limits)
    → first_fault (text_faults x) ≡ 0
    → own_partner x.map x.alphabet ≡ false
    → (a L : ℕ) → Piece x l a L → L % 2 ≡ 0
