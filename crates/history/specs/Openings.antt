-- What a reader may count on of openings, beside demand 3; proved in proofs/.
use Rattle.std.specs.Prelude.{◌≡◌, List, [], ◌∷◌, ℕ}
use Rattle.terms.specs.Refusals.{OneOf}
use Rattle.terms.specs.Maps.{plain_map}
use Rattle.terms.specs.Texts.{Text, text_all}
use Rattle.terms.specs.declared.limits.Limits.{Limits}
use Rattle.questions.specs.Tiling.{Answer, number_in, TilingReply}
use Rattle.sheet.specs.Calls.{number_of, open_call}
use Rattle.history.specs.Runs.{standing_of, taken_of}

-- The blank sheet of a refused opening is an opening too: the theorem holds from there as well.
abbrev pub BlankToo : Type 0
BlankToo =
    (x : Text) (l : Limits)
    → (number_of (open_call x l).said ≡ 0 → ⊥)
    → ((open_call x l).sheet ≡ (open_call (text_all [] plain_map) (record { kind = 1; m = 1; g = 0; d = 0 })).sheet)
    × (number_of (open_call (text_all [] plain_map) (record { kind = 1; m = 1; g = 0; d = 0 })).said ≡ 0)

-- A new opening starts a new history: no change stands and none is taken back.
abbrev pub OpensAnew : Type 0
OpensAnew = (x : Text) (l : Limits) → (standing_of (open_call x l).sheet ≡ []) × (taken_of (open_call x l).sheet ≡ [])

-- The opening refuses exactly as the first refusals of the question without a sheet, 1 to 5, 18 and 19: where it is refused the question is, with the same
-- number; where it is accepted the question's number is none of these.
abbrev pub OpensAsAsked : Type 0
OpensAsAsked =
    (x : Text) (l : Limits) (t t' room room' : List ℕ) (r : Answer)
    → TilingReply x l t t' room room' r
    → ((number_of (open_call x l).said ≡ 0 → ⊥) → number_in r ≡ number_of (open_call x l).said)
    × (number_of (open_call x l).said ≡ 0 → OneOf (number_in r) (0 ∷ 11 ∷ 10 ∷ 12 ∷ []))
