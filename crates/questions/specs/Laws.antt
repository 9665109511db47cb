-- What a reader may count on of every reply to the tiling question; proved in proofs/.
use Rattle.std.specs.Prelude.{◌≡◌, List, [], ◌∷◌, ◌++◌, ℕ, ◌*◌, ◌≤◌, ◌<◌, length}
use Rattle.terms.specs.Refusals.{first_fault, FirstFault, tested, OneOf}
use Rattle.terms.specs.Texts.{Text, size}
use Rattle.terms.specs.declared.limits.Limits.{Limits}
use Rattle.tilings.specs.Tilings.{Part, None, Given}
use Rattle.boards.specs.Pieces.{board}
use Rattle.records.specs.Records.{record_size}
use Rattle.questions.specs.Tiling.{Answer, number_in, parts_in, table_faults, TilingReply}

-- The tiling given needs more room than was lent.
abbrev pub NoRoom : Text → Limits → List ℕ → Type 0
NoRoom x l room = (ps : List Part) × Given (board x l) 0 l.g ps × (length room < record_size * length ps)

-- Refusals 1, 2, 3, 18, 19, 4, 5, 11, 10, 12: the whole list in testing order.
abbrev pub tiling_faults : Text → Limits → List ℕ → List ℕ → List (ℕ × Type 0)
tiling_faults x l table room = tested (table_faults x l (length table)) ++ (10, None (board x l) 0 l.g) ∷ (12, NoRoom x l room) ∷ []

-- The numbers that a reply may have.
abbrev pub tiling_numbers : List ℕ
tiling_numbers = 0 ∷ 1 ∷ 2 ∷ 3 ∷ 18 ∷ 19 ∷ 4 ∷ 5 ∷ 11 ∷ 10 ∷ 12 ∷ []

pub record ReplyLaws (x : Text) (l : Limits) (table table' room room' : List ℕ) (r : Answer) : Type 0 where
  -- the number is that of the first fault that holds, and always in the list
  pub number : FirstFault (tiling_faults x l table room) (number_in r)
  pub listed : OneOf (number_in r) tiling_numbers
  -- 10 exactly when no permitted tiling exists and nothing earlier holds, and only with g = 0 and n at least 1
  pub ten : number_in r ≡ 10 → (first_fault (table_faults x l (length table)) ≡ 0) × None (board x l) 0 l.g × (l.g ≡ 0) × (1 ≤ size x)
  pub none : first_fault (table_faults x l (length table)) ≡ 0 → None (board x l) 0 l.g → number_in r ≡ 10
  -- the parts answered, or needed, are at most n
  pub few : parts_in r ≤ size x

-- Two replies to one question are equal, table and room included.
abbrev pub OneReply : Text → Limits → List ℕ → List ℕ → Type 0
OneReply x l table room =
    (table' table'' room' room'' : List ℕ) (r s : Answer)
    → TilingReply x l table table' room room' r → TilingReply x l table table'' room room'' s → (table' ≡ table'') × (room' ≡ room'') × (r ≡ s)
