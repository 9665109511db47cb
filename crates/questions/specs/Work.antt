-- A working notion: what the reading-out of a full table hands over. No promise to a caller rests on reading it.
use Rattle.std.specs.Prelude.{◌≡◌, List, ◌⊎◌, ℕ}
use Rattle.terms.specs.Texts.{Text}
use Rattle.tilings.specs.Tilings.{Board, Part, None, Given}
use Rattle.questions.specs.Tiling.{Answer, refusal, handing}

-- `HandsOver`, of whatever board the table is over.
abbrev pub HandsOverOn : Text → Board → ℕ → List ℕ → List ℕ → Answer → Type 0
HandsOverOn x B g room room' r =
    (None B 0 g × (r ≡ refusal 10) × (room' ≡ room))
    ⊎ ((ps : List Part) × Given B 0 g ps × (r ≡ (handing x ps room).0) × (room' ≡ (handing x ps room).1))
