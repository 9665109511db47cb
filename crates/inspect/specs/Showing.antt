-- What is printed of a call: its numbers, and every entry and byte of the lent slices. Working notions: no promise to a caller rests on reading them.
use Rattle.std.specs.Prelude.{List, [], ◌∷◌, ◌++◌, ℕ, length, Result, Ok, Err, Some, None}
use Rattle.terms.specs.Refusals.{refusal_number, fault_of}
use Rattle.terms.specs.declared.refusal.Refusal.{Refusal}
use Rattle.questions.specs.Tiling.{Answer}
use Rattle.questions.specs.declared.Untiled.TheVariants.{Refused as refused_for, ShortRoom}
use Rattle.stops.specs.Centre.{reply_values}
use Rattle.stops.specs.declared.CentreStop.{CentreStop}
use Rattle.printing.specs.Printing.{printed}
use Rattle.reader.specs.Reader.{Stepped, step_values}

-- The numbers of an answer: 0 and the figures, or a refusal's number and zeros; 12 also has the parts needed.
abbrev pub answer_values : Answer → List ℕ
answer_values (Ok f) = 0 ∷ f.total ∷ f.parts ∷ f.gaps ∷ []
answer_values (Err (refused_for e)) = refusal_number e ∷ 0 ∷ 0 ∷ 0 ∷ []
answer_values (Err (ShortRoom parts)) = 12 ∷ 0 ∷ parts ∷ 0 ∷ []

-- The numbers that items are, one by one, by what an item may be as a number.
abbrev pub Numbers : {A : Type 0} → (A → ℕ → Type 0) → List A → List ℕ → Type 0
Numbers is [] [] = Unit {0}
Numbers is [] (n ∷ ns) = ⊥
Numbers is (x ∷ xs) [] = ⊥
Numbers is (x ∷ xs) (n ∷ ns) = is x n × Numbers is xs ns

-- `T` or `S` with the answer's numbers, `E` with the table, `R` with the room.
abbrev pub tiling_text : ℕ → Answer → List ℕ → List ℕ → List ℕ
tiling_text letter a table room =
    printed letter (answer_values a) ++ (printed 69 table ++ printed 82 room)

-- `C` or `A` with the fill's numbers, `E` with the entries.
abbrev pub filled_text : ℕ → List ℕ → List ℕ → List ℕ
filled_text letter numbers entries = printed letter numbers ++ printed 69 entries

-- `D` with the number and the values of the reply.
abbrev pub stop_text : Result CentreStop Refusal → List ℕ
stop_text found = printed 68 (fault_of found ∷ reply_values found)

-- `P` or `W` with the refusal and the part's length, `R` with the part.
abbrev pub part_text : ℕ → ℕ → List ℕ → List ℕ
part_text letter number part = printed letter (number ∷ length part ∷ []) ++ printed 82 part

-- `F` with the step's number, and of a part its values.
abbrev pub step_text : Stepped → List ℕ
step_text (Ok (Some p)) = printed 70 (0 ∷ step_values (Ok (Some p)))
step_text (Ok None) = printed 70 (0 ∷ [])
step_text (Err e) = printed 70 (refusal_number e ∷ [])
