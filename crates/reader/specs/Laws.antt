-- What a reader may count on of every step; proved in proofs/.
use Rattle.std.specs.Prelude.{◌≡◌, List, [], ◌∷◌, ℕ, ◌+◌, length, None, Some, Ok}
use Rattle.terms.specs.Refusals.{first_fault, fault_of, OneOf}
use Rattle.terms.specs.Texts.{Text}
use Rattle.tilings.specs.Tilings.{Part}
use Rattle.tilings.specs.Laws.{length_of}
use Rattle.records.specs.Records.{record_size, tag_of, errors_of, records_from}
use Rattle.reader.specs.Reader.{step_faults, step_of, step_values}
use Rattle.reader.specs.declared.Record.{Record}

pub record StepLaws (file : List ℕ) (at : ℕ) : Type 0 where
  -- the end says finished; elsewhere the number is that of the first fault that holds, and always in the list
  pub finished : at ≡ length file → step_of file at ≡ Ok None
  pub number : (at ≡ length file → ⊥) → fault_of (step_of file at) ≡ first_fault (step_faults file at)
  pub listed : OneOf (fault_of (step_of file at)) (0 ∷ 6 ∷ 15 ∷ 16 ∷ [])
  -- a refusal says zeros beside its number
  pub zeros : (fault_of (step_of file at) ≡ 0 → ⊥) → step_values (step_of file at) ≡ 0 ∷ 0 ∷ 0 ∷ 0 ∷ 0 ∷ []

-- What the record of a part says, the part starting at i.
abbrev pub saying_of : Text → ℕ → Part → Record
saying_of x i p = record { tag = tag_of p; errors = errors_of x i p; start = i; length = length_of p }

-- A walk from a place, one record a step, hands out these parts, the first starting at i, each with the place of the next; then it says finished.
abbrev pub HandsOut : Text → List ℕ → ℕ → ℕ → List Part → Type 0
HandsOut x file at i [] = step_of file at ≡ Ok None
HandsOut x file at i (p ∷ ps) = (step_of file at ≡ Ok (Some (saying_of x i p, at + record_size))) × HandsOut x file (at + record_size) (i + length_of p) ps

-- What was written is read back, part by part.
abbrev pub ReadsBack : Text → Type 0
ReadsBack x = (i : ℕ) (ps : List Part) → HandsOut x (records_from x i ps) 0 i ps
