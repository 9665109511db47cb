-- Part records read back, one record a step (02, L1).
use Rattle.std.specs.Prelude.{Bool, not, cond, ◌||◌, List, [], ◌∷◌, ℕ, ◌+◌, ◌*◌, ◌%◌, eqb, ltb, length, get_or, take, drop, Option, None, Some, Result, Ok, Err}
use Rattle.terms.specs.Refusals.{refusal_of, first_fault}
use Rattle.terms.specs.declared.refusal.Refusal.{Refusal}
use Rattle.records.specs.Records.{record_size}
use Rattle.reader.specs.declared.Record.{Record}

-- The six bytes from a place.
abbrev pub record_bytes : List ℕ → ℕ → List ℕ
record_bytes file at = take record_size (drop at file)

-- What they say: byte 0 the tag, byte 1 the error count, bytes 2-3 the start and 4-5 the length, high byte first.
abbrev pub record_at : List ℕ → ℕ → Record
record_at file at =
    record {
      tag = get_or file at 0;
      errors = get_or file (at + 1) 0;
      start = get_or file (at + 2) 0 * 256 + get_or file (at + 3) 0;
      length = get_or file (at + 4) 0 * 256 + get_or file (at + 5) 0;
    }

-- Refusals of a step in testing order: 6 a place past the end or not on a record, 15 fewer than six bytes left, 16 an unknown first byte.
unfoldable pub step_faults : List ℕ → ℕ → List (ℕ × Bool)
step_faults file at =
    (6, ltb (length file) at || not (eqb (at % record_size) 0))
    ∷ (15, ltb (length file) (at + record_size))
    ∷ (16, not (eqb (get_or file at 0) 80 || eqb (get_or file at 0) 71))
    ∷ []

-- What a step answers: a part's record with the place of the next, or nothing at the end; or a refusal.
abbrev pub Stepped : Type 0
Stepped = Result (Option (Record × ℕ)) Refusal

-- A refusal where there is one, else the answer.
abbrev pub unless_refused : ℕ → Stepped → Stepped
unless_refused k answer = cond (eqb k 0) answer (Err (refusal_of k))

-- One step: the end itself says finished; else a refusal, or the part with the place of the next.
unfoldable pub step_of : List ℕ → ℕ → Stepped
step_of file at =
    cond (eqb at (length file)) (Ok None) (unless_refused (first_fault (step_faults file at)) (Ok (Some (record_at file at, at + record_size))))

-- The values of an answer: tag, errors, start, length, place of the next; zeros where no part is handed out.
abbrev pub step_values : Stepped → List ℕ
step_values (Ok (Some p)) = p.0.tag ∷ p.0.errors ∷ p.0.start ∷ p.0.length ∷ p.1 ∷ []
step_values (Ok None) = 0 ∷ 0 ∷ 0 ∷ 0 ∷ 0 ∷ []
step_values (Err e) = 0 ∷ 0 ∷ 0 ∷ 0 ∷ 0 ∷ []
