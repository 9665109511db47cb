-- A step that meets no refusal has a whole record before it. Assumes nothing.
use mathlib.Core.Path.{◌≡◌, refl, sym, ap}
use mathlib.Core.List.{List, [], ◌∷◌}
use Prim.Native.Nat.{ℕ, ◌+◌, ◌≤◌}
use native.Mathlib.Omega.{arith}
use borrow.Author.Tests.{ne_eqb, ltb-false}
use lib.ListN.{length}
use Rattle.std.specs.Prelude.{Ok, Err, IsErrAnd}
use Rattle.terms.specs.Refusals.{refusal_number, refusal_of, first_fault, OneOf}
use Rattle.terms.specs.declared.refusal.Refusal.{Refusal}
use Rattle.terms.proofs.Named.{not_zero, refusal_named, fault_named}
use Rattle.terms.proofs.Passed.{passed}
use Rattle.terms.proofs.Refusals.{fault_listed}
use Rattle.records.specs.Records.{record_size}
use Rattle.reader.specs.Reader.{Stepped, step_faults, step_of}

pub whole_record : (file : List ℕ) (at : ℕ) → 0 ≡ first_fault (step_faults file at) → at + record_size ≤ length file
unfolding step_faults
whole_record file at e = ltb-false _ _ (passed 15 _ _ (omega arith) (passed 6 _ _ (omega arith) (sym e)).1).0

-- What a step may meet.
pub faults : (file : List ℕ) (at : ℕ) → OneOf (first_fault (step_faults file at)) (0 ∷ 6 ∷ 15 ∷ 16 ∷ [])
unfolding step_faults
faults file at = fault_listed (step_faults file at)

-- Each has a number, which names it.
pub named : (file : List ℕ) (at : ℕ) → (first_fault (step_faults file at) ≡ 0 → ⊥) → refusal_number (refusal_of (first_fault (step_faults file at))) ≡ first_fault (step_faults file at)
unfolding step_faults
named file at = fault_named (step_faults file at) (refl, (refl, (refl, tt)))

-- What a `?` hands on is the step's refusal.
pub refused_step : (file : List ℕ) (at : ℕ) (e : Refusal) → (at ≡ length file → ⊥) → refusal_number e ≡ first_fault (step_faults file at) → (r : Stepped) → IsErrAnd r (λ f. f ≡ e) → r ≡ step_of file at
unfolding step_of
refused_step file at e n h (Ok a) w = absurd w
refused_step file at e n h (Err f) w = simp (ne_eqb _ _ n, sym h, ne_eqb _ _ (not_zero e), refusal_named e) (ap Err w)
