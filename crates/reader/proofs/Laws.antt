-- The laws for a reader hold. Assumes nothing.
use mathlib.Core.Path.{◌≡◌, refl, sym, ap, ◌∙◌}
use mathlib.Core.Bool.{Bool, true, false, not, cond, ◌||◌}
use mathlib.Core.List.{List, [], ◌∷◌}
use mathlib.Core.Logic.{inl}
use Prim.Native.Nat.{ℕ, ◌+◌, ◌%◌, ◌≤◌}
use native.Mathlib.Omega.{arith}
use borrow.Author.Tests.{eq-eqb, ne_eqb, le-ltb, eqb-false, eqb-true}
use lib.Dec.{eqb}
use lib.ListN.{length, get_or, take, drop, length-drop}
use lib.Seq.{take_at, drop_at, drop-drop}
use Rattle.std.specs.Prelude.{None, Some, Ok, Err}
use Rattle.terms.specs.Refusals.{refusal_number, refusal_of, first_fault, fault_of, OneOf}
use Rattle.terms.specs.Texts.{Text}
use Rattle.tilings.specs.Tilings.{Part, piece, gap}
use Rattle.tilings.specs.Laws.{length_of}
use Rattle.records.specs.Records.{tag_of, record_of, records_from}
use Rattle.reader.specs.Reader.{record_bytes, record_at, step_faults, Stepped, unless_refused, step_of, step_values}
use Rattle.reader.specs.Laws.{StepLaws, saying_of, HandsOut, ReadsBack}
use Rattle.reader.specs.declared.Record.{Record}
use Rattle.reader.proofs.Bytes.{says}
use Rattle.reader.proofs.Steps.{faults, named}

-- a refusal's number is its own, and an answer's is 0
unless_number : (k : ℕ) (a : Stepped) → ((k ≡ 0 → ⊥) → refusal_number (refusal_of k) ≡ k) → fault_of a ≡ 0 → fault_of (unless_refused k a) ≡ k
unless_number k a o e = go (eqb k 0) refl
  where
    go : (t : Bool) → eqb k 0 ≡ t → fault_of (cond t a (Err (refusal_of k))) ≡ k
    go true h = e ∙ sym (eqb-true k 0 h)
    go false h = o (eqb-false k 0 h)

-- an answer that has a number is a refusal
refused_zeros : (a : Stepped) → (fault_of a ≡ 0 → ⊥) → step_values a ≡ 0 ∷ 0 ∷ 0 ∷ 0 ∷ 0 ∷ []
refused_zeros (Ok (Some p)) n = absurd (n refl)
refused_zeros (Ok None) n = refl
refused_zeros (Err e) n = refl

module _ (file : List ℕ) (at : ℕ) where
  at_end : at ≡ length file → step_of file at ≡ Ok None
  unfolding step_of
  at_end e = simp (eq-eqb _ _ e)

  elsewhere : (at ≡ length file → ⊥) → fault_of (step_of file at) ≡ first_fault (step_faults file at)
  unfolding step_of
  elsewhere n = simp (ne_eqb _ _ n) (unless_number (first_fault (step_faults file at)) (Ok (Some (record_at file at, at + 6))) (named file at) refl)

  all_listed : OneOf (fault_of (step_of file at)) (0 ∷ 6 ∷ 15 ∷ 16 ∷ [])
  all_listed = go (eqb at (length file)) refl
    where
      go : (t : Bool) → eqb at (length file) ≡ t → OneOf (fault_of (step_of file at)) (0 ∷ 6 ∷ 15 ∷ 16 ∷ [])
      go true h = rw (at_end (eqb-true _ _ h)) (inl refl)
      go false h = rw (elsewhere (eqb-false _ _ h)) (faults file at)

  pub step_laws : StepLaws file at
  step_laws = record { finished = at_end; number = elsewhere; listed = all_listed; zeros = refused_zeros (step_of file at) }

-- a part's tag is known
known : (p : Part) (t : ℕ) → t ≡ tag_of p → not (eqb t 80 || eqb t 71) ≡ false
known (piece L) t h = simp (eq-eqb t 80 h)
known (gap L) t h = simp (ne_eqb t 80 (λ z. omega arith), eq-eqb t 71 h)

module _ (x : Text) (file : List ℕ) where
  -- at a part's record the part is handed out
  module _ (at i : ℕ) (p : Part) (on : at % 6 ≡ 0) (whole : at + 6 ≤ length file) (w : record_bytes file at ≡ record_of x i p) where
    said : record_at file at ≡ saying_of x i p
    said = says x file at whole i p w

    no_fault : first_fault (step_faults file at) ≡ 0
    unfolding first_fault step_faults
    no_fault =
        simp (le-ltb (length file) at (omega arith), eq-eqb (at % 6) 0 on, le-ltb (length file) (at + 6) whole, known p (get_or file at 0) (ap (λ (r : Record). r.tag) said))

    part_handed : step_of file at ≡ Ok (Some (saying_of x i p, at + 6))
    unfolding step_of
    part_handed = simp (ne_eqb at (length file) (λ z. omega arith), no_fault) (ap (λ (r : Record). Ok (Some (r, at + 6))) said)

  -- what is left of the file is the parts' records: they are handed out one after the other
  pub walked : (at i : ℕ) (ps : List Part) → at % 6 ≡ 0 → at ≤ length file → drop at file ≡ records_from x i ps → HandsOut x file at i ps
  walked at i [] on low e = at_end file at (omega (arith, sym (length-drop at file) ∙ ap length e))
  walked at i (p ∷ ps) on low e =
      let rest : List ℕ = records_from x (i + length_of p) ps in
      let whole : at + 6 ≤ length file = omega (arith, sym (length-drop at file) ∙ ap length e) in
      let w : record_bytes file at ≡ record_of x i p = ap (take 6) e ∙ take_at (record_of x i p) rest 6 refl in
      let d : drop (at + 6) file ≡ rest = sym (drop-drop 6 at file) ∙ ap (drop 6) e ∙ drop_at (record_of x i p) rest 6 refl in
      (part_handed at i p on whole w, walked (at + 6) (i + length_of p) ps (omega arith) whole d)

pub reads_back : (x : Text) → ReadsBack x
reads_back x i ps = walked x (records_from x i ps) 0 i ps refl (omega arith) refl
