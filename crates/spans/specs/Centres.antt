-- The fill of the centres (01, "What is handed over").
use Rattle.std.specs.Prelude.{◌≡◌, Bool, List, [], ◌∷◌, ◌++◌, ℕ, ◌≤◌, ◌<◌, Result, IfOk, ltb, length, get_or}
use Rattle.terms.specs.Refusals.{first_fault, fault_of, OneOf}
use Rattle.terms.specs.declared.refusal.Refusal.{Refusal}
use Rattle.terms.specs.Limits.{too_many_errors}
use Rattle.terms.specs.Texts.{Text, size, text_faults}
use Rattle.spans.specs.Palindromes.{centres, MaximalLength}

-- The list holds the maximal lengths of all centres.
abbrev pub Holds : Text → ℕ → List ℕ → Type 0
Holds x d lens = (c : ℕ) → c < centres (size x) → MaximalLength x d c (get_or lens c 0)

-- The slice is filled with them; later entries stay.
pub record Lengths (x : Text) (d : ℕ) (before after : List ℕ) : Type 0 where
  pub long : length after ≡ length before
  pub filled : Holds x d after
  pub stay : (k : ℕ) → centres (size x) ≤ k → get_or after k 0 ≡ get_or before k 0

-- Refusals 1, 2, 3, 18, 19, and of 5 only the part on d: those of the fill but 11 (02, L3).
unfoldable pub walk_faults : Text → ℕ → List (ℕ × Bool)
walk_faults x d = text_faults x ++ (5, too_many_errors d) ∷ []

-- Refusals 1, 2, 3, 18, 19, of 5 only the part on d, then 11 where fewer entries are lent than centres.
unfoldable pub centres_faults : Text → ℕ → ℕ → List (ℕ × Bool)
centres_faults x d lent = text_faults x ++ (5, too_many_errors d) ∷ (11, ltb lent (centres (size x))) ∷ []

-- The reply: a refusal is its number and leaves the slice; else the slice is filled and the number of centres answered.
pub record CentresReply (x : Text) (d : ℕ) (before after : List ℕ) (r : Result ℕ Refusal) : Type 0 where
  pub number : fault_of r ≡ first_fault (centres_faults x d (length before))
  pub refused : (fault_of r ≡ 0 → ⊥) → after ≡ before
  pub accepted : IfOk r (λ n. (n ≡ centres (size x)) × Lengths x d before after)

-- For a reader: the number answered is always one of these, and two replies to one question are equal, slices included.
pub record CentresLaws (x : Text) (d : ℕ) (before : List ℕ) : Type 0 where
  pub listed : (after : List ℕ) (r : Result ℕ Refusal) → CentresReply x d before after r → OneOf (fault_of r) (0 ∷ 1 ∷ 2 ∷ 3 ∷ 18 ∷ 19 ∷ 5 ∷ 11 ∷ [])
  pub one :
      (after after' : List ℕ) (r r' : Result ℕ Refusal)
      → CentresReply x d before after r → CentresReply x d before after' r' → (after ≡ after') × (r ≡ r')
