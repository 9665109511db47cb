-- Two replies to one question are equal, slices included. Assumes nothing.
use mathlib.Core.Path.{◌≡◌, sym, ap, ◌∙◌}
use mathlib.Core.List.{List, [], ◌∷◌}
use Prim.Native.Nat.{ℕ}
use lib.ListN.{length}
use Rattle.std.specs.Prelude.{Result, Ok, Err}
use Rattle.terms.specs.Refusals.{first_fault, OneOf}
use Rattle.terms.specs.declared.refusal.Refusal.{Refusal}
use Rattle.terms.specs.Maps.{map_faults}
use Rattle.terms.specs.Alphabets.{alphabet_faults}
use Rattle.terms.specs.Texts.{Text, size, string_faults, text_faults}
use Rattle.terms.proofs.Ranges.{entries_unique}
use Rattle.terms.proofs.Refusals.{fault_listed}
use Rattle.terms.proofs.Named.{not_zero, same_refusal}
use Rattle.spans.specs.Palindromes.{centres, MaximalLength}
use Rattle.spans.specs.Centres.{Lengths, centres_faults, CentresReply, CentresLaws}
use Rattle.spans.proofs.Walking.{longest_unique}

pub lengths_unique : (x : Text) (d : ℕ) (b a a' : List ℕ) → Lengths x d b a → Lengths x d b a' → a ≡ a'
lengths_unique x d b a a' p q = entries_unique (MaximalLength x d) (λ k v w. longest_unique) (centres (size x)) b a a' p.long q.long p.filled q.filled p.stay q.stay

centres_listed : (x : Text) (d lent : ℕ) → OneOf (first_fault (centres_faults x d lent)) (0 ∷ 1 ∷ 2 ∷ 3 ∷ 18 ∷ 19 ∷ 5 ∷ 11 ∷ [])
unfolding centres_faults text_faults string_faults map_faults alphabet_faults
centres_listed x d lent = fault_listed (centres_faults x d lent)

centres_unique : (x : Text) (d : ℕ) (b a a' : List ℕ) (r r' : Result ℕ Refusal) → CentresReply x d b a r → CentresReply x d b a' r' → (a ≡ a') × (r ≡ r')
centres_unique x d b a a' (Ok n) (Ok n') p q = (lengths_unique x d b a a' p.accepted.1 q.accepted.1, ap Ok (p.accepted.0 ∙ sym q.accepted.0))
centres_unique x d b a a' (Ok n) (Err e) p q = absurd (not_zero e (q.number ∙ sym p.number))
centres_unique x d b a a' (Err e) (Ok n) p q = absurd (not_zero e (p.number ∙ sym q.number))
centres_unique x d b a a' (Err e) (Err e') p q = (p.refused (not_zero e) ∙ sym (q.refused (not_zero e')), ap Err (same_refusal e e' (p.number ∙ sym q.number)))

pub centres_laws : (x : Text) (d : ℕ) (before : List ℕ) → CentresLaws x d before
centres_laws x d before = record { listed = λ after r p. rw p.number (centres_listed x d (length before)); one = centres_unique x d before }
