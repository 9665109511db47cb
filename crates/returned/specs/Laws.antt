-- What a reader may count on of every answer; proved in proofs/.
use Rattle.std.specs.Prelude.{◌≡◌, List, [], ◌∷◌, ℕ}
use Rattle.terms.specs.Refusals.{first_fault, OneOf}
use Rattle.terms.specs.Texts.{Text, opening_faults}
use Rattle.terms.specs.declared.limits.Limits.{Limits}
use Rattle.reader.specs.Laws.{HandsOut}
use Rattle.returned.specs.Returned.{Agrees, AgreeReply}

pub record AgreeLaws (x : Text) (l : Limits) (file : List ℕ) : Type 0 where
  -- yes exactly when the opening would be accepted and the records are a permitted tiling with at most g gaps
  pub yes : AgreeReply x l file 0 → (first_fault (opening_faults x l) ≡ 0) × Agrees x l file
  pub exactly : first_fault (opening_faults x l) ≡ 0 → Agrees x l file → (k : ℕ) → AgreeReply x l file k → k ≡ 0
  -- records that agree are handed out by the reader, part by part from the start of the file
  pub handed : (a : Agrees x l file) → HandsOut x file 0 0 a.parts
  -- the number is always in the list, and two answers to one question are equal
  pub listed : (k : ℕ) → AgreeReply x l file k → OneOf k (0 ∷ 1 ∷ 2 ∷ 3 ∷ 18 ∷ 19 ∷ 4 ∷ 5 ∷ 15 ∷ 16 ∷ 17 ∷ [])
  pub one : (j k : ℕ) → AgreeReply x l file j → AgreeReply x l file k → j ≡ k
