-- The answer of `agree`, as each test is met or passed. Assumes nothing.
use Rattle.std.proofs.Common.{◌≡◌, ℕ, ◌%◌, not, eqb, List, [], ◌∷◌, length, sym, refl, inl, inr, arith, eq-eqb, ne_eqb}
use Rattle.terms.specs.Refusals.{first_fault, FirstFault}
use Rattle.terms.specs.Texts.{Text, opening_faults}
use Rattle.terms.specs.declared.limits.Limits.{Limits}
use Rattle.terms.proofs.Passed.{sound_opening}
use Rattle.terms.proofs.Refusals.{numbered_append, opening_numbered, fault_first, fault_next, tested_first, tested_next}
use Rattle.returned.specs.Returned.{SomeWrong, Agrees, file_faults, AgreeReply}
use Rattle.returned.specs.Work.{AllRight}

module _ (x : Text) (l : Limits) (file : List ℕ) where
  refused : (k : ℕ) → k ≡ first_fault (file_faults x l file) → (k ≡ 0 → ⊥) → AgreeReply x l file k
  refused k e n = record { number = tested_first _ k (file_faults x l file) (omega arith) e; yes = λ z. absurd (n z) }

  pub reply_opening : (k : ℕ) → k ≡ first_fault (opening_faults x l) → (k ≡ 0 → ⊥) → AgreeReply x l file k
  unfolding file_faults
  reply_opening k e n = refused k (fault_first (opening_faults x l) _ k e n) n

  -- the opening is accepted
  module _ (z : 0 ≡ first_fault (opening_faults x l)) where
    later : (k : ℕ) → k ≡ first_fault ((15, not (eqb (length file % 6) 0)) ∷ []) → k ≡ first_fault (file_faults x l file)
    unfolding file_faults
    later k = fault_next (opening_faults x l) _ (opening_numbered x l) 0 k z refl

    pub reply_half : (length file % 6 ≡ 0 → ⊥) → AgreeReply x l file 15
    unfolding first_fault
    reply_half h = refused 15 (later 15 (simp (ne_eqb _ _ h))) (λ y. omega arith)

    module _ (even : length file % 6 ≡ 0) where
      whole : (k : ℕ) → FirstFault ((16, SomeWrong x l file) ∷ (17, (Agrees x l file → ⊥)) ∷ []) k → (k ≡ 0 → Agrees x l file) → AgreeReply x l file k
      unfolding file_faults first_fault
      whole k f y =
          let n = numbered_append (opening_faults x l) ((15, not (eqb (length file % 6) 0)) ∷ []) (opening_numbered x l) (omega arith, tt) in
          record { number = tested_next _ k (file_faults x l file) n (sym (later 0 (simp (eq-eqb _ _ even)))) f; yes = y }

      pub reply_wrong : SomeWrong x l file → AgreeReply x l file 16
      reply_wrong w = whole 16 (inl (w, refl)) (λ y. absurd (omega arith))

      module _ (all : AllRight x l file) where
        pub reply_no : (Agrees x l file → ⊥) → AgreeReply x l file 17
        reply_no n = whole 17 (inr ((λ w. w.wrong (all w.number w.inside)), inl (n, refl))) (λ y. absurd (omega arith))

        pub reply_yes : Agrees x l file → AgreeReply x l file 0
        reply_yes a = whole 0 (inr ((λ w. w.wrong (all w.number w.inside)), inr ((λ n. n a), refl))) (λ _. a)

-- For `agree`: each test met or passed is an answer.
pub ruleset replies = (sound_opening, reply_opening, reply_half, reply_wrong, reply_no, reply_yes)
