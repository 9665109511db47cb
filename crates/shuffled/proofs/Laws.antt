-- What an accepted fill may count on, and the laws for a reader. Assumes nothing.
use Rattle.std.proofs.Common.{◌≡◌, refl, sym, ap, ◌∙◌, ⊎_elim, true, not, List, [], ◌∷◌, ℕ, ◌≤◌, ◌<◌, le_antisymm, arith, ltb, ltb-false, length, Result, Ok, Err}
use Rattle.std.proofs.Math.ListN.{get_or-eq_default}
use Rattle.terms.specs.Refusals.{first_fault}
use Rattle.terms.specs.declared.refusal.Refusal.{Refusal}
use Rattle.terms.proofs.Named.{not_zero, same_refusal}
use Rattle.terms.proofs.Order.{le_or_lt}
use Rattle.terms.proofs.Passed.{passed, not_off}
use Rattle.terms.proofs.Ranges.{entries_unique}
use Rattle.terms.proofs.Refusals.{fault_listed}
use Rattle.spans.specs.Palindromes.{letter}
use Rattle.shuffled.specs.Shuffled.{LongestShuffled, Longests, capitals, shuffled_faults, ShuffledReply}
use Rattle.shuffled.specs.Laws.{ShuffledLaws}
use Rattle.shuffled.proofs.Parities.{capital_at}
use Rattle.shuffled.proofs.Exact.{exact_pass}

pub fill_sound : (s : List ℕ) (lent : ℕ) → first_fault (shuffled_faults s lent) ≡ 0 → (length s ≤ 1000) × (length s ≤ lent) × (capitals s ≡ true)
unfolding shuffled_faults
fill_sound s lent e =
    let a = passed 1 (ltb 1000 (length s)) ((20, not (capitals s)) ∷ (11, ltb lent (length s)) ∷ []) (omega arith) e in
    let b = passed 20 (not (capitals s)) ((11, ltb lent (length s)) ∷ []) (omega arith) a.1 in
    let c = passed 11 (ltb lent (length s)) [] (omega arith) b.1 in
    (ltb-false _ _ a.0, ltb-false _ _ c.0, not_off _ b.0)

module _ (s before : List ℕ) where
  one_slice : (a a' : List ℕ) → Longests s before a → Longests s before a' → a ≡ a'
  one_slice a a' p q =
      entries_unique (LongestShuffled s) (λ k v w h g. le_antisymm (g.longest v h.is) (h.longest w g.is))
      (length s) before a a' p.long q.long p.filled q.filled p.stay q.stay

  one_reply : (a a' : List ℕ) (r r' : Result (Unit {0}) Refusal) → ShuffledReply s before a r → ShuffledReply s before a' r' → (a ≡ a') × (r ≡ r')
  one_reply a a' (Ok u) (Ok u') p q = (one_slice a a' (p.accepted refl) (q.accepted refl), refl)
  one_reply a a' (Ok u) (Err e) p q = absurd (not_zero e (q.number ∙ sym p.number))
  one_reply a a' (Err e) (Ok u) p q = absurd (not_zero e (p.number ∙ sym q.number))
  one_reply a a' (Err e) (Err e') p q = (p.refused (not_zero e) ∙ sym (q.refused (not_zero e')), ap Err (same_refusal e e' (p.number ∙ sym q.number)))

  -- Letters of A to Z are bytes, and so is what stands for a place past the end.
  bytes : capitals s ≡ true → (k : ℕ) → letter s k < 256
  bytes c k = ⊎_elim (λ h. omega (arith, get_or-eq_default s 0 h)) (λ h. omega (arith, (capital_at s c k h).1)) (le_or_lt (length s) k)

  pub shuffled_laws : ShuffledLaws s before
  unfolding shuffled_faults
  shuffled_laws =
      record {
        listed = λ after r p. rw p.number (fault_listed (shuffled_faults s (length before)));
        one = one_reply;
        exact = λ after p a L x.
            let w = exact_pass s (bytes (fill_sound s (length before) (sym p.number)).2) a L x in
            ((p.accepted refl).filled a (omega (arith, w.some, w.inside))).longest L w;
      }
