-- The refusals of a walk: the text's first, then 5; one more test behind them; and those of the fill of the centres. Assumes nothing.
use mathlib.Core.Path.{◌≡◌, refl, sym, ◌∙◌}
use mathlib.Core.Bool.{Bool, true, false}
use mathlib.Core.List.{List, [], ◌∷◌, ◌++◌}
use Prim.Native.Nat.{ℕ, ◌≤◌, ◌<◌}
use native.Mathlib.Omega.{arith}
use borrow.Author.Tests.{lt-ltb, le-ltb, ltb-false}
use lib.Dec.{ltb}
use lib.ListN.{length}
use Rattle.std.specs.Prelude.{Result, Ok, Err, IsErrAnd}
use Rattle.terms.specs.Refusals.{refusal_number, first_fault}
use Rattle.terms.specs.declared.refusal.Refusal.{Refusal}
use Rattle.terms.specs.Maps.{map_faults}
use Rattle.terms.specs.Alphabets.{alphabet_faults}
use Rattle.terms.specs.Limits.{too_many_errors}
use Rattle.terms.specs.Texts.{Text, size, string_faults, text_faults}
use Rattle.terms.specs.Passed.{SoundText}
use Rattle.terms.proofs.Refusals.{Numbered, numbered_append, text_numbered, fault_none, fault_first, fault_next}
use Rattle.terms.proofs.Named.{handed_on}
use Rattle.terms.proofs.Passed.{sound_text, passed}
use Rattle.spans.specs.Palindromes.{centres}
use Rattle.spans.specs.Centres.{Lengths, walk_faults, centres_faults, CentresReply}

module _ (x : Text) (d : ℕ) where
  pub text_refuses : (k : ℕ) → k ≡ first_fault (text_faults x) → (k ≡ 0 → ⊥) → k ≡ first_fault (walk_faults x d)
  unfolding walk_faults
  text_refuses = fault_first (text_faults x) ((5, too_many_errors d) ∷ [])

  module _ (j : ℕ) (e : j ≡ first_fault (text_faults x)) (z : j ≡ 0) where
    pub errors_refuse : 15 < d → 5 ≡ first_fault (walk_faults x d)
    unfolding walk_faults first_fault too_many_errors
    errors_refuse h = fault_next (text_faults x) ((5, too_many_errors d) ∷ []) (text_numbered x) j 5 e z (simp (lt-ltb _ _ h))

    pub errors_pass : d ≤ 15 → 0 ≡ first_fault (walk_faults x d)
    unfolding walk_faults first_fault too_many_errors
    errors_pass h = fault_next (text_faults x) ((5, too_many_errors d) ∷ []) (text_numbered x) j 0 e z (simp (le-ltb _ _ h))

  walk_numbered : Numbered (walk_faults x d)
  unfolding walk_faults
  walk_numbered = numbered_append (text_faults x) ((5, too_many_errors d) ∷ []) (text_numbered x) (omega arith, tt)

  -- what a walk that is not refused may count on
  pub walk_sound : (k : ℕ) → k ≡ first_fault (walk_faults x d) → k ≡ 0 → SoundText x × (d ≤ 15)
  unfolding walk_faults too_many_errors
  walk_sound k e z =
      let h = fault_none (text_faults x) ((5, too_many_errors d) ∷ []) (text_numbered x) (sym e ∙ z) in
      (sound_text x h.0, ltb-false _ _ (passed 5 (ltb 15 d) [] (omega arith) h.1).0)

  -- one more test, of the refusal n
  module _ (n : ℕ) (t : Bool) where
    abbrev More : List (ℕ × Bool)
    More = walk_faults x d ++ (n, t) ∷ []

    pub walk_refuses : (k : ℕ) → k ≡ first_fault (walk_faults x d) → (k ≡ 0 → ⊥) → k ≡ first_fault More
    walk_refuses = fault_first (walk_faults x d) ((n, t) ∷ [])

    pub last_refuses : (j : ℕ) → j ≡ first_fault (walk_faults x d) → j ≡ 0 → t ≡ true → n ≡ first_fault More
    unfolding first_fault
    last_refuses j e z h = fault_next (walk_faults x d) ((n, t) ∷ []) walk_numbered j n e z (simp h)

    pub last_passes : (j : ℕ) → j ≡ first_fault (walk_faults x d) → j ≡ 0 → t ≡ false → 0 ≡ first_fault More
    unfolding first_fault
    last_passes j e z h = fault_next (walk_faults x d) ((n, t) ∷ []) walk_numbered j 0 e z (simp h)

    pub more_sound : 0 < n → (k : ℕ) → k ≡ first_fault More → k ≡ 0 → SoundText x × (d ≤ 15) × (t ≡ false)
    more_sound p k e z =
        let h = fault_none (walk_faults x d) ((n, t) ∷ []) walk_numbered (sym e ∙ z) in
        let w = walk_sound 0 (sym h.0) refl in
        (w.0, w.1, (passed n t [] p h.1).0)

-- The fill's last test is 11.
module _ (x : Text) (d lent : ℕ) where
  fill_faults : first_fault (walk_faults x d ++ (11, ltb lent (centres (size x))) ∷ []) ≡ first_fault (centres_faults x d lent)
  unfolding walk_faults centres_faults text_faults string_faults map_faults alphabet_faults
  fill_faults = refl

  module _ (j : ℕ) (e : j ≡ first_fault (walk_faults x d)) where
    pub fill_refuses : (j ≡ 0 → ⊥) → j ≡ first_fault (centres_faults x d lent)
    fill_refuses n = walk_refuses x d 11 (ltb lent (centres (size x))) j e n ∙ fill_faults

    pub room_refuses : j ≡ 0 → lent < centres (size x) → 11 ≡ first_fault (centres_faults x d lent)
    room_refuses z h = last_refuses x d 11 (ltb lent (centres (size x))) j e z (lt-ltb _ _ h) ∙ fill_faults

    pub all_pass : j ≡ 0 → centres (size x) ≤ lent → 0 ≡ first_fault (centres_faults x d lent)
    all_pass z h = last_passes x d 11 (ltb lent (centres (size x))) j e z (le-ltb _ _ h) ∙ fill_faults

  -- what an accepted fill may count on
  pub fill_sound : (k : ℕ) → k ≡ first_fault (centres_faults x d lent) → k ≡ 0 → SoundText x × (d ≤ 15) × (centres (size x) ≤ lent)
  fill_sound k e z =
      let h = more_sound x d 11 (ltb lent (centres (size x))) (omega arith) k (e ∙ sym fill_faults) z in
      (h.0, h.1, ltb-false _ _ h.2)

-- The reply to a fill that is refused, and to one that is not.
module _ (x : Text) (d : ℕ) (b : List ℕ) where
  pub centres_refused : (r : Result ℕ Refusal) (e : Refusal) → IsErrAnd r (λ f. f ≡ e) → refusal_number e ≡ first_fault (centres_faults x d (length b)) → CentresReply x d b b r
  centres_refused (Ok n) e h q = absurd h
  centres_refused (Err f) e h q = record { number = handed_on {A = ℕ} (Err f) e h ∙ q; refused = λ n. refl; accepted = tt }

  pub centres_filled : 0 ≡ first_fault (centres_faults x d (length b)) → (a : List ℕ) → Lengths x d b a → (c : ℕ) → c ≡ centres (size x) → CentresReply x d b a (Ok c)
  centres_filled q a l c h = record { number = q; refused = λ n. absurd (n refl); accepted = (h, l) }
