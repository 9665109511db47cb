-- What each call gives: a refusal by its first fault, or what is accepted. Assumes nothing.
use mathlib.Core.Path.{◌≡◌, refl, sym, ap, subst, ◌∙◌}
use mathlib.Core.Bool.{Bool, true, false, not, cond}
use mathlib.Core.List.{List, [], ◌∷◌, ◌++◌}
use Prim.Native.Nat.{ℕ, suc, ◌-◌, ◌<◌}
use native.Mathlib.Omega.{arith}
use borrow.Author.Tests.{eq-eqb, ne_eqb, eqb-true, eqb-false, leb-false}
use lib.Dec.{leb, eqb}
use Rattle.std.specs.Prelude.{Result, Ok, Err}
use Rattle.terms.specs.Refusals.{refusal_number, first_fault}
use Rattle.terms.specs.Limits.{kind_faults, lengths_faults}
use Rattle.terms.specs.declared.refusal.Refusal.{Refusal}
use Rattle.terms.proofs.Named.{not_zero, refusal_named, AllNamed, named_append, fault_named}
use Rattle.terms.proofs.Passed.{passed, not_off}
use Rattle.terms.proofs.Refusals.{fault_none, fault_first, fault_next}
use Rattle.changes.specs.Changes.{done_of, back_of, edit_faults, place_fault, letter_fault, accepts}
use Rattle.changes.specs.Work.{fits}
use Rattle.changes.specs.declared.Change.{Change}
use Rattle.changes.specs.declared.Edit.{Edit}
use Rattle.changes.specs.declared.Edit.TheVariants.{Letter, Kind, Lengths, PutIn, TakeOut}
use Rattle.changes.proofs.Accepting.{none_accepts, accepts_fits, edit_numbered}
use Rattle.kept.specs.Lists.{kept_accepted}
use Rattle.kept.specs.Work.{popping}
use Rattle.kept.specs.declared.Popped.TheVariants.{Change as PoppedChange}
use Rattle.kept.proofs.Popping.{popped_is}
use Rattle.kept.proofs.Moving.{newest_back, next_done}
use Rattle.sheet.specs.Bounds.{in_bounds}
use Rattle.sheet.specs.Calls.{number_of, values_of, refusing, answered, CallReply, applied, changed, change_faults, newest_of, last_taken, take_back_faults, put_again_faults}
use Rattle.sheet.specs.declared.Said.{Said}
use Rattle.sheet.specs.declared.Sheet.{Sheet}
use Rattle.sheet.specs.declared.Reply.{Reply}
use Rattle.sheet.proofs.Within.{bounds}

-- What a refusal says is zeros beside its number, whatever the call.
said_zeros : (w : Result Said Refusal) → (number_of w ≡ 0 → ⊥) → values_of w ≡ 0 ∷ 0 ∷ 0 ∷ 0 ∷ []
said_zeros (Ok w) n = absurd (n refl)
said_zeros (Err e) n = refl

-- The reply by the first fault.
module _ (faults : List (ℕ × Bool)) (s : Sheet) (accepted : Reply) where
  pub answer_no : (k : ℕ) → k ≡ first_fault faults → (k ≡ 0 → ⊥) → answered faults s accepted ≡ refusing s k
  unfolding answered
  answer_no k e n = let z : first_fault faults ≡ 0 → ⊥ = λ h. n (e ∙ h) in simp (ne_eqb _ _ z) (ap (refusing s) (sym e))

  pub answer_yes : 0 ≡ first_fault faults → answered faults s accepted ≡ accepted
  unfolding answered
  answer_yes e = simp (eq-eqb _ _ (sym e))

  -- what holds of a refusal by it, and of what is accepted where there is none, holds of the reply; so the number said is the first fault's, where each names a refusal
  pub answered_either : (P : Reply → Type 0) → ((first_fault faults ≡ 0 → ⊥) → P (refusing s (first_fault faults))) → (0 ≡ first_fault faults → P accepted) → P (answered faults s accepted)
  unfolding answered
  answered_either P refused made = go (eqb (first_fault faults) 0) refl
    where
      go : (t : Bool) → eqb (first_fault faults) 0 ≡ t → P (cond t accepted (refusing s (first_fault faults)))
      go true e = made (sym (eqb-true _ _ e))
      go false e = refused (eqb-false _ _ e)

  pub number_is : AllNamed faults → number_of accepted.said ≡ 0 → number_of (answered faults s accepted).said ≡ first_fault faults
  number_is n z = answered_either (λ r. number_of r.said ≡ first_fault faults) (fault_named faults n) (λ e. z ∙ e)

  pub call_refused : (e : Refusal) → refusal_number e ≡ first_fault faults → (r : Reply) → r ≡ record { sheet = s; said = Err e } → CallReply faults (answered faults s accepted) r
  call_refused e h r q =
      record {
        whole = q ∙ ap (λ (f : Refusal). record { sheet = s; said = Err f }) (sym (refusal_named e)) ∙ sym (answer_no (refusal_number e) h (not_zero e));
        number = ap (λ (x : Reply). number_of x.said) q ∙ h;
        zeros = said_zeros r.said;
      }

  pub call_accepted : 0 ≡ first_fault faults → (r : Reply) → r ≡ accepted → number_of accepted.said ≡ 0 → CallReply faults (answered faults s accepted) r
  call_accepted e r q z = record { whole = q ∙ sym (answer_yes e); number = ap (λ (x : Reply). number_of x.said) q ∙ z ∙ e; zeros = said_zeros r.said }

-- No change is said back as a refusal.
pub applied_accepted : (s : Sheet) (e : Edit) (st tk : ℕ) → number_of (applied s e st tk).said ≡ 0
unfolding applied
applied_accepted s e st tk = refl

pub changed_accepted : (s : Sheet) (e : Edit) → number_of (changed s e).said ≡ 0
unfolding changed
changed_accepted s e = refl

-- The faults of a call for a change, of whatever kind: j is the number of what it refuses of the edit.
module _ (s : Sheet) (e : Edit) where
  abbrev own : List (ℕ × Bool)
  own = edit_faults s.n s.alphabet e

  pub change_24 : in_bounds s ≡ false → 24 ≡ first_fault (change_faults s e)
  unfolding change_faults first_fault
  change_24 w = simp w

  module _ (w : in_bounds s ≡ true) (j : ℕ) (f : j ≡ first_fault own) where
    pub change_own : (j ≡ 0 → ⊥) → j ≡ first_fault (change_faults s e)
    unfolding change_faults first_fault
    change_own n = simp w (fault_first own ((7, leb 64 s.standing) ∷ []) j f n)

    module _ (z : j ≡ 0) where
      later : (k : ℕ) → k ≡ first_fault ((7, leb 64 s.standing) ∷ []) → k ≡ first_fault (change_faults s e)
      unfolding change_faults first_fault
      later k q = simp w (fault_next own ((7, leb 64 s.standing) ∷ []) (edit_numbered s.n s.alphabet e) j k f z q)

      pub change_7 : leb 64 s.standing ≡ true → 7 ≡ first_fault (change_faults s e)
      unfolding first_fault
      change_7 k = later 7 (simp k)

      pub change_0 : leb 64 s.standing ≡ false → 0 ≡ first_fault (change_faults s e)
      unfolding first_fault
      change_0 k = later 0 (simp k)

  -- what it may count on where no fault holds
  pub change_sound : 0 ≡ first_fault (change_faults s e) → (in_bounds s ≡ true) × (accepts s.n s.alphabet e ≡ true) × (s.standing < 64)
  unfolding change_faults
  change_sound f =
      let a = passed 24 (not (in_bounds s)) (own ++ (7, leb 64 s.standing) ∷ []) (omega arith) (sym f) in
      let c = fault_none own ((7, leb 64 s.standing) ∷ []) (edit_numbered s.n s.alphabet e) a.1 in
      let d = passed 7 (leb 64 s.standing) [] (omega arith) c.1 in
      (not_off _ a.0, none_accepts s.n s.alphabet e c.0, leb-false _ _ d.0)

-- In bounds take-back and put-again are refused as popping is.
module _ (s : Sheet) where
  pub back_24 : in_bounds s ≡ false → 24 ≡ first_fault (take_back_faults s)
  unfolding take_back_faults first_fault
  back_24 w = simp w

  pub again_24 : in_bounds s ≡ false → 24 ≡ first_fault (put_again_faults s)
  unfolding put_again_faults first_fault
  again_24 w = simp w

  module _ (w : in_bounds s ≡ true) (k : ℕ) where
    pub back_number : k ≡ first_fault ((8, eqb s.standing 0) ∷ []) → k ≡ first_fault (take_back_faults s)
    unfolding take_back_faults first_fault
    back_number h = simp w h

    pub again_number : k ≡ first_fault ((9, eqb s.taken 0) ∷ []) → k ≡ first_fault (put_again_faults s)
    unfolding put_again_faults first_fault
    again_number h = simp w h

-- A change that is popped can be taken back, or put again, at the sheet's own length.
module _ (s : Sheet) (w : in_bounds s ≡ true) where
  abbrev kept_with : ℕ → ℕ → Type 0
  kept_with st tk = kept_accepted s.n s.alphabet s.kept st tk ≡ true

  pub back_accepted : (s.standing ≡ 0 → ⊥) → accepts s.n s.alphabet (back_of (newest_of s)) ≡ true
  back_accepted h =
      let q : s.standing ≡ suc (s.standing - 1) = omega arith in
      newest_back s.n s.alphabet s.kept (s.standing - 1) s.taken (subst (λ (k : ℕ). kept_with k s.taken) q (bounds s w).kept)

  pub done_accepted : (s.taken ≡ 0 → ⊥) → accepts s.n s.alphabet (done_of (last_taken s)) ≡ true
  done_accepted h =
      let q : s.taken ≡ suc (s.taken - 1) = omega arith in
      next_done s.n s.alphabet s.kept s.standing (s.taken - 1) (subst (kept_with s.standing) q (bounds s w).kept)

module _ (s : Sheet) (c : Change) where
  pub newest_fits : in_bounds s ≡ true → popping s.standing (newest_of s) ≡ PoppedChange c → fits s.n (back_of c) ≡ true
  newest_fits w p =
      let (e, z) = popped_is s.standing (newest_of s) c p in
      accepts_fits s.n s.alphabet (back_of c) (ap (λ (x : Change). accepts s.n s.alphabet (back_of x)) (sym e) ∙ back_accepted s w z)

  pub last_fits : in_bounds s ≡ true → popping s.taken (last_taken s) ≡ PoppedChange c → fits s.n (done_of c) ≡ true
  last_fits w p =
      let (e, z) = popped_is s.taken (last_taken s) c p in
      accepts_fits s.n s.alphabet (done_of c) (ap (λ (x : Change). accepts s.n s.alphabet (done_of x)) (sym e) ∙ done_accepted s w z)

  pub back_is : popping s.standing (newest_of s) ≡ PoppedChange c → back_of c ≡ back_of (newest_of s)
  back_is p = ap back_of (sym (popped_is s.standing (newest_of s) c p).0)

  pub again_is : popping s.taken (last_taken s) ≡ PoppedChange c → done_of c ≡ done_of (last_taken s)
  again_is p = ap done_of (sym (popped_is s.taken (last_taken s) c p).0)

-- Each fault of an edit, and of a call for a change, names a refusal.
pub edit_named : (n : ℕ) (z : List ℕ) (e : Edit) → AllNamed (edit_faults n z e)
unfolding edit_faults place_fault letter_fault kind_faults lengths_faults
edit_named n z (Letter p b) = (refl, (refl, tt))
edit_named n z (Kind k d) = (refl, (refl, tt))
edit_named n z (Lengths m g) = (refl, tt)
edit_named n z (PutIn p b) = (refl, (refl, (refl, tt)))
edit_named n z (TakeOut p) = (refl, tt)

pub change_named : (s : Sheet) (e : Edit) → AllNamed (change_faults s e)
unfolding change_faults
change_named s e = (refl, named_append (edit_faults s.n s.alphabet e) _ (edit_named s.n s.alphabet e) (refl, tt))
