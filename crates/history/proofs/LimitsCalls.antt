-- The laws of the two limits calls: a call leaves the limits as they stood, or as its edit leaves them. Assumes nothing.
use mathlib.Core.Path.{◌≡◌, refl, sym, subst, ◌∙◌}
use mathlib.Core.Bool.{true}
use mathlib.Core.List.{◌∷◌}
use Prim.Native.Nat.{ℕ}
use Rattle.terms.specs.Refusals.{first_fault, OneOf}
use Rattle.terms.specs.Limits.{kind_faults, lengths_faults, limits_faults}
use Rattle.terms.specs.declared.limits.Limits.{Limits}
use Rattle.terms.proofs.Refusals.{numbers, fault_listed, opening_parts}
use Rattle.changes.specs.Changes.{done_of, back_of, limits_by, edit_faults}
use Rattle.changes.specs.declared.Change.{Change}
use Rattle.changes.specs.declared.Edit.{Edit}
use Rattle.changes.specs.declared.Edit.TheVariants.{Kind, Lengths}
use Rattle.changes.proofs.Accepting.{limits_pass}
use Rattle.sheet.specs.Bounds.{text_of, in_bounds}
use Rattle.sheet.specs.Calls.{number_of, applied, changed, change_faults, change_call, newest_of, last_taken, take_back_faults, take_back_call, put_again_faults, put_again_call, open_call}
use Rattle.history.specs.LimitsCalls.{SameLengths, SameKind, limits_left, LimitsLaws}
use Rattle.sheet.specs.declared.Sheet.{Sheet}
use Rattle.sheet.proofs.Asked.{content_opens}
use Rattle.sheet.proofs.Replying.{answered_either, number_is, change_named, changed_accepted, change_sound}
use Rattle.history.proofs.Writing.{limits_open}
use Rattle.history.proofs.Openings.{number_of_opening}

module _ (s : Sheet) where
  -- what holds of the limits as they stood, and of those that the edit leaves, holds after the call
  module _ (P : Limits → Type 0) (stood : P s.limits) where
    change_leaves : (e : Edit) → (0 ≡ first_fault (change_faults s e) → P (limits_by e s.limits)) → P (limits_left (change_call s e))
    unfolding changed
    change_leaves e p = answered_either (change_faults s e) s (changed s e) (λ r. P (limits_left r)) (λ _. stood) p

    back_leaves : (c : Change) → newest_of s ≡ c → P (limits_by (back_of c) s.limits) → P (limits_left (take_back_call s))
    unfolding applied
    back_leaves c e p = answered_either (take_back_faults s) s _ (λ r. P (limits_left r)) (λ _. stood) (λ _. subst (λ (x : Change). P (limits_by (back_of x) s.limits)) (sym e) p)

    again_leaves : (c : Change) → last_taken s ≡ c → P (limits_by (done_of c) s.limits) → P (limits_left (put_again_call s))
    unfolding applied
    again_leaves c e p = answered_either (put_again_faults s) s _ (λ r. P (limits_left r)) (λ _. stood) (λ _. subst (λ (x : Change). P (limits_by (done_of x) s.limits)) (sym e) p)

  -- in bounds they pass, and still do after a change; so an opening with them is accepted
  change_opens : in_bounds s ≡ true → (e : Edit) → number_of (open_call (text_of s) (limits_left (change_call s e))).said ≡ 0
  change_opens w e =
      let o = content_opens s w in
      let f : first_fault (limits_faults s.limits) ≡ 0 = (opening_parts (text_of s) s.limits o).1 in
      let g : first_fault (limits_faults (limits_left (change_call s e))) ≡ 0
      = change_leaves (λ l. first_fault (limits_faults l) ≡ 0) f e (λ z. limits_pass s.n s.alphabet s.limits f e (change_sound s e z).1) in
      number_of_opening (text_of s) (limits_left (change_call s e)) ∙ limits_open (text_of s) s.limits (limits_left (change_call s e)) o g

  -- the number said is 0 or one of the call's list
  change_listed : (e : Edit) → OneOf (number_of (change_call s e).said) (0 ∷ numbers (change_faults s e))
  change_listed e = subst (λ (n : ℕ). OneOf n (0 ∷ numbers (change_faults s e))) (sym (number_is (change_faults s e) s (changed s e) (change_named s e) (changed_accepted s e))) (fault_listed (change_faults s e))

  pub limits_laws : LimitsLaws s
  unfolding change_faults edit_faults kind_faults lengths_faults
  limits_laws =
      record {
        kind_keeps = λ kind d. change_leaves (λ l. SameLengths l s.limits) (refl, refl) (Kind kind d) (λ _. (refl, refl));
        lengths_keep = λ m g. change_leaves (λ l. SameKind l s.limits) (refl, refl) (Lengths m g) (λ _. (refl, refl));
        kind_back = λ k₀ d₀ kind d e. back_leaves (λ l. SameLengths l s.limits) (refl, refl) _ e (refl, refl);
        lengths_back = λ m₀ g₀ m g e. back_leaves (λ l. SameKind l s.limits) (refl, refl) _ e (refl, refl);
        kind_again = λ k₀ d₀ kind d e. again_leaves (λ l. SameLengths l s.limits) (refl, refl) _ e (refl, refl);
        lengths_again = λ m₀ g₀ m g e. again_leaves (λ l. SameKind l s.limits) (refl, refl) _ e (refl, refl);
        kind_opens = λ w kind d. change_opens w (Kind kind d);
        lengths_open = λ w m g. change_opens w (Lengths m g);
        kind_listed = λ kind d. change_listed (Kind kind d);
        lengths_listed = λ m g. change_listed (Lengths m g);
      }
