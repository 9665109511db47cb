-- One request on a sheet and on its history: the same answer, and the history stays the one read off the sheet. Assumes nothing.
use mathlib.Core.Path.{◌≡◌, refl, sym, ap, subst, ◌∙◌}
use mathlib.Core.Bool.{Bool, true, false, cond}
use Prim.Native.Nat.{ℕ, zero, suc, ◌-◌, ◌<◌}
use native.Mathlib.Numerals.{add-one}
use native.Mathlib.Omega.{arith}
use borrow.Author.Tests.{eqb-true}
use lib.Dec.{eqb}
use lib.ListN.{length}
use Rattle.std.specs.Prelude.{Result}
use Rattle.terms.specs.Refusals.{first_fault}
use Rattle.terms.specs.declared.refusal.Refusal.{Refusal}
use Rattle.changes.specs.Changes.{done_of, back_of, accepts}
use Rattle.changes.specs.declared.Change.{Change}
use Rattle.changes.specs.declared.Edit.{Edit}
use Rattle.kept.specs.Lists.{kept_at}
use Rattle.kept.proofs.Popping.{pop_none, pop_some}
use Rattle.kept.proofs.Moving.{newest_back, kept_back, next_done, kept_again}
use Rattle.sheet.specs.Bounds.{in_bounds}
use Rattle.sheet.specs.Calls.{refusing, answered, applied, changed, change_faults, change_call, newest_of, last_taken, take_back_call, put_again_call}
use Rattle.sheet.specs.declared.Reply.{Reply}
use Rattle.sheet.specs.declared.Said.{Said}
use Rattle.sheet.specs.declared.Sheet.{Sheet}
use Rattle.sheet.proofs.Within.{bounds}
use Rattle.sheet.proofs.Replying.{answer_no, answer_yes, change_sound, back_number, again_number}
use Rattle.history.specs.History.{Content, History, Request, change, take_back, put_again, make, back, made, moved, accept, refuse, faults_of, decide, reckon}
use Rattle.history.specs.Runs.{standing_from, standing_of, perform}
use Rattle.history.proofs.Lists.{standing_length}
use Rattle.history.proofs.Edits.{make_back}
use Rattle.history.proofs.Invariant.{history_of, Invariant, Agrees, moved_agrees, changed_agrees}

-- a sheet with other counts
abbrev pub counting : Sheet → ℕ → ℕ → Sheet
counting s st tk =
    record { letters = s.letters; n = s.n; map = s.map; alphabet = s.alphabet; limits = s.limits; kept = s.kept; standing = st; taken = tk }

-- take-back, by the number standing; put-again, by the number taken back
pub back_refused : (z : Sheet) → in_bounds z ≡ true → z.standing ≡ 0 → take_back_call z ≡ refusing z 8
back_refused z w e = answer_no _ _ _ 8 (back_number z w 8 (pop_none 8 z.standing (newest_of z) e).1) (λ h. omega arith)

pub back_made : (s : Sheet) (j tk : ℕ) → in_bounds (counting s (suc j) tk) ≡ true
    → take_back_call (counting s (suc j) tk) ≡ applied (counting s (suc j) tk) (back_of (kept_at s.kept j)) j (suc tk)
back_made s j tk w =
    let p : suc j - 1 ≡ j = omega arith in
    answer_yes _ _ _ (back_number (counting s (suc j) tk) w 0 (pop_some 8 (suc j) (kept_at s.kept j) (λ e. omega arith)).1) ∙ rw (p, add-one)

again_refused : (z : Sheet) → in_bounds z ≡ true → z.taken ≡ 0 → put_again_call z ≡ refusing z 9
again_refused z w e = answer_no _ _ _ 9 (again_number z w 9 (pop_none 9 z.taken (last_taken z) e).1) (λ h. omega arith)

pub again_made : (s : Sheet) (st t : ℕ) → in_bounds (counting s st (suc t)) ≡ true
    → put_again_call (counting s st (suc t)) ≡ applied (counting s st (suc t)) (done_of (kept_at s.kept st)) (suc st) t
again_made s st t w =
    let p : suc t - 1 ≡ t = omega arith in
    answer_yes _ _ _ (again_number (counting s st (suc t)) w 0 (pop_some 9 (suc t) (kept_at s.kept st) (λ e. omega arith)).1) ∙ rw (p, add-one)

module _ (o : Content) where
  replied : (x : History × Result Said Refusal) (r r' : Reply) → r ≡ r' → Agrees o r' x → Agrees o r x
  replied x r r' e A = rw e A

  back_step : (s : Sheet) (st tk : ℕ) → Invariant o (counting s st tk)
      → Agrees o (take_back_call (counting s st tk)) (reckon (history_of o (counting s st tk)) take_back)
  back_step s zero tk S = replied _ _ _ (back_refused (counting s 0 tk) S.bounds refl) (S, refl)
  back_step s (suc j) tk S =
      let c : Change = kept_at s.kept j in
      let was : Content = made o (standing_from s.kept j) in
      let R = S.restores j (omega arith) in
      let k = (bounds (counting s (suc j) tk) S.bounds).kept in
      let r : back_of c ≡ back was (done_of c) = R.old in
      let m : make (back_of c) (make (done_of c) was) ≡ was = ap (λ (e : Edit). make e (make (done_of c) was)) r ∙ make_back was (done_of c) R.fitted in
      replied _ _ _ (back_made s j tk S.bounds)
      (subst
      (λ (e : Edit).
      Agrees o (applied (counting s (suc j) tk) (back_of c) j (suc tk))
      (moved (history_of o (counting s (suc j) tk)) e (history_of o (counting s j (suc tk)))))
      r
      (moved_agrees S (back_of c) (newest_back s.n s.alphabet s.kept j tk k) j (suc tk) (kept_back s.n s.alphabet s.kept j tk k) (omega arith) m))

  again_step : (s : Sheet) (st tk : ℕ) → Invariant o (counting s st tk)
      → Agrees o (put_again_call (counting s st tk)) (reckon (history_of o (counting s st tk)) put_again)
  again_step s st zero S = replied _ _ _ (again_refused (counting s st 0) S.bounds refl) (S, refl)
  again_step s st (suc t) S =
      let k = (bounds (counting s st (suc t)) S.bounds).kept in
      replied _ _ _ (again_made s st t S.bounds)
      (moved_agrees S (done_of (kept_at s.kept st)) (next_done s.n s.alphabet s.kept st t k) (suc st) t (kept_again s.n s.alphabet s.kept st t k) (omega arith) refl)

module _ {o : Content} {s : Sheet} (S : Invariant o s) where
  -- a change of whatever kind: the sheet's faults and the history's come to one number, and are none only for an edit to be made
  module _ (e : Edit) where
    abbrev h : History
    h = history_of o s

    standing_is : length (standing_of s) ≡ s.standing
    standing_is = standing_length s.kept s.standing

    same_number : first_fault (change_faults s e) ≡ first_fault (faults_of h e)
    unfolding change_faults first_fault
    same_number = simp S.bounds (rw (S.holds.n, S.holds.alphabet, standing_is))

    by_test : (k : ℕ) (b : Bool) → (b ≡ true → (in_bounds s ≡ true) × (accepts s.n s.alphabet e ≡ true) × (s.standing < 64))
        → Agrees o (cond b (changed s e) (refusing s k)) (cond b (accept h e) (refuse h k))
    by_test k true a = changed_agrees S e (a refl).1 (a refl).2
    by_test k false a = (S, refl)

    decided : Agrees o (change_call s e) (decide h e)
    unfolding answered
    decided =
        rw (sym same_number) (by_test (first_fault (change_faults s e)) (eqb (first_fault (change_faults s e)) 0) (λ t. change_sound s e (sym (eqb-true _ _ t))))

  pub step : (q : Request) → Agrees o (perform s q) (reckon (history_of o s) q)
  step (change e) = decided e
  step take_back = back_step o s s.standing s.taken S
  step put_again = again_step o s s.standing s.taken S
