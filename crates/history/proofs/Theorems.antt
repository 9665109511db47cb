-- Demand 3: no run of calls can make a sheet lie. Assumes nothing.
use mathlib.Core.Path.{◌≡◌, refl, sym, ap, ◌∙◌}
use mathlib.Core.Bool.{Bool, true, false, cond}
use mathlib.Core.List.{List, [], ◌∷◌, ◌++◌}
use Prim.Native.Nat.{ℕ, zero, suc, ◌+◌, ◌≤◌}
use native.Mathlib.Omega.{arith}
use lib.Dec.{eqb}
use lib.ListN.{length}
use Rattle.std.specs.Prelude.{Result, Ok}
use Rattle.terms.specs.Refusals.{first_fault}
use Rattle.terms.specs.Texts.{Text, size, opening_faults}
use Rattle.terms.specs.declared.limits.Limits.{Limits}
use Rattle.terms.specs.declared.refusal.Refusal.{Refusal}
use Rattle.terms.proofs.Named.{not_zero}
use Rattle.changes.specs.Changes.{done_of, back_of}
use Rattle.changes.specs.declared.Change.{Change}
use Rattle.changes.specs.declared.Edit.{Edit}
use Rattle.kept.specs.Lists.{kept_at}
use Rattle.sheet.specs.Calls.{number_of, refusing, answered, applied, change_call, take_back_call, put_again_call, opened, blank_sheet, open_call}
use Rattle.sheet.specs.declared.Reply.{Reply}
use Rattle.sheet.specs.declared.Said.{Said}
use Rattle.sheet.specs.declared.Said.TheVariants.{Opened}
use Rattle.sheet.specs.declared.Sheet.{Sheet}
use Rattle.sheet.proofs.Within.{bounds}
use Rattle.sheet.proofs.Replying.{answer_no, answer_yes, applied_accepted, changed_accepted}
use Rattle.history.specs.History.{Content, History, change, take_back, put_again, made, start, accept, refuse, faults_of, decide, reckon}
use Rattle.history.specs.Runs.{content_of, standing_of, taken_of, perform, Exchange, requested, asked, Run, after, Faithful}
use Rattle.history.specs.Demand3.{Came, Demand3, NeverMore, AlphabetStays, RefusedStays, BackAndAgain, ChangeAndBack}
use Rattle.history.specs.Openings.{BlankToo, OpensAnew}
use Rattle.history.proofs.Lists.{standing_length}
use Rattle.history.proofs.Padding.{content_is}
use Rattle.history.proofs.Edits.{make_keeps}
use Rattle.history.proofs.Invariant.{history_of, Invariant, invariant_same}
use Rattle.history.proofs.Steps.{counting, back_refused, back_made, again_made, step}
use Rattle.history.proofs.Openings.{opens, number_of_opening, opened_invariant, fresh_reply, blank_passes}

-- After a run of calls: each answer is the history's, and the history is the one read off the sheet.
pub record Ends (o : Content) (h : History) (xs : List Exchange) (s : Sheet) : Type 0 where
  pub faithful : Faithful h xs
  pub history : after h xs ≡ history_of o s
  pub invariant : Invariant o s

runs : (o : Content) (s : Sheet) → Invariant o s → (xs : List Exchange) (s' : Sheet) → Run s xs s' → Ends o (history_of o s) xs s'
runs o s S [] s' r = rw r (record { faithful = tt; history = refl; invariant = S })
runs o s S (requested q w ∷ xs) s' r =
    let A = step S q in
    let more = runs o (perform s q).sheet A.0 xs s' r.1 in
    record { faithful = rw A.1 (r.0, more.faithful); history = rw A.1 more.history; invariant = more.invariant }
runs o s S (asked t room t' room' a ∷ xs) s' r =
    let more = runs o s S xs s' r.1 in
    record { faithful = (fresh_reply S t t' room room' a r.0, more.faithful); history = more.history; invariant = more.invariant }

-- A run from an accepted opening.
came_ends : (x : Text) (l : Limits) (xs : List Exchange) (s : Sheet) → Came x l xs s → Ends (record { text = x; limits = l }) (start x l) xs s
unfolding opened
came_ends x l xs s c =
    let e = sym (number_of_opening x l) ∙ c.accepted in
    runs (record { text = x; limits = l }) (opened x l) (opened_invariant x l e) xs s (rw (opens x l e) at c.run)

pub demand_3 : Demand3
demand_3 x l xs s c =
    let E = came_ends x l xs s c in
    let S = E.invariant in
    let w : s.standing + s.taken ≤ 64 = (bounds s S.bounds).few in
    let m : s.n ≤ 1000 = (bounds s S.bounds).letters in
    let n : s.n ≡ size (made (record { text = x; limits = l }) (standing_of s)).text = S.holds.n in
    let k : length (standing_of s) ≡ s.standing = standing_length s.kept s.standing in (
      E.faithful,
      rw E.history (record { content = content_is S.holds; standing = refl; taken = refl; short = omega arith; few = omega arith; bounds = S.bounds }),
    )

-- a run can be cut anywhere
cut : (s : Sheet) (xs ys : List Exchange) (s' : Sheet) → Run s (xs ++ ys) s' → (t : Sheet) × Run s xs t × Run t ys s'
cut s [] ys s' r = (s, refl, r)
cut s (requested q w ∷ xs) ys s' r = let c = cut (perform s q).sheet xs ys s' r.1 in (c.0, (r.0, c.1), c.2)
cut s (asked t room t' room' a ∷ xs) ys s' r = let c = cut s xs ys s' r.1 in (c.0, (r.0, c.1), c.2)

pub never_more : NeverMore
never_more x l xs ys s c =
    let k = cut (open_call x l).sheet xs ys s c.run in
    let d : Came x l xs k.0 = record { accepted = c.accepted; run = k.1 } in
    (k.0, d, k.2, (bounds k.0 (came_ends x l xs k.0 d).invariant.bounds).letters)

-- no change touches map or alphabet
made_keeps : (o : Content) (es : List Edit) → ((made o es).text.map ≡ o.text.map) × ((made o es).text.alphabet ≡ o.text.alphabet)
made_keeps o [] = (refl, refl)
made_keeps o (e ∷ es) = let k = make_keeps e (made o es) in let h = made_keeps o es in (k.0 ∙ h.0, k.1 ∙ h.1)

pub alphabet_stays : AlphabetStays
alphabet_stays x l xs s c =
    let H = (came_ends x l xs s c).invariant.holds in
    let k = made_keeps (record { text = x; limits = l }) (standing_of s) in
    (H.map ∙ k.0, H.alphabet ∙ k.1)

-- A refused call leaves the sheet handed in.
stays : (fs : List (ℕ × Bool)) (s : Sheet) (r : Reply) → number_of r.said ≡ 0 → (number_of (answered fs s r).said ≡ 0 → ⊥) → (answered fs s r).sheet ≡ s
stays fs s r z n = ap (λ (a : Reply). a.sheet) (answer_no fs s r (first_fault fs) refl (λ e. n (ap (λ (a : Reply). number_of a.said) (answer_yes fs s r (sym e)) ∙ z)))

pub refused_stays : RefusedStays
refused_stays s (change e) = stays _ s _ (changed_accepted s e)
refused_stays s take_back = stays _ s _ (applied_accepted s _ _ _)
refused_stays s put_again = stays _ s _ (applied_accepted s _ _ _)

pub blank_too : BlankToo
unfolding blank_sheet
blank_too x l n =
    (stays _ blank_sheet _ refl n ∙ sym (ap (λ (r : Reply). r.sheet) (opens _ _ blank_passes)), number_of_opening _ _ ∙ blank_passes)

pub opens_anew : OpensAnew
unfolding answered opened blank_sheet
opens_anew x l = go (eqb k 0)
  where
    k : ℕ
    k = first_fault (opening_faults x l)

    reply : Bool → Reply
    reply b = cond b (record { sheet = opened x l; said = Ok (Opened (size x)) }) (refusing blank_sheet k)

    go : (b : Bool) → (standing_of (reply b).sheet ≡ []) × (taken_of (reply b).sheet ≡ [])
    go true = (refl, refl)
    go false = (refl, refl)

-- Take-back and put-again, by the number standing.
restored : (o : Content) (s : Sheet) (st tk : ℕ) → Invariant o (counting s st tk) → number_of (take_back_call (counting s st tk)).said ≡ 0
    → (number_of (put_again_call (take_back_call (counting s st tk)).sheet).said ≡ 0)
    × ((put_again_call (take_back_call (counting s st tk)).sheet).sheet ≡ counting s st tk)
unfolding applied
restored o s zero tk S z =
    let e : ◌≡◌ {A = ℕ} 8 0 = sym (ap (λ (r : Reply). number_of r.said) (back_refused (counting s 0 tk) S.bounds refl)) ∙ z in
    absurd (omega arith)
restored o s (suc j) tk S z =
    let c : Change = kept_at s.kept j in
    let was : Sheet = counting s (suc j) tk in
    let s1 : Sheet = (applied was (back_of c) j (suc tk)).sheet in
    let b : take_back_call was ≡ applied was (back_of c) j (suc tk) = back_made s j tk S.bounds in
    let B : Invariant o s1 = rw b at (step S take_back).0 in
    let g : put_again_call s1 ≡ applied s1 (done_of c) (suc j) tk = again_made s1 j tk B.bounds in
    let G : Invariant o (applied s1 (done_of c) (suc j) tk).sheet = rw g at (step B put_again).0 in
    rw (b, g) (applied_accepted s1 (done_of c) (suc j) tk, invariant_same o _ was G S refl refl refl)

pub back_and_again : BackAndAgain
back_and_again x l xs s c =
    restored (record { text = x; limits = l }) s s.standing s.taken (came_ends x l xs s c).invariant

-- A change that the history says 0 of is accepted.
decide_accepts : (h : History) (e : Edit) → number_of (decide h e).1 ≡ 0 → decide h e ≡ accept h e
decide_accepts h e = go (eqb (first_fault (faults_of h e)) 0) refl
  where
    go : (b : Bool) → eqb (first_fault (faults_of h e)) 0 ≡ b → number_of (cond b (accept h e) (refuse h (first_fault (faults_of h e)))).1 ≡ 0
        → cond b (accept h e) (refuse h (first_fault (faults_of h e))) ≡ accept h e
    go true q z = refl
    go false q z = absurd (not_zero _ z)

-- A change and take-back, of whatever kind.
module _ {o : Content} {s : Sheet} (S : Invariant o s) (e : Edit) where
  abbrev again : Reply
  again = take_back_call (change_call s e).sheet

  undone : number_of (change_call s e).said ≡ 0
      → (number_of again.said ≡ 0) × (content_of again.sheet ≡ content_of s) × (standing_of again.sheet ≡ standing_of s) × (taken_of again.sheet ≡ e ∷ [])
  undone z =
      let h : History = history_of o s in
      let A = step S (change e) in
      let B = step A.0 take_back in
      let n : number_of (decide h e).1 ≡ 0 = ap (λ (y : History × Result Said Refusal). number_of y.1) A.1 ∙ z in
      let a : history_of o (change_call s e).sheet ≡ (accept h e).0 = ap (λ (y : History × Result Said Refusal). y.0) (sym A.1 ∙ decide_accepts h e n) in
      let b : (history_of o again.sheet, again.said) ≡ reckon (accept h e).0 take_back = sym B.1 ∙ ap (λ (y : History). reckon y take_back) a in
      let t : standing_of again.sheet ≡ standing_of s = ap (λ (y : History × Result Said Refusal). y.0.standing) b in (
        ap (λ (y : History × Result Said Refusal). number_of y.1) b,
        content_is B.0.holds ∙ ap (made o) t ∙ sym (content_is S.holds),
        t,
        ap (λ (y : History × Result Said Refusal). y.0.taken) b,
      )

pub change_and_back : ChangeAndBack
change_and_back x l xs s c e = undone (came_ends x l xs s c).invariant e
