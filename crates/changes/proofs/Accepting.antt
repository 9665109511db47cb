-- What it takes to accept each kind of edit, and what lengths and limits come of it. Assumes nothing.
use mathlib.Core.Path.{◌≡◌, refl}
use mathlib.Core.Bool.{true, false, not}
use mathlib.Core.List.{List, [], ◌∷◌}
use Prim.Native.Nat.{ℕ, ◌≤◌, ◌<◌}
use native.Mathlib.Omega.{arith}
use borrow.Author.Tests.{leb-true, leb-false, ltb-true, ltb-false, le-leb, lt-leb, le-ltb, lt-ltb, eq-eqb, eqb-true}
use lib.Dec.{leb, ltb}
use Rattle.terms.specs.Refusals.{first_fault}
use Rattle.terms.specs.Alphabets.{is_in}
use Rattle.terms.specs.Limits.{limits_faults, with_kind, with_lengths}
use Rattle.terms.specs.declared.limits.Limits.{Limits}
use Rattle.terms.proofs.Below.{and_left, and_right, and_yes}
use Rattle.terms.proofs.Passed.{passed, not_off}
use Rattle.terms.proofs.Refusals.{Numbered, kind_numbered, lengths_numbered, limits_parts, limits_whole}
use Rattle.changes.specs.Changes.{done_of, back_of, length_by, limits_by, place_fault, letter_fault, edit_faults, accepts, accepts_then}
use Rattle.changes.specs.Work.{fits}
use Rattle.changes.specs.declared.Change.{Change}
use Rattle.changes.specs.declared.Change.TheVariants.{Letter as ChangedLetter, Kind as DidKind, Lengths as DidLengths, PutIn as DidPutIn, TakeOut as DidTakeOut}
use Rattle.changes.specs.declared.Edit.{Edit}
use Rattle.changes.specs.declared.Edit.TheVariants.{Letter, Kind, Lengths, PutIn, TakeOut}

-- an edit is accepted where nothing of it is refused
module _ (n : ℕ) (z : List ℕ) (e : Edit) where
  pub accepts_none : accepts n z e ≡ true → first_fault (edit_faults n z e) ≡ 0
  unfolding accepts
  accepts_none a = eqb-true _ _ a

  pub none_accepts : first_fault (edit_faults n z e) ≡ 0 → accepts n z e ≡ true
  unfolding accepts
  none_accepts f = eq-eqb _ _ f

-- every number of its list is a refusal's
pub edit_numbered : (n : ℕ) (z : List ℕ) (e : Edit) → Numbered (edit_faults n z e)
unfolding edit_faults place_fault letter_fault
edit_numbered n z (Letter p b) = (omega arith, (omega arith, tt))
edit_numbered n z (Kind k d) = kind_numbered k d
edit_numbered n z (Lengths m g) = lengths_numbered m g
edit_numbered n z (PutIn p b) = (omega arith, (omega arith, (omega arith, tt)))
edit_numbered n z (TakeOut p) = (omega arith, tt)

-- what each kind has passed
module _ (n : ℕ) (z : List ℕ) (p : ℕ) where
  module _ (b : ℕ) where
    of_alphabet : first_fault (letter_fault z b) ≡ 0 → is_in z b ≡ true
    unfolding letter_fault
    of_alphabet f = not_off _ (passed 19 (not (is_in z b)) [] (omega arith) f).0

    letter_passed : accepts n z (Letter p b) ≡ true → (leb n p ≡ false) × (first_fault (letter_fault z b) ≡ 0)
    unfolding edit_faults place_fault
    letter_passed a = passed 6 (leb n p) (letter_fault z b) (omega arith) (accepts_none n z (Letter p b) a)

    pub letter_in : accepts n z (Letter p b) ≡ true → is_in z b ≡ true
    letter_in a = of_alphabet (letter_passed a).1

    put_in_passed : accepts n z (PutIn p b) ≡ true → (p ≤ n) × (n < 1000) × (is_in z b ≡ true)
    unfolding edit_faults
    put_in_passed a =
        let c = passed 6 (ltb n p) ((1, leb 1000 n) ∷ letter_fault z b) (omega arith) (accepts_none n z (PutIn p b) a) in
        let d = passed 1 (leb 1000 n) (letter_fault z b) (omega arith) c.1 in
        (ltb-false _ _ c.0, leb-false _ _ d.0, of_alphabet d.1)

    pub put_in_letter : accepts n z (PutIn p b) ≡ true → is_in z b ≡ true
    put_in_letter a = (put_in_passed a).2

    pub letter_accepted : p < n → is_in z b ≡ true → accepts n z (Letter p b) ≡ true
    unfolding edit_faults place_fault letter_fault first_fault
    letter_accepted h i = none_accepts n z (Letter p b) (simp (lt-leb _ _ h, i))

    pub put_in_accepted : p ≤ n → n < 1000 → is_in z b ≡ true → accepts n z (PutIn p b) ≡ true
    unfolding edit_faults letter_fault first_fault
    put_in_accepted h k i = none_accepts n z (PutIn p b) (simp (le-ltb _ _ h, lt-leb _ _ k, i))

  take_out_passed : accepts n z (TakeOut p) ≡ true → p < n
  unfolding edit_faults place_fault
  take_out_passed a = leb-false _ _ (passed 6 (leb n p) [] (omega arith) (accepts_none n z (TakeOut p) a)).0

  pub take_out_accepted : p < n → accepts n z (TakeOut p) ≡ true
  unfolding edit_faults place_fault first_fault
  take_out_accepted h = none_accepts n z (TakeOut p) (simp (lt-leb _ _ h))

-- of limits that pass, kind and d are accepted, and so are m and g; and after an accepted edit they still pass: what it names was tested, what it does not name is kept
module _ (n : ℕ) (z : List ℕ) (l : Limits) (f : first_fault (limits_faults l) ≡ 0) where
  pub kind_accepted : accepts n z (Kind l.kind l.d) ≡ true
  unfolding edit_faults
  kind_accepted = none_accepts n z (Kind l.kind l.d) (limits_parts l f).0

  pub lengths_accepted : accepts n z (Lengths l.m l.g) ≡ true
  unfolding edit_faults
  lengths_accepted = none_accepts n z (Lengths l.m l.g) (limits_parts l f).1

  pub limits_pass : (e : Edit) → accepts n z e ≡ true → first_fault (limits_faults (limits_by e l)) ≡ 0
  unfolding edit_faults
  limits_pass (Letter p b) a = f
  limits_pass (Kind k d) a = limits_whole (with_kind l k d) (accepts_none n z (Kind k d) a) (limits_parts l f).1
  limits_pass (Lengths m g) a = limits_whole (with_lengths l m g) (limits_parts l f).0 (accepts_none n z (Lengths m g) a)
  limits_pass (PutIn p b) a = f
  limits_pass (TakeOut p) a = f

-- an accepted edit has its place among the letters, and leaves at most 1,000
pub accepts_fits : (n : ℕ) (z : List ℕ) (e : Edit) → accepts n z e ≡ true → fits n e ≡ true
unfolding fits
accepts_fits n z (Letter p b) a = lt-ltb p n (leb-false _ _ (letter_passed n z p b a).0)
accepts_fits n z (Kind k d) a = refl
accepts_fits n z (Lengths m g) a = refl
accepts_fits n z (PutIn p b) a = let h = put_in_passed n z p b a in and_yes _ _ (le-leb _ _ h.0) (lt-ltb _ _ h.1)
accepts_fits n z (TakeOut p) a = lt-ltb p n (take_out_passed n z p a)

module _ (n p : ℕ) where
  pub fits_letter : (b : ℕ) → fits n (Letter p b) ≡ true → p < n
  unfolding fits
  fits_letter b f = ltb-true _ _ f

  pub fits_in : (b : ℕ) → fits n (PutIn p b) ≡ true → (p ≤ n) × (n < 1000)
  unfolding fits
  fits_in b f = (leb-true _ _ (and_left _ _ f), ltb-true _ _ (and_right (leb p n) _ f))

  pub fits_out : fits n (TakeOut p) ≡ true → p < n
  unfolding fits
  fits_out f = ltb-true _ _ f

pub length_few : (n : ℕ) (e : Edit) → n ≤ 1000 → fits n e ≡ true → length_by e n ≤ 1000
length_few n (Letter p b) h f = h
length_few n (Kind k d) h f = h
length_few n (Lengths m g) h f = h
length_few n (PutIn p b) h f = let k = fits_in n p b f in omega arith
length_few n (TakeOut p) h f = omega arith

-- a change made and taken back, or taken back and put again, comes to the length it began with
pub length_back : (n : ℕ) (c : Change) → fits n (done_of c) ≡ true → length_by (back_of c) (length_by (done_of c) n) ≡ n
length_back n (ChangedLetter p old new) f = refl
length_back n (DidKind k₀ d₀ k d) f = refl
length_back n (DidLengths m₀ g₀ m g) f = refl
length_back n (DidPutIn p b) f = omega arith
length_back n (DidTakeOut p b) f = let h = fits_out n p f in omega arith

pub length_again : (n : ℕ) (c : Change) → fits n (back_of c) ≡ true → length_by (done_of c) (length_by (back_of c) n) ≡ n
length_again n (ChangedLetter p old new) f = refl
length_again n (DidKind k₀ d₀ k d) f = refl
length_again n (DidLengths m₀ g₀ m g) f = refl
length_again n (DidPutIn p b) f = let h = fits_out n p f in omega arith
length_again n (DidTakeOut p b) f = omega arith

-- one edit and then the other
module _ (n : ℕ) (z : List ℕ) (e f : Edit) where
  pub then_first : accepts_then n z e f ≡ true → accepts n z e ≡ true
  unfolding accepts_then
  then_first h = and_left _ _ h

  pub then_second : accepts_then n z e f ≡ true → accepts (length_by e n) z f ≡ true
  unfolding accepts_then
  then_second h = and_right (accepts n z e) _ h

  pub then_both : accepts n z e ≡ true → accepts (length_by e n) z f ≡ true → accepts_then n z e f ≡ true
  unfolding accepts_then
  then_both p q = and_yes _ _ p q
