-- A refusal's number is never 0, and names it: what a call answers is 0 exactly where it is not refused. Assumes nothing.
use mathlib.Core.Bool.{Bool, true, false}
use mathlib.Core.Path.{◌≡◌, refl, sym, ap, ◌∙◌}
use Prim.Native.Nat.{ℕ, ◌<◌}
use native.Mathlib.Omega.{arith}
use mathlib.Core.List.{List, [], ◌∷◌, ◌++◌}
use borrow.Author.Tests.{ne_eqb}
use lib.Dec.{eqb}
use Rattle.std.specs.Prelude.{Result, Ok, Err, IsErrAnd, is_ok, is_err}
use Rattle.terms.specs.Refusals.{refusal_number, refusal_of, fault_of, first_fault}
use Rattle.terms.specs.Maps.{map_faults}
use Rattle.terms.specs.Alphabets.{alphabet_faults}
use Rattle.terms.specs.Limits.{limits_faults}
use Rattle.terms.specs.Texts.{Text, string_faults, text_faults, opening_faults}
use Rattle.terms.specs.declared.limits.Limits.{Limits}
use Rattle.terms.specs.declared.refusal.Refusal.{Refusal}
use Rattle.terms.specs.declared.refusal.Refusal.TheVariants.{StringTooLong, MapNot256, MapNotOwnInverse, WrongKind, OutOfRange, NoSuchPlace, AllStand, NoneStands, NoneTakenBack, NoTiling, TableTooShort, RoomTooShort, NotUnderstood, NoSheet, NoWholeRecord, WrongRecord, NotATiling, AlphabetNotClosed, OutsideAlphabet, NoCapital, OutOfBounds}

pub some_number : (e : Refusal) → 0 < refusal_number e
some_number StringTooLong = omega arith
some_number MapNot256 = omega arith
some_number MapNotOwnInverse = omega arith
some_number WrongKind = omega arith
some_number OutOfRange = omega arith
some_number NoSuchPlace = omega arith
some_number AllStand = omega arith
some_number NoneStands = omega arith
some_number NoneTakenBack = omega arith
some_number NoTiling = omega arith
some_number TableTooShort = omega arith
some_number RoomTooShort = omega arith
some_number NotUnderstood = omega arith
some_number NoSheet = omega arith
some_number NoWholeRecord = omega arith
some_number WrongRecord = omega arith
some_number NotATiling = omega arith
some_number AlphabetNotClosed = omega arith
some_number OutsideAlphabet = omega arith
some_number NoCapital = omega arith
some_number OutOfBounds = omega arith

pub not_zero : (e : Refusal) → refusal_number e ≡ 0 → ⊥
not_zero e h = let k = some_number e in omega arith

-- so two with one number are one
pub refusal_named : (e : Refusal) → refusal_of (refusal_number e) ≡ e
refusal_named StringTooLong = refl
refusal_named MapNot256 = refl
refusal_named MapNotOwnInverse = refl
refusal_named WrongKind = refl
refusal_named OutOfRange = refl
refusal_named NoSuchPlace = refl
refusal_named AllStand = refl
refusal_named NoneStands = refl
refusal_named NoneTakenBack = refl
refusal_named NoTiling = refl
refusal_named TableTooShort = refl
refusal_named RoomTooShort = refl
refusal_named NotUnderstood = refl
refusal_named NoSheet = refl
refusal_named NoWholeRecord = refl
refusal_named WrongRecord = refl
refusal_named NotATiling = refl
refusal_named AlphabetNotClosed = refl
refusal_named OutsideAlphabet = refl
refusal_named NoCapital = refl
refusal_named OutOfBounds = refl

pub same_refusal : (e e' : Refusal) → refusal_number e ≡ refusal_number e' → e ≡ e'
same_refusal e e' h = sym (refusal_named e) ∙ (ap refusal_of h ∙ refusal_named e')

-- what is accepted is answered with 0, and nothing else is
pub unrefused : {A : Type 0} (r : Result A Refusal) → is_ok r ≡ eqb (fault_of r) 0
unrefused (Ok a) = refl
unrefused (Err e) = sym (ne_eqb _ _ (not_zero e))

pub erred : {A : Type 0} (r : Result A Refusal) → is_err r ≡ true → fault_of r ≡ 0 → ⊥
erred (Ok a) h z = cc
erred (Err e) h z = not_zero e z

pub not_erred : {A : Type 0} (r : Result A Refusal) → is_err r ≡ false → fault_of r ≡ 0
not_erred (Ok a) h = refl
not_erred (Err e) h = cc

-- what is answered with 0 is accepted
pub accepted_of : {A : Type 0} (r : Result A Refusal) → fault_of r ≡ 0 → (a : A) × (r ≡ Ok a)
accepted_of (Ok a) h = (a, refl)
accepted_of (Err e) h = absurd (not_zero e h)

-- what a `?` hands on is the refusal that was answered
pub handed_on : {A : Type 0} (r : Result A Refusal) (e : Refusal) → IsErrAnd r (λ f. f ≡ e) → fault_of r ≡ refusal_number e
handed_on (Ok a) e h = absurd h
handed_on (Err f) e h = ap refusal_number h

-- every number of a list names a refusal, so the first fault does where there is one
abbrev pub AllNamed : List (ℕ × Bool) → Type 0
AllNamed [] = Unit {0}
AllNamed (t ∷ ts) = (refusal_number (refusal_of t.0) ≡ t.0) × AllNamed ts

pub named_append : (ts us : List (ℕ × Bool)) → AllNamed ts → AllNamed us → AllNamed (ts ++ us)
named_append [] us n m = m
named_append (t ∷ ts) us n m = (n.0, named_append ts us n.1 m)

pub fault_named : (ts : List (ℕ × Bool)) → AllNamed ts → (first_fault ts ≡ 0 → ⊥) → refusal_number (refusal_of (first_fault ts)) ≡ first_fault ts
unfolding first_fault
fault_named [] n z = absurd (z refl)
fault_named ((k, true) ∷ ts) n z = n.0
fault_named ((k, false) ∷ ts) n z = fault_named ts n.1 z

-- the opening's list
pub string_named : (s f : List ℕ) → AllNamed (string_faults s f)
unfolding string_faults map_faults
string_named s f = (refl, (refl, (refl, tt)))

pub text_named : (x : Text) → AllNamed (text_faults x)
unfolding text_faults string_faults map_faults alphabet_faults
text_named x = (refl, (refl, (refl, (refl, (refl, tt)))))

pub opening_named : (x : Text) (l : Limits) → AllNamed (opening_faults x l)
unfolding opening_faults limits_faults
opening_named x l = named_append (text_faults x) (limits_faults l) (text_named x) (refl, (refl, tt))
