-- Numbers that say no (01, "Numbers that say no"): a list of refusals is in testing order.
use Rattle.std.specs.Prelude.{◌≡◌, Bool, true, cond, List, [], ◌∷◌, ◌⊎◌, ℕ, eqb, Result, Ok, Err}
use Rattle.terms.specs.declared.refusal.Refusal.{Refusal}
use Rattle.terms.specs.declared.refusal.Refusal.TheVariants.{StringTooLong, MapNot256, MapNotOwnInverse, WrongKind, OutOfRange, NoSuchPlace, AllStand, NoneStands, NoneTakenBack, NoTiling, TableTooShort, RoomTooShort, NotUnderstood, NoSheet, NoWholeRecord, WrongRecord, NotATiling, AlphabetNotClosed, OutsideAlphabet, NoCapital, OutOfBounds}

-- The number of each.
abbrev pub refusal_number : Refusal → ℕ
refusal_number StringTooLong = 1
refusal_number MapNot256 = 2
refusal_number MapNotOwnInverse = 3
refusal_number WrongKind = 4
refusal_number OutOfRange = 5
refusal_number NoSuchPlace = 6
refusal_number AllStand = 7
refusal_number NoneStands = 8
refusal_number NoneTakenBack = 9
refusal_number NoTiling = 10
refusal_number TableTooShort = 11
refusal_number RoomTooShort = 12
refusal_number NotUnderstood = 13
refusal_number NoSheet = 14
refusal_number NoWholeRecord = 15
refusal_number WrongRecord = 16
refusal_number NotATiling = 17
refusal_number AlphabetNotClosed = 18
refusal_number OutsideAlphabet = 19
refusal_number NoCapital = 20
refusal_number OutOfBounds = 24

-- The refusal that a number names; of a number that names none, the last one's, 24. `terms/proofs/Named` shows that the lists of faults have none such.
abbrev pub refusal_of : ℕ → Refusal
refusal_of k =
    cond (eqb k 1) StringTooLong (
    cond (eqb k 2) MapNot256 (
    cond (eqb k 3) MapNotOwnInverse (
    cond (eqb k 4) WrongKind (
    cond (eqb k 5) OutOfRange (
    cond (eqb k 6) NoSuchPlace (
    cond (eqb k 7) AllStand (
    cond (eqb k 8) NoneStands (
    cond (eqb k 9) NoneTakenBack (
    cond (eqb k 10) NoTiling (
    cond (eqb k 11) TableTooShort (
    cond (eqb k 12) RoomTooShort (
    cond (eqb k 13) NotUnderstood (
    cond (eqb k 14) NoSheet (
    cond (eqb k 15) NoWholeRecord (
    cond (eqb k 16) WrongRecord (
    cond (eqb k 17) NotATiling (
    cond (eqb k 18) AlphabetNotClosed (
    cond (eqb k 19) OutsideAlphabet (
    cond (eqb k 20) NoCapital (OutOfBounds))))))))))))))))))))

-- The number that a call answers: its refusal's, 0 where it is not refused.
abbrev pub fault_of : {A : Type 0} → Result A Refusal → ℕ
fault_of (Ok a) = 0
fault_of (Err e) = refusal_number e

-- Each refusal's number with its test: the number of the first test that holds, 0 where none does.
unfoldable pub first_fault : List (ℕ × Bool) → ℕ
first_fault [] = 0
first_fault (t ∷ ts) = cond t.1 t.0 (first_fault ts)

-- The same where a fault is no mere test: k is the number of the first fault that holds, 0 where none does.
abbrev pub FirstFault : List (ℕ × Type 0) → ℕ → Type 0
FirstFault [] k = k ≡ 0
FirstFault (t ∷ ts) k = (t.1 × (k ≡ t.0)) ⊎ ((t.1 → ⊥) × FirstFault ts k)

-- Tests as faults.
abbrev pub tested : List (ℕ × Bool) → List (ℕ × Type 0)
tested [] = []
tested (t ∷ ts) = (t.0, t.1 ≡ true) ∷ tested ts

-- k is one of the numbers listed.
abbrev pub OneOf : ℕ → List ℕ → Type 0
OneOf k [] = ⊥
OneOf k (n ∷ ns) = (k ≡ n) ⊎ OneOf k ns
