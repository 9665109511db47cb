-- What the answer of a test tells. Assumes nothing.
use mathlib.Core.Path.{◌≡◌, refl, sym, subst}
use mathlib.Core.Bool.{Bool, true, false}
use Prim.Native.Nat.{ℕ, ◌≤◌, ◌<◌}
use native.Mathlib.Omega.{arith}
use borrow.Author.Tests.{leb-true, leb-false, eqb-true, eqb-false}
use lib.Dec.{T, leb, eqb}
use Rattle.terms.specs.Tells.{Tells}

pub told_yes : (b : Bool) (P : Type 0) → Tells b P → b ≡ true → P
unfolding Tells
told_yes true P h e = h
told_yes false P h e = absurd (subst (λ (t : Bool). T t) (sym e) tt)

pub told_no : (b : Bool) (P : Type 0) → Tells b P → b ≡ false → P → ⊥
unfolding Tells
told_no true P h e = absurd (subst (λ (t : Bool). T t) e tt)
told_no false P h e = h

pub tells_iff : (t : Bool) (P Q : Type 0) → Tells t Q → (Q → P) → (P → Q) → Tells t P
unfolding Tells
tells_iff true P Q h to from = to h
tells_iff false P Q h to from = λ p. h (from p)

-- The two tests of numbers.
pub tells_leb : (a b : ℕ) → Tells (leb a b) (a ≤ b)
unfolding Tells
tells_leb a b = go (leb a b) refl
  where
    go : (t : Bool) → leb a b ≡ t → Tells t (a ≤ b)
    go true e = leb-true a b e
    go false e = λ h. let k : b < a = leb-false a b e in omega arith

pub tells_eqb : (a b : ℕ) → Tells (eqb a b) (a ≡ b)
unfolding Tells
tells_eqb a b = go (eqb a b) refl
  where
    go : (t : Bool) → eqb a b ≡ t → Tells t (a ≡ b)
    go true e = eqb-true a b e
    go false e = eqb-false a b e
