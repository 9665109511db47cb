-- Two tests together, and a test at each number below a bound. Assumes nothing.
use mathlib.Core.Path.{◌≡◌, refl, sym, ap, ◌∙◌}
use mathlib.Core.Bool.{Bool, true, false, ◌&&◌, ◌||◌}
use mathlib.Core.Logic.{⊎_elim}
use Prim.Native.Nat.{ℕ, zero, suc, ◌+◌, ◌<◌, ◌≤◌}
use native.Mathlib.Numerals.{add-one}
use native.Mathlib.Omega.{arith}
use Rattle.terms.specs.Maps.{every_below}
use Rattle.terms.specs.Alphabets.{some_below}
use Rattle.terms.proofs.Order.{le_or_lt}

-- both tests pass, or one of them does not
pub and_yes : (a b : Bool) → a ≡ true → b ≡ true → (a && b) ≡ true
and_yes a b p q = simp (p, q)

pub and_left : (a b : Bool) → (a && b) ≡ true → a ≡ true
and_left true b e = refl
and_left false b e = e

pub and_right : (a b : Bool) → (a && b) ≡ true → b ≡ true
and_right true b e = e
and_right false b e = let z : true ≡ false = sym e in cc

and_not : (a b : Bool) → b ≡ false → (a && b) ≡ false
and_not true b e = e
and_not false b e = refl

-- neither of two tests passes
pub or_left : (a b : Bool) → (a || b) ≡ false → a ≡ false
or_left true b e = e
or_left false b e = refl

pub or_right : (a b : Bool) → (a || b) ≡ false → b ≡ false
or_right true b e = let z : true ≡ false = e in cc
or_right false b e = e

or_yes : (a b : Bool) → b ≡ true → (a || b) ≡ true
or_yes true b e = refl
or_yes false b e = e

module _ (p : ℕ → Bool) where
  pub below_zero : every_below 0 p ≡ true
  unfolding every_below
  below_zero = refl

  pub below_more : (k : ℕ) → every_below k p ≡ true → p k ≡ true → every_below (k + 1) p ≡ true
  unfolding every_below
  below_more k a h = rw add-one (and_yes (p k) (every_below k p) h a)

  pub below_not : (n k : ℕ) → k < n → p k ≡ false → every_below n p ≡ false
  unfolding every_below
  below_not zero k l e = absurd (omega arith)
  below_not (suc n) k l e =
      ⊎_elim
      (λ (h : n ≤ k). let q : n ≡ k = omega arith in let z : p n ≡ false = ap p q ∙ e in simp z)
      (λ (h : k < n). and_not (p n) (every_below n p) (below_not n k h e))
      (le_or_lt n k)

  pub below_at : (n k : ℕ) → every_below n p ≡ true → k < n → p k ≡ true
  unfolding every_below
  below_at zero k a l = absurd (omega arith)
  below_at (suc n) k a l =
      ⊎_elim
      (λ (h : n ≤ k). let q : k ≡ n = omega arith in ap p q ∙ and_left (p n) (every_below n p) a)
      (λ (h : k < n). below_at n k (and_right (p n) (every_below n p) a) h)
      (le_or_lt n k)

  pub below_all : (k n : ℕ) → every_below k p ≡ true → k ≡ n → every_below n p ≡ true
  below_all k n a e = rw e at a

  pub below_each : (k : ℕ) → ((i : ℕ) → i < k → p i ≡ true) → every_below k p ≡ true
  unfolding every_below
  below_each zero h = refl
  below_each (suc k) h = and_yes (p k) (every_below k p) (h k (omega arith)) (below_each k (λ i l. h i (omega arith)))

  -- a test that passes at some number
  pub some_none : some_below 0 p ≡ false
  unfolding some_below
  some_none = refl

  pub some_not : (k : ℕ) → some_below k p ≡ false → p k ≡ false → some_below (k + 1) p ≡ false
  unfolding some_below
  some_not k a h = rw add-one (simp (h, a))

  pub some_yes : (n k : ℕ) → k < n → p k ≡ true → some_below n p ≡ true
  unfolding some_below
  some_yes zero k l e = absurd (omega arith)
  some_yes (suc n) k l e =
      ⊎_elim
      (λ (h : n ≤ k). let q : n ≡ k = omega arith in let z : p n ≡ true = ap p q ∙ e in simp z)
      (λ (h : k < n). or_yes (p n) (some_below n p) (some_yes n k h e))
      (le_or_lt n k)

  pub some_none_of : (k n : ℕ) → some_below k p ≡ false → k ≡ n → some_below n p ≡ false
  some_none_of k n a e = rw e at a
