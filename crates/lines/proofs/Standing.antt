-- A byte, and a digit, at a place of a line: what each test tells, and what it says where the line is known. Assumes nothing.
use mathlib.Core.Path.{◌≡◌, refl, sym, ap, ap₂, ◌∙◌, subst}
use mathlib.Core.Bool.{Bool, true, false, cond}
use mathlib.Core.List.{List, ◌∷◌}
use Prim.Native.Nat.{ℕ, suc, ◌+◌, ◌-◌, ◌≤◌, ◌<◌}
use native.Mathlib.Omega.{arith}
use native.Mathlib.Numerals.{add-one}
use native.Mathlib.Decide.{dec_le}
use borrow.Author.Tests.{ltb-true, leb-true, eqb-true, lt-ltb, le-ltb, le-leb, eq-eqb, ne_eqb}
use lib.Dec.{T, ltb, leb, eqb}
use lib.ListN.{length, get_or, drop, length-drop}
use lib.Seq.{drop-cons, get_or-drop}
use Rattle.std.specs.Prelude.{Option, Some, None}
use Rattle.lines.specs.Work.{stands, digit_at, with_both}

-- by a test, with its answer at hand
pub by_test {ℓ} : {A : Type ℓ} (P : A → Type 0) (t : Bool) (x y : A) → (t ≡ true → P x) → (t ≡ false → P y) → P (cond t x y)
by_test P true x y p q = p refl
by_test P false x y p q = q refl

-- by what was read, with what is known of it at hand
pub both_lem : {A B C : Type 0} (S : Option (A × B) → Type 0) (P : Option C → Type 0) (r : Option (A × B)) (then : A → B → Option C) → S r → P None
    → ((a : A) (b : B) → S (Some (a, b)) → P (then a b)) → P (with_both r then)
both_lem S P None then s p q = p
both_lem S P (Some r) then s p q = q r.0 r.1 s

-- a test of which both parts passed
both : (a b : Bool) → cond a b false ≡ true → (a ≡ true) × (b ≡ true)
both true b h = (refl, h)
both false b h = absurd (subst T (sym h) tt)

-- a place is in the line where what is left there begins with a byte
pub place_in : (xs : List ℕ) (i b : ℕ) (ys : List ℕ) → drop i xs ≡ b ∷ ys → i < length xs
place_in xs i b ys e = let h : length xs - i ≡ suc (length ys) = sym (length-drop i xs) ∙ ap length e in omega arith

pub place_byte : (xs : List ℕ) (i b : ℕ) (ys : List ℕ) → drop i xs ≡ b ∷ ys → get_or xs i 0 ≡ b
place_byte xs i b ys e =
    let z : i + 0 ≡ i = omega arith in
    rw z at (sym (get_or-drop i xs 0 0)) ∙ ap (λ (l : List ℕ). get_or l 0 0) e

module _ (xs : List ℕ) (i b : ℕ) where
  pub stands_in : stands xs i b ≡ true → i < length xs
  unfolding stands
  stands_in h = ltb-true i (length xs) (both (ltb i (length xs)) (eqb (get_or xs i 0) b) h).0

  pub stands_drop : stands xs i b ≡ true → drop i xs ≡ b ∷ drop (i + 1) xs
  unfolding stands
  stands_drop h =
      let e : get_or xs i 0 ≡ b = eqb-true (get_or xs i 0) b (both (ltb i (length xs)) (eqb (get_or xs i 0) b) h).1 in
      drop-cons xs i 0 (stands_in h) ∙ ap₂ (λ (y k : ℕ). y ∷ drop k xs) e (sym (add-one i))

  module _ (c : ℕ) (ys : List ℕ) (e : drop i xs ≡ c ∷ ys) where
    pub stands_yes : c ≡ b → stands xs i b ≡ true
    unfolding stands
    stands_yes q = simp (lt-ltb _ _ (place_in xs i c ys e), eq-eqb _ _ (place_byte xs i c ys e ∙ q))

    pub stands_no : (c ≡ b → ⊥) → stands xs i b ≡ false
    unfolding stands
    stands_no n = simp (lt-ltb _ _ (place_in xs i c ys e), ne_eqb _ _ (λ q. n (sym (place_byte xs i c ys e) ∙ q)))

-- a digit that is there
module _ (xs : List ℕ) (i : ℕ) where
  Known : Option ℕ → Type 0
  Known None = Unit {0}
  Known (Some v) = (v ≤ 9) × (i < length xs) × (get_or xs i 0 ≡ 48 + v)

  digit_known : Known (digit_at xs i)
  unfolding digit_at Known
  digit_known =
      let x : ℕ = get_or xs i 0 in
      by_test Known (ltb i (length xs)) _ _
      (λ a. by_test Known (leb 48 x) _ _
      (λ b. by_test Known (leb x 57) _ _ (λ c. (omega (arith, leb-true x 57 c), ltb-true _ _ a, omega (arith, leb-true 48 x b))) (λ c. tt))
      (λ b. tt))
      (λ a. tt)

  module _ (v : ℕ) (e : digit_at xs i ≡ Some v) where
    known : (v ≤ 9) × (i < length xs) × (get_or xs i 0 ≡ 48 + v)
    unfolding Known
    known = subst Known e digit_known

    pub digit_most : v ≤ 9
    digit_most = known.0

    pub digit_in : i < length xs
    digit_in = known.1

    pub digit_drop : drop i xs ≡ (48 + v) ∷ drop (i + 1) xs
    digit_drop = drop-cons xs i 0 known.1 ∙ ap₂ (λ (y k : ℕ). y ∷ drop k xs) known.2 (sym (add-one i))

-- the digit k places on is that of what is left
pub digit_on : (xs : List ℕ) (i k : ℕ) → digit_at xs (i + k) ≡ digit_at (drop i xs) k
unfolding digit_at
digit_on xs i k =
    let l : length (drop i xs) ≡ length xs - i = length-drop i xs in
    elim (dec_le (length xs) (i + k)) [
      | yes h ↦ rw (le-ltb (i + k) (length xs) h, le-ltb k (length (drop i xs)) (omega arith))
      | no h ↦ rw (get_or-drop i xs k 0, lt-ltb (i + k) (length xs) (omega arith), lt-ltb k (length (drop i xs)) (omega arith))
    ]

-- the first digit of a text that begins with one
pub digit_head : (a : ℕ) (ys : List ℕ) → a ≤ 9 → digit_at ((48 + a) ∷ ys) 0 ≡ Some a
unfolding digit_at
digit_head a ys h =
    rw (lt-ltb 0 (suc (length ys)) (omega arith), le-leb 48 (48 + a) (omega arith), le-leb (48 + a) 57 (omega arith)) (ap Some (omega arith))
