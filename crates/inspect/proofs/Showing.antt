-- What is printed of items is the numbers that they are. Assumes nothing.
use mathlib.Core.Path.{◌≡◌, refl, ap₂, subst}
use mathlib.Core.List.{List, [], ◌∷◌, ◌++◌}
use Prim.Native.Nat.{ℕ, ◌+◌, ◌<◌}
use native.Mathlib.Numerals.{add-one}
use lib.ListN.{length, take, get_or}
use lib.Seq.{take-suc}
use Rattle.printing.specs.Printing.{printed}
use Rattle.printing.specs.Pages.{PutOn}
use Rattle.printing.specs.declared.Page.{Page}
use Rattle.inspect.specs.Showing.{Numbers}

module _ {A : Type 0} (is : A → ℕ → Type 0) where
  one_more : (xs : List A) (ns : List ℕ) (x : A) (n : ℕ) → Numbers is xs ns → is x n → Numbers is (xs ++ (x ∷ [])) (ns ++ (n ∷ []))
  one_more [] [] x n p q = (q, tt)
  one_more [] (m ∷ ns) x n p q = absurd p
  one_more (y ∷ xs) [] x n p q = absurd p
  one_more (y ∷ xs) (m ∷ ns) x n p q = (p.0, one_more xs ns x n p.1 q)

  pub numbers_next : (xs : List A) (i : ℕ) (ns : List ℕ) (x : A) (n : ℕ) → i < length xs → x ≡ get_or xs i x → Numbers is (take i xs) ns → is x n → Numbers is (take (i + 1) xs) (ns ++ (n ∷ []))
  numbers_next xs i ns x n h e p q = rw (add-one, take-suc xs i x, ← e) (one_more (take i xs) ns x n p q)

-- items that are numbers already
numbers_same : (xs ns : List ℕ) → Numbers (λ x n. n ≡ x) xs ns → ns ≡ xs
numbers_same [] [] p = refl
numbers_same [] (n ∷ ns) p = absurd p
numbers_same (x ∷ xs) [] p = absurd p
numbers_same (x ∷ xs) (n ∷ ns) p = ap₂ (λ (y : ℕ) (ys : List ℕ). y ∷ ys) p.0 (numbers_same xs ns p.1)

pub put_numbers : (xs : List ℕ) {letter : ℕ} {page page' : Page} → (ns : List ℕ) × Numbers (λ x n. n ≡ x) xs ns × PutOn page (printed letter ns) page' → PutOn page (printed letter xs) page'
put_numbers xs {letter} {page} {page'} p = subst (λ (ns : List ℕ). PutOn page (printed letter ns) page') (numbers_same xs p.0 p.1) p.2
