-- What is answered of a centre rests on the letters of its span and of the pair that blocks it. Assumes nothing.
use mathlib.Core.Path.{◌≡◌, sym, ◌∙◌, subst}
use mathlib.Core.List.{List}
use mathlib.Core.Logic.{◌⊎◌, inl}
use Prim.Native.Nat.{ℕ, zero, suc, ◌+◌, ◌-◌, ◌≤◌, ◌<◌}
use native.Mathlib.Omega.{arith}
use lib.ListN.{length}
use Rattle.terms.specs.Texts.{text}
use Rattle.spans.specs.Palindromes.{letter, error_count, centres, MaximalLength}
use Rattle.spans.specs.Stops.{Blocks, Ends, Stops}
use Rattle.spans.specs.declared.outward.Stop.{Stop}
use Rattle.spans.specs.declared.outward.Stop.TheVariants.{Pair, End, Barred}
use Rattle.spans.proofs.Counting.{errors_none, errors_one, errors_two}
use Rattle.spans.proofs.Walking.{longest_unique, barred}
use Rattle.stops.specs.Laws.{InSpan, InPair}
use Rattle.stops.proofs.Lengths.{edge, pair_length, end_length}

-- The error count of a span rests on its letters.
pub errors_local : (s t f : List ℕ) (a L : ℕ) → ((k : ℕ) → a ≤ k → k < a + L → letter s k ≡ letter t k) → error_count s f a L ≡ error_count t f a L
errors_local s t f a zero h = errors_none s f a ∙ sym (errors_none t f a)
errors_local s t f a (suc zero) h = grind (arith, errors_one)
errors_local s t f a (suc (suc L)) h = grind (arith, errors_two, errors_local s t f (suc a) L (λ k p q. h k (omega arith) (omega arith)))

-- Two strings of as many letters, with one map and one alphabet.
module _ (s t f z : List ℕ) (long : length t ≡ length s) (d c : ℕ) where
  abbrev Agree : ℕ → ℕ → Type 0
  Agree a L = (k : ℕ) → a ≤ k → k < a + L → letter s k ≡ letter t k

  few_local : (a L : ℕ) → Agree a L → error_count s f a L ≤ d → error_count t f a L ≤ d
  few_local a L h e = omega (arith, errors_local s t f a L h)

  -- a pair blocks where the letters from it inward are the same
  blocks_local : (i j : ℕ) → Agree i (j + 1 - i) → Blocks (text s f z) d c i j → Blocks (text t f z) d c i j
  blocks_local i j h b =
      record {
        pair = b.pair;
        order = b.order;
        inside = omega arith;
        over = omega (arith, b.over, errors_local s t f i (j + 1 - i) h);
        first = λ a L some at l. few_local a L (λ k p q. h k (omega arith) (omega arith)) (b.first a L some at l);
      }

  -- within a pair that blocks lie the span and the pair
  pair_agree : (i j L : ℕ) → i + j ≡ c → i ≤ j → L ≡ j - i - 1 → ((k : ℕ) → InSpan c L k ⊎ InPair (Pair i j) k → letter t k ≡ letter s k) → Agree i (j + 1 - i)
  pair_agree i j L e o q h k p l = sym (h k (grind (arith, between)))
    where
      between : i < k → k < j → InSpan c L k
      between u v = (suc i, omega arith, omega arith, omega arith)

  -- What is answered of the one is answered of the other, where the letters of the span and of the pair are the same.
  pub stays :
      c < centres (length s) → (L : ℕ) (stop : Stop) → MaximalLength (text s f z) d c L → Stops (text s f z) d c stop
      → ((k : ℕ) → InSpan c L k ⊎ InPair stop k → letter t k ≡ letter s k) → MaximalLength (text t f z) d c L × Stops (text t f z) d c stop
  stays r L (Pair i j) m w h =
      let q : L ≡ j - i - 1 = longest_unique m (pair_length (text s f z) d c i j w.1 w.0) in
      let b = blocks_local i j (pair_agree i j L w.1.pair w.1.order q h) w.1 in
      (rw q (pair_length (text t f z) d c i j b w.0), (w.0, b))
  stays r L End m w h =
      let q : L ≡ c + 1 - (edge (length s) c + edge (length s) c) = longest_unique m (end_length (text s f z) d c w.0 w.1 r) in
      let p : c + 1 - (edge (length t) c + edge (length t) c) ≡ L = omega arith in
      let e : Ends (text t f z) d c = λ b M some i at.
      few_local b M (λ k u v. sym (h k (inl (edge (length s) c, omega arith, omega arith, omega arith)))) (w.1 b M some (omega arith) at)
      in
      (subst (MaximalLength (text t f z) d c) p (end_length (text t f z) d c w.0 e (omega arith)), (w.0, e))
  stays r L Barred m w h =
      let q : L ≡ 0 = longest_unique m (barred (text s f z) d c w.0 w.1) in
      (rw q (barred (text t f z) d c w.0 w.1), w)
