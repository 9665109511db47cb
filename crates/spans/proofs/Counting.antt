-- The error count of a span, from the outermost pair inward, and along a centre. Assumes nothing.
use mathlib.Core.Path.{◌≡◌, refl, ap, ap₂, ◌∙◌}
use mathlib.Core.Bool.{Bool, false, ◌&&◌}
use mathlib.Core.List.{List}
use Prim.Native.Nat.{ℕ, zero, suc, ◌+◌, ◌-◌, ◌/◌, ◌%◌, ◌≤◌, ◌<◌}
use native.Mathlib.Omega.{arith}
use native.Mathlib.Nat.{add-zero}
use borrow.Author.Tests.{lt-ltb, le-ltb}
use lib.Dec.{ltb, eqb, leb-suc-suc}
use Rattle.spans.specs.Palindromes.{differs, one, count, wrong_pair, wrong_middle, error_count}

pub count_shift : (p : ℕ → Bool) (n : ℕ) → count p (suc n) ≡ one (p 0) + count (λ k. p (suc k)) n
unfolding count
count_shift p zero = refl
count_shift p (suc n) = let h : count p (suc n) ≡ one (p 0) + count (λ k. p (suc k)) n = count_shift p n in omega arith

pub count_ext : (p q : ℕ → Bool) (n : ℕ) → ((k : ℕ) → k < n → p k ≡ q k) → count p n ≡ count q n
unfolding count
count_ext p q zero h = refl
count_ext p q (suc n) h =
    ap₂ (λ (a b : ℕ). a + b) (ap one (h n (omega arith))) (count_ext p q n (λ k l. h k (omega arith)))

module _ (s f : List ℕ) (a L : ℕ) where
  -- the last k pairs with nothing
  last : wrong_pair s f a (suc (suc L)) (suc L) ≡ false
  unfolding wrong_pair
  last = ap (λ (t : Bool). t && (differs s f (a + suc L) (a + (suc (suc L) - 1 - suc L)))) (le-ltb (suc L) (suc (suc L) - 1 - suc L) (omega arith))

  -- the first is the outermost pair
  outer : wrong_pair s f a (suc (suc L)) 0 ≡ differs s f a (a + suc L)
  unfolding wrong_pair
  outer =
      ap (λ (t : Bool). t && (differs s f (a + 0) (a + (suc (suc L) - 1 - 0)))) (lt-ltb 0 (suc (suc L) - 1 - 0) (omega arith))
      ∙ ap₂ (λ (i j : ℕ). differs s f i j) (omega arith) (omega arith)

  -- the others are those of the span within
  inner : (k : ℕ) → k < L → wrong_pair s f a (suc (suc L)) (suc k) ≡ wrong_pair s f (suc a) L k
  unfolding wrong_pair
  inner k h =
      ap₂ ◌&&◌
      (ap (ltb (suc k)) e ∙ leb-suc-suc (suc k) (L - 1 - k))
      (ap₂ (λ (i j : ℕ). differs s f i j) (omega arith) (omega arith))
    where
      e : suc (suc L) - 1 - suc k ≡ suc (L - 1 - k)
      e = omega arith

  middle : wrong_middle s f a (suc (suc L)) ≡ wrong_middle s f (suc a) L
  unfolding wrong_middle
  middle =
      let e : suc (suc L) % 2 ≡ L % 2 = omega arith in
      let h : a + suc (suc L) / 2 ≡ suc a + L / 2 = omega arith in
      ap₂ ◌&&◌ (ap (λ (t : ℕ). eqb t 1) e) (ap (λ (i : ℕ). differs s f i i) h)

  pub errors_two : error_count s f a (suc (suc L)) ≡ one (differs s f a (a + suc L)) + error_count s f (suc a) L
  unfolding error_count count one
  errors_two =
      let h1 : one (wrong_pair s f a (suc (suc L)) (suc L)) ≡ 0 = ap one last in
      let h2 : one (wrong_pair s f a (suc (suc L)) 0) ≡ one (differs s f a (a + suc L)) = ap one outer in
      let h3 : count (λ k. wrong_pair s f a (suc (suc L)) (suc k)) L ≡ count (wrong_pair s f (suc a) L) L = count_ext _ _ L inner in
      let h4 : one (wrong_middle s f a (suc (suc L))) ≡ one (wrong_middle s f (suc a) L) = ap one middle in
      let h5 : count (wrong_pair s f a (suc (suc L))) (suc L) ≡ one (wrong_pair s f a (suc (suc L)) 0) + count (λ k. wrong_pair s f a (suc (suc L)) (suc k)) L = count_shift (wrong_pair s f a (suc (suc L))) L in
      omega arith

pub errors_none : (s f : List ℕ) (a : ℕ) → error_count s f a 0 ≡ 0
unfolding error_count count wrong_middle one
errors_none s f a = refl

pub errors_one : (s f : List ℕ) (a : ℕ) → error_count s f a 1 ≡ one (differs s f a a)
unfolding error_count count wrong_middle wrong_pair one
errors_one s f a = let e : one (differs s f (a + 0) (a + 0)) ≡ one (differs s f a a) = ap (λ (i : ℕ). one (differs s f i i)) (add-zero a) in omega arith

-- The error count of the span from i of the centre c, whose pairs are (i, c - i). A span that would have less than no letter has none.
abbrev pub from : List ℕ → List ℕ → ℕ → ℕ → ℕ
from s f c i = error_count s f i (c + 1 - (i + i))

-- One pair further out.
pub from_step : (s f : List ℕ) (c i : ℕ) → i + i ≤ c → from s f c i ≡ one (differs s f i (c - i)) + from s f c (suc i)
from_step s f c i h = go (c - (i + i)) (omega arith)
  where
    go : (w : ℕ) → w + (i + i) ≡ c → from s f c i ≡ one (differs s f i (c - i)) + from s f c (suc i)
    go zero e =
        let l : c + 1 - (i + i) ≡ 1 = omega arith in
        let l' : c + 1 - (suc i + suc i) ≡ 0 = omega arith in
        let r : c - i ≡ i = omega arith in
        let p : error_count s f i (c + 1 - (i + i)) ≡ one (differs s f i i) = ap (error_count s f i) l ∙ errors_one s f i in
        let p' : error_count s f (suc i) (c + 1 - (suc i + suc i)) ≡ 0 = ap (error_count s f (suc i)) l' ∙ errors_none s f (suc i) in
        let q : one (differs s f i (c - i)) ≡ one (differs s f i i) = ap (λ (j : ℕ). one (differs s f i j)) r in
        omega arith
    go (suc w) e =
        let l : c + 1 - (i + i) ≡ suc (suc w) = omega arith in
        let l' : c + 1 - (suc i + suc i) ≡ w = omega arith in
        let r : c - i ≡ i + suc w = omega arith in
        let p : error_count s f i (c + 1 - (i + i)) ≡ one (differs s f i (i + suc w)) + error_count s f (suc i) w = ap (error_count s f i) l ∙ errors_two s f i w in
        let p' : error_count s f (suc i) (c + 1 - (suc i + suc i)) ≡ error_count s f (suc i) w = ap (error_count s f (suc i)) l' in
        let q : one (differs s f i (c - i)) ≡ one (differs s f i (i + suc w)) = ap (λ (j : ℕ). one (differs s f i j)) r in
        omega arith

-- Further out there are no fewer errors.
pub from_mono : (s f : List ℕ) (c i k : ℕ) → i + k + (i + k) ≤ c + 2 → from s f c (i + k) ≤ from s f c i
from_mono s f c i zero h = let e : from s f c (i + 0) ≡ from s f c i = ap (from s f c) (add-zero i) in omega arith
from_mono s f c i (suc k) h =
    let e : from s f c (i + suc k) ≡ from s f c (suc i + k) = ap (from s f c) (omega arith) in
    let o : from s f c i ≡ one (differs s f i (c - i)) + from s f c (suc i) = from_step s f c i (omega arith) in
    let r : from s f c (suc i + k) ≤ from s f c (suc i) = from_mono s f c (suc i) k (omega arith) in
    omega arith

-- From the outermost pair inward.
pub errors_inward : (s f : List ℕ) (a L : ℕ) → 1 < L → error_count s f a L ≡ one (differs s f a (a + L - 1)) + error_count s f (a + 1) (L - 2)
errors_inward s f a zero h = absurd (omega arith)
errors_inward s f a (suc zero) h = absurd (omega arith)
errors_inward s f a (suc (suc L)) h =
    let e : error_count s f a (suc (suc L)) ≡ one (differs s f a (a + suc L)) + error_count s f (suc a) L = errors_two s f a L in
    let p : one (differs s f a (a + suc L)) ≡ one (differs s f a (a + suc (suc L) - 1)) = ap (λ (j : ℕ). one (differs s f a j)) (let u : a + suc L ≡ a + suc (suc L) - 1 = omega arith in u) in
    let q : error_count s f (suc a) L ≡ error_count s f (a + 1) (suc (suc L) - 2) = ap₂ (error_count s f) (let u : suc a ≡ a + 1 = omega arith in u) (let u : L ≡ suc (suc L) - 2 = omega arith in u) in
    omega arith

-- The walk inward ends at one letter, or at none.
pub inward_one : (s f : List ℕ) (a m L e t w : ℕ) → e + error_count s f a L ≡ t → L ≡ 1 → a ≡ m → w ≡ one (differs s f m m) → e + w ≡ t
inward_one s f a m L e t w h l r q =
    let p : error_count s f a L ≡ one (differs s f a a) = ap (error_count s f a) l ∙ errors_one s f a in
    let i : one (differs s f a a) ≡ one (differs s f m m) = ap (λ (j : ℕ). one (differs s f j j)) r in
    omega arith

pub inward_none : (s f : List ℕ) (a L e t : ℕ) → e + error_count s f a L ≡ t → L ≡ 0 → e ≡ t
inward_none s f a L e t h l = let p : error_count s f a L ≡ 0 = ap (error_count s f a) l ∙ errors_none s f a in omega arith

-- One pair further in: k pairs are counted.
pub inward_step : (s f : List ℕ) (a L k e t w : ℕ) → e + error_count s f (a + k) (L - (k + k)) ≡ t → k < L / 2 → w ≡ one (differs s f (a + k) (a + L - 1 - k)) → e + w + error_count s f (a + (k + 1)) (L - (k + 1 + (k + 1))) ≡ t
inward_step s f a L k e t w h l q =
    let p : error_count s f (a + k) (L - (k + k)) ≡ one (differs s f (a + k) (a + k + (L - (k + k)) - 1)) + error_count s f (a + k + 1) (L - (k + k) - 2) = errors_inward s f (a + k) (L - (k + k)) (omega arith) in
    let i : one (differs s f (a + k) (a + k + (L - (k + k)) - 1)) ≡ one (differs s f (a + k) (a + L - 1 - k)) = ap (λ (j : ℕ). one (differs s f (a + k) j)) (omega arith) in
    let j : error_count s f (a + k + 1) (L - (k + k) - 2) ≡ error_count s f (a + (k + 1)) (L - (k + 1 + (k + 1))) = ap₂ (error_count s f) (omega arith) (omega arith) in
    omega arith
