-- The word of parities of a span: a letter put in before it or taken out behind, and what its count of ones says of the span. Assumes nothing.
use native.Mathlib.Decide.{ℕ_discrete}
use borrow.Author.Tests.{le-leb}
use lib.Count.{ones}
use Rattle.std.proofs.Common.{◌≡◌, refl, sym, ap, ◌∙◌, subst, true, ◌&&◌, List, ℕ, zero, suc, ◌+◌, ◌-◌, ◌%◌, ◌^◌, ◌≤◌, ◌<◌, arith, length, leb, leb-true, eqb, eq-eqb, ne_eqb, bit_xor}
use Rattle.std.proofs.lemmas.Bool.{and_parts}
use Rattle.std.proofs.lemmas.Nat.Bits.{bit_at_xor, bit_at-zero, bit_at-pow_same, bit_at-pow_other}
use Rattle.std.specs.Int.{bit_at}
use Rattle.terms.proofs.Below.{below_at}
use Rattle.spans.specs.Palindromes.{letter, one, count}
use Rattle.shuffled.specs.Shuffled.{occurs, Shuffled, capital, capitals}
use Rattle.shuffled.specs.Work.{ParityWord}
use Rattle.shuffled.proofs.Words.{two_set, same_few}

-- Every letter is one of A to Z.
pub capital_at : (s : List ℕ) → capitals s ≡ true → (k : ℕ) → k < length s → (65 ≤ letter s k) × (letter s k ≤ 90)
unfolding capitals capital
capital_at s h k l =
    let t = and_parts _ _ (below_at (λ i. leb 65 (letter s i) && leb (letter s i) 90) (length s) k h l) in
    (leb-true _ _ t.0, leb-true _ _ t.1)

-- How often a byte occurs: in no letters, with one more behind, with one more before.
module _ (s : List ℕ) (a b : ℕ) where
  pub occurs_none : occurs s a 0 b ≡ 0
  unfolding occurs count
  occurs_none = refl

  pub occurs_behind : (L : ℕ) → occurs s a (suc L) b ≡ one (eqb (letter s (a + L)) b) + occurs s a L b
  unfolding occurs count
  occurs_behind L = refl

  pub occurs_before : (L : ℕ) → occurs s a (suc L) b ≡ one (eqb (letter s a) b) + occurs s (suc a) L b
  unfolding occurs count
  occurs_before zero = let i : a + 0 ≡ a = omega arith in ap (λ (k : ℕ). one (eqb (letter s k) b) + 0) i
  occurs_before (suc L) = let i : a + suc L ≡ suc a + L = omega arith in omega (arith, occurs_before L, ap (λ (k : ℕ). one (eqb (letter s k) b)) i)

pub one_other : (x b : ℕ) → (x ≡ b → ⊥) → one (eqb x b) ≡ 0
unfolding one
one_other x b n = ap one (ne_eqb x b n)

-- Below A no byte occurs.
occurs_low : (s : List ℕ) (a L b : ℕ) → ((k : ℕ) → k < L → 65 ≤ letter s (a + k)) → b < 65 → occurs s a L b ≡ 0
occurs_low s a zero b low o = occurs_none s a b
occurs_low s a (suc L) b low o =
    omega (arith, occurs_behind s a b L, one_other (letter s (a + L)) b (λ e. omega (arith, low L (omega arith))), occurs_low s a L b (λ k l. low k (omega arith)) o)

-- The bit of the letter x, and no other, is set in its power of two.
own_bit : (x c : ℕ) → 65 ≤ x → bit_at (2 ^ (x - 65)) c ≡ one (eqb x (65 + c))
unfolding one
own_bit x c low =
    elim (ℕ_discrete c (x - 65)) [
      | yes e ↦ ap (bit_at (2 ^ (x - 65))) e ∙ bit_at-pow_same (x - 65) ∙ sym (ap one (eq-eqb x (65 + c) (omega arith)))
      | no n ↦ bit_at-pow_other (x - 65) c n ∙ sym (one_other x (65 + c) (λ e. n (omega arith)))
    ]

-- The letter x turns its own parity round, from the counts f to the counts g, and its bit alone.
word_turned :
    (f g : ℕ → ℕ) (x w : ℕ) → 65 ≤ x → ((b : ℕ) → g b % 2 ≡ (one (eqb x b) + f b) % 2) → ((c : ℕ) → bit_at w c ≡ f (65 + c) % 2)
    → (c : ℕ) → bit_at (bit_xor w (2 ^ (x - 65))) c ≡ g (65 + c) % 2
word_turned f g x w low turn h c = bit_at_xor w (2 ^ (x - 65)) c ∙ omega (arith, own_bit x c low, turn (65 + c), h c)

-- Behind the last letter there are none, and the word is 0.
pub word_end : (s : List ℕ) → ParityWord s (length s) (length s - length s) 0
word_end s c = let e : length s - length s ≡ 0 = omega arith in rw (e, occurs_none s (length s) (65 + c)) (bit_at-zero c)

-- The span from a up to n.
module _ (s : List ℕ) (a n : ℕ) where
  -- with the letter before it
  pub word_before : (w : ℕ) → 0 < a → a ≤ n → 65 ≤ letter s (a - 1) → ParityWord s a (n - a) w → ParityWord s (a - 1) (n - (a - 1)) (bit_xor w (2 ^ (letter s (a - 1) - 65)))
  word_before w z o low =
      word_turned (occurs s a (n - a)) (occurs s (a - 1) (n - (a - 1))) (letter s (a - 1)) w low
      (λ b.
      let l : n - (a - 1) ≡ suc (n - a) = omega arith in
      let i : suc (a - 1) ≡ a = omega arith in
      cc (occurs_before s (a - 1) b (n - a)))

  -- without its last letter
  pub word_without : (w : ℕ) → a < n → 65 ≤ letter s (n - 1) → ParityWord s a (n - a) w → ParityWord s a (n - 1 - a) (bit_xor w (2 ^ (letter s (n - 1) - 65)))
  word_without w o low =
      word_turned (occurs s a (n - a)) (occurs s a (n - 1 - a)) (letter s (n - 1)) w low
      (λ b.
      let l : n - a ≡ suc (n - 1 - a) = omega arith in
      let i : a + (n - 1 - a) ≡ n - 1 = omega arith in
      let m : occurs s a (n - a) b ≡ one (eqb (letter s (n - 1)) b) + occurs s a (n - 1 - a) b = cc (occurs_behind s a b (n - 1 - a)) in omega arith)

-- What the count of ones says.
module _ (s : List ℕ) (a L w : ℕ) (p : ParityWord s a L w) where
  pub passes : capitals s ≡ true → 1 ≤ L → a + L ≤ length s → leb (ones w) 1 ≡ true → Shuffled s a L
  passes all some inside t =
      let few : ones w ≤ 1 = leb-true _ _ t in
      record { some = some; inside = inside; single = λ b c p q. grind (arith, two_set w (b - 65) (c - 65), two_set w (c - 65) (b - 65), set b p, set c q) }
    where
      set : (b : ℕ) → occurs s a L b % 2 ≡ 1 → (65 ≤ b) × (bit_at w (b - 65) ≡ 1)
      set b o =
          let low : 65 ≤ b = grind (arith, occurs_low s a L b (λ k h. (capital_at s all (a + k) (omega arith)).0)) in
          let e : 65 + (b - 65) ≡ b = omega arith in
          (low, p (b - 65) ∙ ap (λ (n : ℕ). occurs s a L n % 2) e ∙ o)

  pub passing : Shuffled s a L → leb (ones w) 1 ≡ true
  passing h = le-leb _ _ (same_few w (λ b c ob oc. omega (arith, h.single (65 + b) (65 + c) (sym (p b) ∙ ob) (sym (p c) ∙ oc))))

  -- where it fails, a length that passes and is at most L is less
  pub fails : 1 < ones w → (M : ℕ) → Shuffled s a M → M ≤ L → M < L
  fails many M h most = let n : M ≡ L → ⊥ = λ e. omega (arith, leb-true _ _ (passing (subst (Shuffled s a) e h))) in omega arith
