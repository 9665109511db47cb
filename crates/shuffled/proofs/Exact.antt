-- Every exact palindrome under the plain map is a shuffled one: from the outside inward its pairs are equal letters. Assumes nothing.
use native.Mathlib.Decide.{ℕ_discrete}
use Rattle.std.proofs.Common.{◌≡◌, sym, ap, ◌∙◌, List, ℕ, zero, suc, ◌+◌, ◌-◌, ◌%◌, ◌≤◌, ◌<◌, arith, length, eqb}
use Rattle.terms.proofs.Laws.{supplied_laws}
use Rattle.spans.specs.Palindromes.{letter, one}
use Rattle.shuffled.specs.Shuffled.{occurs, Shuffled}
use Rattle.shuffled.specs.Laws.{ExactPass}
use Rattle.shuffled.proofs.Parities.{occurs_none, occurs_before, occurs_behind, one_other}

module _ (s : List ℕ) where
  -- of one letter, what occurs is that letter
  only_letter : (a b : ℕ) → occurs s a 1 b % 2 ≡ 1 → letter s a ≡ b
  only_letter a b p =
      elim (ℕ_discrete (letter s a) b) [ yes e ↦ e | no n ↦ absurd (omega (arith, occurs_before s a b 0, occurs_none s (suc a) b, one_other (letter s a) b n)) ]

  -- two equal letters around it change no parity
  inward : (a L b : ℕ) → letter s a ≡ letter s (suc a + L) → occurs s a (suc (suc L)) b % 2 ≡ occurs s (suc a) L b % 2
  inward a L b e = omega (arith, occurs_before s a b (suc L), occurs_behind s (suc a) b L, ap (λ (i : ℕ). one (eqb i b)) e)

  one_odd :
      (a L : ℕ) → ((i j : ℕ) → a ≤ i → a ≤ j → suc (i + j) ≡ a + a + L → letter s i ≡ letter s j)
      → (b c : ℕ) → occurs s a L b % 2 ≡ 1 → occurs s a L c % 2 ≡ 1 → b ≡ c
  one_odd a zero h b c p q = absurd (omega (arith, occurs_none s a b))
  one_odd a (suc zero) h b c p q = sym (only_letter a b p) ∙ only_letter a c q
  one_odd a (suc (suc L)) h b c p q =
      let e : letter s a ≡ letter s (suc a + L) = h a (suc a + L) (omega arith) (omega arith) (omega arith) in
      one_odd (suc a) L (λ i j k l m. h i j (omega arith) (omega arith) (omega arith)) b c (sym (inward a L b e) ∙ p) (sym (inward a L c e) ∙ q)

pub exact_pass : ExactPass
exact_pass s bytes a L p = record { some = p.some; inside = p.inside; single = one_odd s a L same }
  where
    same : (i j : ℕ) → a ≤ i → a ≤ j → suc (i + j) ≡ a + a + L → letter s i ≡ letter s j
    same i j k l m =
        let u : a + (i - a) ≡ i = omega arith in
        let v : a + (L - 1 - (i - a)) ≡ j = omega arith in
        cc (p.same (i - a) (omega arith), supplied_laws.plain.own (letter s j) (bytes j))

-- One letter is a palindrome in any order.
pub one_letter : (s : List ℕ) (a : ℕ) → a < length s → Shuffled s a 1
one_letter s a l =
    record { some = omega arith; inside = omega arith; single = λ b c p q. sym (only_letter s a b p) ∙ only_letter s a c q }
