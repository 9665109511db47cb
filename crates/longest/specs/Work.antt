-- Working notions: what inner contracts say of a search half done. No promise to a caller rests on reading them.
use Rattle.std.specs.Prelude.{◌≡◌, List, ◌⊎◌, ℕ, ◌+◌, ◌-◌, ◌/◌, ◌≤◌, ◌<◌}
use Rattle.spans.specs.Palindromes.{ExactPalindrome, centre}
use Rattle.longest.specs.declared.search.Span.{Span}

-- Of the best so far and the palindrome of L letters at the centre c, the longer; the best stays among equals.
pub record Longer (best : Span) (c L : ℕ) (r : Span) : Type 0 where
  pub more : best.len < L → (r.start ≡ (c + 1 - L) / 2) × (r.len ≡ L)
  pub same : L ≤ best.len → r ≡ best

-- The first longest exact palindrome among those at centres below c.
pub record LongestBelow (s f : List ℕ) (c : ℕ) (best : Span) : Type 0 where
  pub is : ((best.start ≡ 0) × (best.len ≡ 0)) ⊎ (ExactPalindrome s f best.start best.len × (centre best.start best.len < c))
  pub longest : (b M : ℕ) → ExactPalindrome s f b M → centre b M < c → M ≤ best.len
  pub first : (b : ℕ) → ExactPalindrome s f b best.len → centre b best.len < c → best.start ≤ b
