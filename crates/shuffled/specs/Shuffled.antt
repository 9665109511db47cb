-- Shuffled palindromes (02, L7; document 002's abelian palindromes), and the fill of the longest from each start.
use Rattle.std.specs.Prelude.{◌≡◌, Bool, not, ◌&&◌, List, [], ◌∷◌, ℕ, ◌+◌, ◌%◌, ◌≤◌, ◌<◌, Result, eqb, leb, ltb, length, get_or}
use Rattle.terms.specs.Refusals.{first_fault, fault_of}
use Rattle.terms.specs.declared.refusal.Refusal.{Refusal}
use Rattle.terms.specs.Maps.{every_below}
use Rattle.terms.specs.Texts.{too_long}
use Rattle.spans.specs.Palindromes.{letter, count}

-- How often the byte b occurs among the L letters from place a.
unfoldable pub occurs : List ℕ → ℕ → ℕ → ℕ → ℕ
occurs s a L b = count (λ k. eqb (letter s (a + k)) b) L

-- A palindrome when reordered: at most one letter occurs an odd number of times. Spans have length 1 or more.
pub record Shuffled (s : List ℕ) (a L : ℕ) : Type 0 where
  pub some : 1 ≤ L
  pub inside : a + L ≤ length s
  pub single : (b c : ℕ) → occurs s a L b % 2 ≡ 1 → occurs s a L c % 2 ≡ 1 → b ≡ c

-- r is the longest such length from the start a.
pub record LongestShuffled (s : List ℕ) (a r : ℕ) : Type 0 where
  pub is : Shuffled s a r
  pub longest : (L : ℕ) → Shuffled s a L → L ≤ r

-- The slice is filled with them, one entry a letter; later entries stay.
pub record Longests (s before after : List ℕ) : Type 0 where
  pub long : length after ≡ length before
  pub filled : (a : ℕ) → a < length s → LongestShuffled s a (get_or after a 0)
  pub stay : (k : ℕ) → length s ≤ k → get_or after k 0 ≡ get_or before k 0

-- One of A to Z.
unfoldable pub capital : ℕ → Bool
capital b = leb 65 b && leb b 90

-- Every byte of the string is.
unfoldable pub capitals : List ℕ → Bool
capitals s = every_below (length s) (λ k. capital (letter s k))

-- Refusals 1, then 20 a byte outside A to Z, then 11 when fewer entries than letters are lent.
unfoldable pub shuffled_faults : List ℕ → ℕ → List (ℕ × Bool)
shuffled_faults s lent = (1, too_long s) ∷ (20, not (capitals s)) ∷ (11, ltb lent (length s)) ∷ []

-- The reply: a refusal is its number and leaves the slice; else the slice is filled.
pub record ShuffledReply (s before after : List ℕ) (r : Result (Unit {0}) Refusal) : Type 0 where
  pub number : fault_of r ≡ first_fault (shuffled_faults s (length before))
  pub refused : (fault_of r ≡ 0 → ⊥) → after ≡ before
  pub accepted : fault_of r ≡ 0 → Longests s before after
