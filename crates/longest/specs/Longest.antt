-- The longest exact palindrome of one string and of two, handed back as part of the caller's own (01, "What is handed over").
use Rattle.std.specs.Prelude.{◌≡◌, List, ◌⊎◌, ℕ, ◌+◌, ◌≤◌, ◌<◌, length, take, drop}
use Rattle.std.specs.Borrow.{Bor}
use Rattle.terms.specs.Refusals.{first_fault}
use Rattle.terms.specs.Texts.{string_faults, pair_faults}
use Rattle.spans.specs.Palindromes.{ExactPalindrome}

-- The longest exact palindrome of s, the first of equals; no letters at the start where s has none.
pub record FirstLongest (s f : List ℕ) (a L : ℕ) : Type 0 where
  pub is : ((a ≡ 0) × (L ≡ 0)) ⊎ ExactPalindrome s f a L
  pub longest : (b M : ℕ) → ExactPalindrome s f b M → M ≤ L
  pub first : (b : ℕ) → ExactPalindrome s f b L → a ≤ b

-- r is that part of the caller's own string: L bytes of it from a on, in the same memory, a bytes further on.
pub record PartOf (r s : Bor (List ℕ)) (a L : ℕ) : Type 0 where
  pub inside : a + L ≤ length s.now
  pub block : r.ref_ptr.0 ≡ s.ref_ptr.0
  pub place : r.ref_ptr.1 ≡ s.ref_ptr.1 + a
  pub bytes : r.now ≡ take L (drop a s.now)

-- Of one string: its first longest palindrome. An empty part at the start stands for a refusal.
pub record HandsLongest (r s : Bor (List ℕ)) (f : List ℕ) : Type 0 where
  pub refused : (first_fault (string_faults s.now f) ≡ 0 → ⊥) → PartOf r s 0 0
  pub accepted :
      first_fault (string_faults s.now f) ≡ 0 → (a : ℕ) × (L : ℕ) × FirstLongest s.now f a L × PartOf r s a L

-- Of two strings: the longer of their two longest palindromes, as part of the string that holds it; of equals, the first string's.
pub record HandsLonger (r s t : Bor (List ℕ)) (f : List ℕ) : Type 0 where
  pub refused : (first_fault (pair_faults s.now t.now f) ≡ 0 → ⊥) → PartOf r s 0 0
  pub accepted :
      first_fault (pair_faults s.now t.now f) ≡ 0
      → (a : ℕ)
      × (L : ℕ)
      × (b : ℕ)
      × (M : ℕ)
      × FirstLongest s.now f a L
      × FirstLongest t.now f b M
      × (M ≤ L → PartOf r s a L)
      × (L < M → PartOf r t b M)

-- For a reader: two parts handed back to one question are the same bytes in the same memory.
abbrev pub SamePart : Bor (List ℕ) → Bor (List ℕ) → Type 0
SamePart r r' = (r.ref_ptr ≡ r'.ref_ptr) × (r.now ≡ r'.now)

abbrev pub OneLongest : Type 0
OneLongest = (r r' s : Bor (List ℕ)) (f : List ℕ) → HandsLongest r s f → HandsLongest r' s f → SamePart r r'

abbrev pub OneLonger : Type 0
OneLonger = (r r' s t : Bor (List ℕ)) (f : List ℕ) → HandsLonger r s t f → HandsLonger r' s t f → SamePart r r'
