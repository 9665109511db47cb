-- Spans, palindromes, error counts and maximal lengths (01, "Letters, spans and palindromes").
-- A span of the string s is a first place a and a length L, 1 or more: its letters are x[k] = s[a + k] for k below L.
use Rattle.std.specs.Prelude.{◌≡◌, Bool, true, false, not, ◌&&◌, List, ◌⊎◌, ℕ, zero, suc, ◌+◌, ◌-◌, ◌*◌, ◌/◌, ◌%◌, ◌≤◌, ◌<◌, eqb, ltb, length, get_or}
use Rattle.terms.specs.Maps.{partner}
use Rattle.terms.specs.Alphabets.{own_partner}
use Rattle.terms.specs.Texts.{Text, size}

-- The letter at place i; places count from 0.
abbrev pub letter : List ℕ → ℕ → ℕ
letter s i = get_or s i 0

-- An exact palindrome: x[k] = f(x[L-1-k]) for all k below L.
pub record ExactPalindrome (s f : List ℕ) (a L : ℕ) : Type 0 where
  pub some : 1 ≤ L
  pub inside : a + L ≤ length s
  pub same : (k : ℕ) → k < L → letter s (a + k) ≡ partner f (letter s (a + (L - 1 - k)))

-- The letter at place i is not equal to f of the letter at place j.
abbrev pub differs : List ℕ → List ℕ → ℕ → ℕ → Bool
differs s f i j = not (eqb (letter s i) (partner f (letter s j)))

-- k < L-1-k and x[k] not equal to f(x[L-1-k]).
unfoldable pub wrong_pair : List ℕ → List ℕ → ℕ → ℕ → ℕ → Bool
wrong_pair s f a L k = ltb k (L - 1 - k) && differs s f (a + k) (a + (L - 1 - k))

-- L is odd and the middle letter isn't its own partner.
unfoldable pub wrong_middle : List ℕ → List ℕ → ℕ → ℕ → Bool
wrong_middle s f a L = eqb (L % 2) 1 && differs s f (a + L / 2) (a + L / 2)

-- One where the test holds.
unfoldable pub one : Bool → ℕ
one true = 1
one false = 0

-- The number of k below n that pass the test.
unfoldable pub count : (ℕ → Bool) → ℕ → ℕ
count p zero = 0
count p (suc n) = one (p n) + count p n

-- The error count: the number of such k, and one more for such a middle letter.
unfoldable pub error_count : List ℕ → List ℕ → ℕ → ℕ → ℕ
error_count s f a L = count (wrong_pair s f a L) L + one (wrong_middle s f a L)

-- A d-palindrome: the count is at most d. Where the map has no own-partner letter within the alphabet, no odd span is one, at any d (02, L2).
pub record DPalindrome (x : Text) (d a L : ℕ) : Type 0 where
  pub some : 1 ≤ L
  pub inside : a + L ≤ size x
  pub few : error_count x.letters x.map a L ≤ d
  pub odd : L % 2 ≡ 1 → own_partner x.map x.alphabet ≡ true

-- A span's centre: first place plus last place. A string of n letters has 2n - 1 centres, and none where n = 0.
abbrev pub centre : ℕ → ℕ → ℕ
centre a L = a + (a + L - 1)

abbrev pub centres : ℕ → ℕ
centres n = 2 * n - 1

-- The maximal d-palindrome of a centre: the longest d-palindrome there, in the whole string.
pub record Maximal (x : Text) (d a L : ℕ) : Type 0 where
  pub is : DPalindrome x d a L
  pub longest : (b M : ℕ) → DPalindrome x d b M → centre b M ≡ centre a L → M ≤ L

-- The maximal length of the centre c: the length of the longest d-palindrome there, 0 where the centre has none.
pub record MaximalLength (x : Text) (d c r : ℕ) : Type 0 where
  pub attained : (r ≡ 0) ⊎ ((a : ℕ) × DPalindrome x d a r × (centre a r ≡ c))
  pub longest : (b M : ℕ) → DPalindrome x d b M → centre b M ≡ c → M ≤ r
