-- Where the palindrome of a centre stops (02, L3).
use Rattle.std.specs.Prelude.{◌≡◌, false, ℕ, ◌+◌, ◌-◌, ◌%◌, ◌≤◌, ◌<◌}
use Rattle.terms.specs.Alphabets.{own_partner}
use Rattle.terms.specs.Texts.{Text, size}
use Rattle.spans.specs.Palindromes.{error_count, centre}
use Rattle.spans.specs.declared.outward.Stop.{Stop}
use Rattle.spans.specs.declared.outward.Stop.TheVariants.{Pair, End, Barred}

-- L2 bars the centre: its spans are odd, and no letter of the alphabet is its own partner.
abbrev pub Bars : Text → ℕ → Type 0
Bars x c = (c % 2 ≡ 0) × (own_partner x.map x.alphabet ≡ false)

-- (i, j) is the first pair outward that would exceed d: the span from i to j has more errors, every span of the centre within it has not.
-- A middle letter counts as a pair with itself.
pub record Blocks (x : Text) (d c i j : ℕ) : Type 0 where
  pub pair : i + j ≡ c
  pub order : i ≤ j
  pub inside : j < size x
  pub over : d < error_count x.letters x.map i (j + 1 - i)
  pub first : (b M : ℕ) → 1 ≤ M → centre b M ≡ c → i < b → error_count x.letters x.map b M ≤ d

-- An end of the string was met: no span of the centre exceeds d.
abbrev pub Ends : Text → ℕ → ℕ → Type 0
Ends x d c = (b M : ℕ) → 1 ≤ M → b + M ≤ size x → centre b M ≡ c → error_count x.letters x.map b M ≤ d

-- What stops the palindrome of the centre c: a pair that blocks, an end of the string, or the bar before any pair is looked at.
abbrev pub Stops : Text → ℕ → ℕ → Stop → Type 0
Stops x d c (Pair i j) = (Bars x c → ⊥) × Blocks x d c i j
Stops x d c End = (Bars x c → ⊥) × Ends x d c
Stops x d c Barred = Bars x c
