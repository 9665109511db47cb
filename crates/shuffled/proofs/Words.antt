-- The bits of a word and its count of ones: at most one is set exactly where any two that are set are the same. Assumes nothing.
use mathlib.Core.Logic.{⊎_elim}
use lib.Arith.{bin_ind}
use lib.Count.{ones, ones_step}
use Rattle.std.proofs.Common.{◌≡◌, ap, ◌∙◌, ℕ, zero, suc, ◌+◌, ◌/◌, ◌%◌, ◌≤◌, ◌<◌, arith}
use Rattle.std.proofs.lemmas.Nat.Bits.{bit_at_lowest, bit_at-suc, bit_at-zero, bit_at-lt, same_from_bits}
use Rattle.std.specs.Int.{bit_at}
use Rattle.terms.proofs.Order.{le_or_lt}

-- A bit that is set is counted, and so are two.
one_set : (w c : ℕ) → bit_at w c ≤ ones w
one_set w zero = omega (arith, ones_step w, bit_at_lowest w)
one_set w (suc c) = omega (arith, ones_step w, bit_at-suc w c, one_set (w / 2) c)

pub two_set : (w b c : ℕ) → b < c → bit_at w b + bit_at w c ≤ ones w
two_set w b zero l = absurd (omega arith)
two_set w zero (suc c) l = omega (arith, ones_step w, bit_at_lowest w, bit_at-suc w c, one_set (w / 2) c)
two_set w (suc b) (suc c) l = omega (arith, ones_step w, bit_at-suc w b, bit_at-suc w c, two_set (w / 2) b c (omega arith))

-- Where none is set there are no ones, and where any two that are set are the same at most one.
none_set : (w : ℕ) → ((c : ℕ) → bit_at w c ≡ 1 → ⊥) → ones w ≡ 0
unfolding ones
none_set w h = ap ones (same_from_bits w 0 (λ c. omega (arith, bit_at-lt w c, bit_at-zero c, h c)))

pub same_few : (w : ℕ) → ((b c : ℕ) → bit_at w b ≡ 1 → bit_at w c ≡ 1 → b ≡ c) → ones w ≤ 1
unfolding ones
same_few =
    bin_ind (λ (w : ℕ). ((b c : ℕ) → bit_at w b ≡ 1 → bit_at w c ≡ 1 → b ≡ c) → ones w ≤ 1) (λ h. omega arith)
    (λ w r h.
    ⊎_elim
    (λ (z : w % 2 ≤ 0). omega (arith, ones_step w, r (λ b c p q. omega (arith, h (suc b) (suc c) (bit_at-suc w b ∙ p) (bit_at-suc w c ∙ q)))))
    (λ (o : 0 < w % 2). omega (arith, ones_step w, none_set (w / 2) (λ c p. omega (arith, h 0 (suc c) (bit_at_lowest w ∙ omega arith) (bit_at-suc w c ∙ p)))))
    (le_or_lt (w % 2) 0))
