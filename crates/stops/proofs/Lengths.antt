-- The maximal length of a centre follows from what stops it, and it stops in one way. Assumes nothing.
use mathlib.Core.Path.{◌≡◌, refl, ap₂, subst}
use mathlib.Core.Bool.{true}
use mathlib.Core.Logic.{inl}
use Prim.Native.Nat.{ℕ, suc, ◌+◌, ◌-◌, ◌%◌, ◌≤◌, ◌<◌}
use native.Mathlib.Omega.{arith}
use Rattle.std.proofs.lemmas.Bool.{true_from_ne_false}
use Rattle.terms.specs.Alphabets.{own_partner}
use Rattle.terms.specs.Texts.{Text, size}
use Rattle.spans.specs.Palindromes.{one, differs, error_count, centres, MaximalLength}
use Rattle.spans.specs.Stops.{Bars, Blocks, Ends, Stops}
use Rattle.spans.specs.declared.outward.Stop.{Stop}
use Rattle.spans.specs.declared.outward.Stop.TheVariants.{Pair, End, Barred}
use Rattle.spans.proofs.Counting.{from, from_step, errors_none}
use Rattle.spans.proofs.Walking.{longest_of, longest_unique, one_le}
use Rattle.stops.specs.Laws.{Touches}

-- The first place of the longest span of the centre c inside n letters.
abbrev pub edge : ℕ → ℕ → ℕ
edge n c = c + 1 - n

module _ (x : Text) (d c : ℕ) where
  -- where the centre is not barred, its odd spans may be palindromes
  free : (Bars x c → ⊥) → c % 2 ≡ 0 → own_partner x.map x.alphabet ≡ true
  free n e = true_from_ne_false _ (λ f. n (e, f))

  -- the span within the pair that blocks, and the pair itself
  module _ (i j : ℕ) (b : Blocks x d c i j) where
    few_within : from x.letters x.map c (suc i) ≤ d
    few_within = grind (arith, errors_none x.letters x.map (suc i), b.first (suc i) (c + 1 - (suc i + suc i)))

    over_with : d < from x.letters x.map c i
    over_with = grind arith

    pub pair_length : (Bars x c → ⊥) → MaximalLength x d c (j - i - 1)
    pair_length n =
        let l : c + 1 - (suc i + suc i) ≡ j - i - 1 = omega arith in
        subst (MaximalLength x d c) l
        (longest_of x d c (suc i) (omega arith) (omega arith) few_within (free n) (λ k h. grind arith))

    -- the pair is the error that is too many
    pub pair_errors : error_count x.letters x.map (i + 1) (j - i - 1) ≡ d
    pair_errors = grind (arith, from_step x.letters x.map c i, few_within, over_with, one_le)

    pub pair_differs : differs x.letters x.map i j ≡ true
    unfolding one
    pair_differs = grind (arith, from_step x.letters x.map c i, few_within, over_with, one_le)

  -- the longest span of the centre inside the string
  module _ (n : Bars x c → ⊥) (f : Ends x d c) (in_range : c < centres (size x)) where
    pub end_length : MaximalLength x d c (c + 1 - (edge (size x) c + edge (size x) c))
    end_length =
        longest_of x d c (edge (size x) c) (omega arith) (omega arith)
        (f (edge (size x) c) (c + 1 - (edge (size x) c + edge (size x) c)) (omega arith) (omega arith) (omega arith))
        (free n) (λ k h. inl (omega arith))

    pub end_touches : Touches x c (c + 1 - (edge (size x) c + edge (size x) c))
    end_touches = (edge (size x) c, omega arith, grind arith)

  -- where a pair blocks, some span exceeds d
  not_ended : (i j : ℕ) → Blocks x d c i j → Ends x d c → ⊥
  not_ended i j p n = omega (arith, n i (j + 1 - i) (omega arith) (omega arith) (omega arith))

  one_pair : (i j k l : ℕ) → Stops x d c (Pair i j) → Stops x d c (Pair k l) → (i ≡ k) × (j ≡ l)
  one_pair i j k l p q = omega (arith, longest_unique (pair_length i j p.1 p.0) (pair_length k l q.1 q.0))

  pub one_stop : (p q : Stop) → Stops x d c p → Stops x d c q → p ≡ q
  one_stop (Pair i j) (Pair k l) a b = let e = one_pair i j k l a b in ap₂ Pair e.0 e.1
  one_stop (Pair i j) End a b = absurd (not_ended i j a.1 b.1)
  one_stop (Pair i j) Barred a b = absurd (a.0 b)
  one_stop End (Pair k l) a b = absurd (not_ended k l b.1 a.1)
  one_stop End End a b = refl
  one_stop End Barred a b = absurd (a.0 b)
  one_stop Barred (Pair k l) a b = absurd (b.0 a)
  one_stop Barred End a b = absurd (b.0 a)
  one_stop Barred Barred a b = refl
