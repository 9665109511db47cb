-- Where a line ends in a piece. Assumes nothing.
use mathlib.Core.Path.{◌≡◌, refl, ap}
use mathlib.Core.List.{List, [], ◌∷◌}
use Prim.Native.Nat.{ℕ, ◌+◌, ◌≤◌, ◌<◌}
use native.Mathlib.Omega.{arith}
use native.Mathlib.Decide.{ℕ_discrete}
use lib.ListN.{length, take, length-take}
use borrow.Author.Tests.{eq-eqb, ne_eqb}
use lib.Dec.{eqb}
use Rattle.std.specs.Prelude.{Option, Some, None, nat_eq, cond, position, unwrap_or}
use Rattle.std.specs.List.{position_or_len}
use Rattle.std.proofs.lemmas.Bool.Decides.{nat_tests}
use Rattle.std.proofs.lemmas.List.Recursion.{is_position_or_len}
use Rattle.feed.specs.Lines.{line_end}
use Rattle.feed.specs.Feeding.{up_to_end}

-- the bytes up to the end are the first ones
pub front : (bs : List ℕ) → take (length (up_to_end bs)) bs ≡ up_to_end bs
front [] = refl
front (b ∷ bs) = elim (ℕ_discrete b line_end) [ yes e ↦ rw (eq-eqb b line_end e) | no n ↦ rw (ne_eqb b line_end n, front bs) ]

pub within : (bs : List ℕ) → length (up_to_end bs) ≤ length bs
within bs = omega (arith, simp length-take at (ap length (front bs)))

-- the bytes up to the end are as many as its place
pub end_place : (bs : List ℕ) → length (up_to_end bs) ≡ position_or_len (λ b. nat_eq b line_end) bs
end_place bs = is_position_or_len (λ (l : List ℕ). length (up_to_end l)) (λ b. nat_eq b line_end) refl step bs
  where
    step : (x : ℕ) (xs : List ℕ) → length (up_to_end (x ∷ xs)) ≡ cond (nat_eq x line_end) 0 (1 + length (up_to_end xs))
    step x xs = grind (arith, nat_tests)

-- the place of a line end, if there is one
abbrev pub end_in : List ℕ → Option ℕ
end_in bs = position (λ b. nat_eq b line_end) bs

pub end_some : (bs : List ℕ) (k : ℕ) → end_in bs ≡ Some k → (length (up_to_end bs) ≡ k) × (k < length bs)
end_some bs k e = let p = end_place bs in grind (arith, nat_tests)

pub end_none : (bs : List ℕ) → end_in bs ≡ None → length (up_to_end bs) ≡ length bs
end_none bs e = let p = end_place bs in let w = within bs in grind (arith, nat_tests)

-- the bytes up to the line end, or to the last one
pub line_is : (bs : List ℕ) → take (unwrap_or (end_in bs) (length bs)) bs ≡ up_to_end bs
line_is bs = go (end_in bs) refl
  where
    go : (o : Option ℕ) → end_in bs ≡ o → take (unwrap_or o (length bs)) bs ≡ up_to_end bs
    go None e = rw (← end_none bs e) (front bs)
    go (Some k) e = rw (← (end_some bs k e).0) (front bs)
