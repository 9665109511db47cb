-- What the first centre of a way is, for the caller. Assumes nothing.
use mathlib.Core.Path.{◌≡◌}
use mathlib.Core.List.{List}
use Prim.Native.Nat.{ℕ, ◌+◌, ◌-◌, ◌≤◌, ◌<◌}
use native.Mathlib.Omega.{arith}
use native.Mathlib.Decide.{ℕ_discrete}
use lib.ListN.{get_or}
use Rattle.ways.specs.declared.Spans.{Spans}
use Rattle.ways.specs.Ways.{First, Laid}

-- The number that `first_of` gives is the first of a way laid: for the other kinds the centre of the shortest span.
pub first_is : (s : Spans) (a : ℕ) {first next : List ℕ} {r : ℕ} → Laid s first next → a < s.n → 1 ≤ s.m → (s.kind ≡ 2 → r ≡ get_or first a 0) → ((s.kind ≡ 2 → ⊥) → r ≡ a + a + s.m - 1) → First s a r
first_is s a l h g two other =
    elim (ℕ_discrete s.kind 2) [
      | yes e ↦ rw (two e) (l.firsts e a h)
      | no e ↦ record {
        on = λ k t. absurd (e t);
        skips = λ L p. omega (arith, other e);
        low = λ k. omega (arith, other e);
      }
    ]
