-- When the ways are laid. Assumes nothing.
use mathlib.Core.Path.{◌≡◌}
use mathlib.Core.List.{List}
use Prim.Native.Nat.{ℕ, ◌+◌, ◌*◌, ◌≤◌}
use native.Mathlib.Omega.{arith}
use lib.ListN.{length}
use Rattle.ways.specs.declared.Spans.{Spans}
use Rattle.ways.specs.Ways.{Laid, EachNext, Entered}

-- Kind 2: when all centres are entered.
pub laid_own : {s : Spans} {first next : List ℕ} → Entered s 0 first next → Laid s first next
laid_own f =
    record {
      steps = record { long = f.long; later = f.later; step = λ y. f.step y (omega arith) };
      firsts = λ own a h.
          record {
            on = f.on a h;
            skips = λ L p. f.skips a L p (omega arith);
            low = λ k. omega (arith, f.on a h k own);
          };
    }

-- Every other kind: when each centre leads to the one behind it.
pub laid_all : {s : Spans} {before first next : List ℕ} → (s.kind ≡ 2 → ⊥) → 2 * s.n ≤ length before + 1 → EachNext s.n before next → Laid s first next
laid_all other l e =
    record {
      steps =
          record {
            long = omega (arith, e.long);
            later = λ y h. omega (arith, e.each y h);
            step = λ y h. record { on = λ a i o k t. absurd (other t); skips = λ a L i o p k. omega (arith, e.each y h) };
          };
      firsts = λ t. absurd (other t);
    }
