-- One centre more is entered for kind 2, from the last to the first. Assumes nothing.
use mathlib.Core.Path.{◌≡◌, ap, subst, subst⁻¹}
use mathlib.Core.List.{List}
use mathlib.Core.Logic.{⊎_elim}
use Prim.Native.Nat.{ℕ, ◌+◌, ◌-◌, ◌*◌, ◌≤◌, ◌<◌}
use native.Mathlib.Omega.{arith}
use native.Mathlib.Nat.{eq-or-lt_of_le}
use lib.ListN.{length, get_or, set, length-set}
use Rattle.ways.specs.declared.Spans.{Spans}
use Rattle.ways.specs.Spans.{PieceOf}
use Rattle.ways.specs.Ways.{Nowhere, On, Step, Entered}
use Rattle.ways.proofs.Stores.{after_set}

-- Before the first: nothing is entered, and no piece has a centre so late.
pub enter_start : (s : Spans) {first next : List ℕ} → s.n ≤ 1000 → s.n ≤ length first → 2 * s.n ≤ length next + 1 → Nowhere first → Nowhere next → Entered s (2 * s.n - 1) first next
enter_start s short w l f x =
    record {
      wide = w;
      long = l;
      later = λ y h. omega (arith, x y (omega arith));
      step = λ y h k. absurd (omega arith);
      past = λ a h. omega (arith, f a (omega arith));
      on = λ a h k. absurd (omega (arith, f a (omega arith)));
      skips = λ a L p h. absurd (omega arith);
    }

-- A piece's centre is on the way of its start.
piece_on : (s : Spans) {a L : ℕ} → PieceOf s a L → On s a (a + a + L - 1)
piece_on s p own = ⊎_elim (λ w. absurd (omega (arith, w.0))) (λ w. omega arith) p.is

module _ {s : Spans} {c : ℕ} {first next : List ℕ} (own : s.kind ≡ 2) (f : Entered s (c + 1) first next) where
  -- Where c is not on the way of a, a piece of a from c on is behind c.
  behind : {a L : ℕ} → PieceOf s a L → (On s a c → ⊥) → c ≤ a + a + L - 1 → c + 1 ≤ a + a + L - 1
  behind {a} {L} p none h =
      ⊎_elim
      (λ (e : c ≡ a + a + L - 1). absurd (none (subst⁻¹ (On s a) e (piece_on s p))))
      (λ (w : c < a + a + L - 1). omega arith)
      (eq-or-lt_of_le h)

  -- The centre is on no way: nothing is stored.
  pub enter_none : ((a : ℕ) → On s a c → ⊥) → Entered s c first next
  enter_none none =
      record {
        wide = f.wide;
        long = f.long;
        later = f.later;
        step = λ y h l.
            ⊎_elim
            (λ (e : c ≡ y).
            subst (λ (z : ℕ). Step s s.n z (get_or next z 0)) e
            (record { on = λ a i o. absurd (none a o); skips = λ a L i o. absurd (none a o) }))
            (λ (w : c < y). f.step y (omega arith) l)
            (eq-or-lt_of_le h);
        past = λ a h. omega (arith, f.past a h);
        on = f.on;
        skips = λ a L p h. f.skips a L p (behind p (none a) h);
      }

  -- The centre is on the way of a: it becomes the first there, and leads to the one that was.
  pub enter_one : (a : ℕ) → 1 ≤ s.m → c + 1 < 2 * s.n → s.m ≤ get_or s.lens.now c 0 → a + a + get_or s.lens.now c 0 ≡ c + 1 → Entered s c (set first a c) (set next c (get_or first a 0))
  enter_one a g u t e =
      record {
        wide = rw length-set f.wide;
        long = rw length-set f.long;
        later = after_set (λ y z. y + 1 < 2 * s.n → y < z) next c _ x (λ _. omega (arith, f.past a (omega arith))) (λ y _. f.later y);
        step = after_set (λ y z. c ≤ y → y + 1 < 2 * s.n → Step s s.n y z) next c _ x (λ _ _. leads) (λ y d h. f.step y (omega arith));
        past = after_set (λ b z. b < s.n → c ≤ z) first a c w (λ _. omega arith) (λ b _ h. omega (arith, f.past b h));
        on = after_set (λ b z. b < s.n → z < s.n + b → On s b z) first a c w (λ _ _ _. (t, e)) (λ b _. f.on b);
        skips = λ b L.
            after_set (λ d z. PieceOf s d L → c ≤ d + d + L - 1 → z ≤ d + d + L - 1) first a c w (λ _ h. h)
            (λ d k p h. f.skips d L p (behind p (λ o. k (only d o)) h)) b;
      }
    where
      x : c < length next
      x = omega (arith, f.long)

      w : a < length first
      w = omega (arith, f.wide)

      only : (b : ℕ) → On s b c → b ≡ a
      only b o = omega (arith, o own)

      leads : Step s s.n c (get_or first a 0)
      leads =
          record {
            on = λ b i o h. rw (only b o) (f.on a (omega arith) (omega (arith, only b o)));
            skips = λ b L i o p h. omega (arith, f.skips b L p (omega arith), ap (λ (z : ℕ). get_or first z 0) (only b o));
          }
