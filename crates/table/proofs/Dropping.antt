-- A centre without a piece may be dropped from the ways. Assumes nothing.
use mathlib.Core.Path.{◌≡◌, subst}
use mathlib.Core.Logic.{inl, inr, ⊎_elim}
use mathlib.Core.List.{List}
use Prim.Native.Nat.{ℕ, ◌+◌, ◌-◌, ◌*◌, ◌≤◌, ◌<◌}
use native.Mathlib.Omega.{arith}
use lib.ListN.{length, get_or, set, length-set}
use lib.Seq.{get_or-set_same}
use Rattle.terms.proofs.Order.{le_or_lt}
use Rattle.ways.specs.declared.Spans.{Spans}
use Rattle.ways.specs.Spans.{PieceOf, board_of}
use Rattle.ways.specs.Ways.{On, Step, Next, First}
use Rattle.ways.proofs.Stores.{after_set}
use Rattle.table.specs.Work.{PieceRowUnder, Along, Looked}
use Rattle.table.proofs.Rows.{row_jump}

-- No start up to i has a piece at a centre on the way of i, where i has none there.
none_earlier : (S : Spans) (i : ℕ) {c : ℕ} → c < S.n + i → i + i + S.m ≤ c + 1 → 1 ≤ S.m → On S i c → (PieceOf S i (c + 1 - (i + i)) → ⊥) → (a L : ℕ) → a ≤ i → PieceOf S a L → a + a + L - 1 ≡ c → ⊥
none_earlier S i {c} u low some o none a L h p e =
    none
    (record {
      some = omega arith;
      inside = omega arith;
      long = omega arith;
      is = rw middle (⊎_elim (λ w. inl (w.0, let k : L ≤ get_or S.lens.now c 0 = subst (λ z. L ≤ get_or S.lens.now z 0) e w.1 in omega (arith, p.some))) (λ w. inr (w.0, omega (arith, o w.0))) p.is);
    })
  where
    middle : i + i + (c + 1 - (i + i)) - 1 ≡ c
    middle = omega arith

module _ {S : Spans} {i : ℕ} where
  -- A step to the same place, and fewer starts.
  pub step_none : (y : ℕ) → Step S i y y
  step_none y = record { on = λ a h o l. o; skips = λ a L h o p l. omega arith }

  pub next_fewer : {j : ℕ} {next : List ℕ} → j ≤ i → Next S i next → Next S j next
  next_fewer l s =
      record {
        long = s.long;
        later = s.later;
        step = λ y h.
            let x = s.step y h in
            record { on = λ a k. x.on a (omega arith); skips = λ a L k. x.skips a L (omega arith) };
      }

  pub along_first : {c : ℕ} → First S i c → Along S i c c
  along_first {c} f = record { back = omega arith; step = step_none c; on = f.on; low = f.low }

  -- Over such a centre.
  pub step_over : {y c z : ℕ} → c < S.n + i → i + i + S.m ≤ c + 1 → 1 ≤ S.m → On S i c → (PieceOf S i (c + 1 - (i + i)) → ⊥) → c < z → Step S i y c → Step S i c z → Step S i y z
  step_over {c = c} u low some o none l s t =
      record {
        on = λ a h y k. t.on a h (s.on a h y (omega arith)) k;
        skips = λ a L h y p k.
            let w : c ≤ a + a + L - 1 = s.skips a L h y p k in
            ⊎_elim
            (λ (e : a + a + L - 1 ≤ c). absurd (none_earlier S i u low some o none a L h p (omega arith)))
            (λ (e : c < a + a + L - 1). t.skips a L h (s.on a h y (omega (arith, p.inside, p.some))) p e)
            (le_or_lt (a + a + L - 1) c);
      }

  -- Where y is made to lead to a later z by a step, all still lead on.
  pub next_set : {next : List ℕ} (y z : ℕ) → Next S i next → y + 1 < 2 * S.n → y < z → Step S i y z → Next S i (set next y z)
  next_set {next} y z s h l t =
      record {
        long = rw (length-set next y z) s.long;
        later = after_set (λ x w. x + 1 < 2 * S.n → x < w) next y z at (λ _. l) (λ x _. s.later x);
        step = after_set (λ x w. x + 1 < 2 * S.n → Step S i x w) next y z at (λ _. t) (λ x _. s.step x);
      }
    where
      at : y < length next
      at = omega (arith, s.long)

  -- The centre c looked at: kept, or dropped.
  pub looked_kept : {c : ℕ} {next : List ℕ} → c + 1 < 2 * S.n → Next S i next → Looked S i c c next
  looked_kept {c} h s = record { back = omega arith; later = s.later c h; step = s.step c h; steps = s }

  pub looked_dropped : {last c : ℕ} {next : List ℕ} → c < S.n + i → i < S.n → 1 ≤ S.m → Along S i last c → Next S i next → (PieceOf S i (c + 1 - (i + i)) → ⊥) → Looked S i c last (set next last (get_or next c 0))
  looked_dropped {last} {c} {next} u h some w s none =
      let b : last ≤ c = w.back in
      let l : c < get_or next c 0 = s.later c (omega arith) in
      let t = s.step c (omega arith) in
      let e = get_or-set_same next last (get_or next c 0) 0 (omega (arith, s.long)) in
      record {
        back = b;
        later = rw e l;
        step = rw e t;
        steps = next_set last _ s (omega arith) (omega arith) (step_over u (w.low u) some (w.on u) none l w.step t);
      }

  -- From c to what the last one kept leads to.
  pub along_next : {c r : ℕ} {next : List ℕ} → c < S.n + i → i < S.n → On S i c → i + i + S.m ≤ c + 1 → Looked S i c r next → Along S i r (get_or next r 0)
  along_next {c} {r} {next} u h o low k =
      let b : r ≤ c = k.back in
      record {
        back = omega (arith, k.later);
        step = k.steps.step r (omega arith);
        on = k.step.on i (omega arith) o;
        low = λ l. omega (arith, k.later);
      }

  -- The row of the pieces up to c is the row of those before the next centre.
  pub row_onward : {g c z : ℕ} {row : List ℕ} → i + i + S.m ≤ c + 1 → 1 ≤ S.m → On S i c → c < z → Step S i c z → PieceRowUnder (board_of S) g i (c + 1 - (i + i) + 1) row → PieceRowUnder (board_of S) g i (z + 1 - (i + i)) row
  row_onward {c = c} {z = z} low some o l s r =
      row_jump r (omega arith)
      (λ L p h.
      ⊎_elim
      (λ (k : i + i + L - 1 ≤ c). omega arith)
      (λ (k : c < i + i + L - 1). let w : z ≤ i + i + L - 1 = s.skips i L (omega arith) o p k in omega arith)
      (le_or_lt (i + i + L - 1) c))
