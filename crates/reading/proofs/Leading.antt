-- The part that the tiling given begins with: the longest piece that reaches the least total, else the shortest gap that may stop. Assumes nothing.
use mathlib.Core.Path.{◌≡◌, sym, subst}
use mathlib.Core.List.{List, [], ◌∷◌}
use mathlib.Core.Logic.{⊎_elim}
use Prim.Native.Nat.{ℕ, suc, ◌+◌, ◌-◌, ◌*◌, ◌≤◌, ◌<◌}
use native.Mathlib.Omega.{arith}
use Rattle.terms.proofs.Order.{le_or_lt}
use Rattle.tilings.specs.Tilings.{Board, Part, piece, gap, gaps, total, Permitted, Least}
use Rattle.tilings.specs.Work.{Reaches}
use Rattle.tilings.proofs.Codes.{decode_piece, decode_gap}
use Rattle.tilings.proofs.Heads.{after_piece, after_gap, ends_of, piece_leads, gap_leads}
use Rattle.std.proofs.Common.{Some}
use Rattle.reading.specs.Work.{TopReach, Stops, FirstStop, Leads}
use Rattle.reading.proofs.Tests.{least_small}

-- Down from the longest span.
pub top_step : {B : Board} {i q v L : ℕ} → ((M : ℕ) → Reaches B i q v M → M < L) → (Reaches B i q v (L - 1) → ⊥) → (M : ℕ) → Reaches B i q v M → M < L - 1
top_step {B} {i} {q} {v} {L} top not M r =
    let k : M < L = top M r in
    ⊎_elim (λ (h : L - 1 ≤ M). let e : M ≡ L - 1 = omega arith in absurd (not (subst (Reaches B i q v) e r))) (λ (h : M < L - 1). h) (le_or_lt (L - 1) M)

pub reach_small : {B : Board} (i r : ℕ) {q v : ℕ} → Reaches B i q v r → i + r ≤ B.size
reach_small i r z = omega (arith, least_small z.1)

module _ {B : Board} {i q v : ℕ} (some : (a M : ℕ) → B.Piece a M → 1 ≤ M) (l : Least B i q v) where
  pub lead_piece : {r : ℕ} → TopReach B i q v (Some r) → Leads B i q (2 * r) (i + r) q
  lead_piece {r} t =
      let w : Reaches B i q v r = t.0 in
      record {
        onward = omega (arith, some i r w.0);
        few = rw (decode_piece r) (omega arith);
        more = (v, w.1);
        leads = λ ps g. rw (decode_piece r) (piece_leads B i q v r some l w t.1 ps g);
      }

  module _ (bare : (M : ℕ) → Reaches B i q v M → ⊥) where
    -- Where no piece reaches the least total, a gap does, and so one is permitted.
    pub gap_first : i < B.size → (M : ℕ) × (1 ≤ M) × (1 ≤ q) × Stops B i (q - 1) v M
    gap_first lt = go l.reached.0 l.reached.1 l.reached.2
      where
        go : (ps : List Part) → Permitted B i q ps → total ps ≡ v → (M : ℕ) × (1 ≤ M) × (1 ≤ q) × Stops B i (q - 1) v M
        go [] p e = absurd (omega (arith, p.tiles))
        go (piece M ∷ ps) p e = absurd (bare M (p.tiles.0, after_piece B i q v M ps l p.tiles.0 (record { tiles = p.tiles.1; few = p.few }) e))
        go (gap M ∷ ps) p e =
            let f : suc (gaps ps) ≤ q = p.few in
            let s : q ≡ suc (q - 1) = omega arith in
            let k : Permitted B (i + M) (q - 1) ps = record { tiles = p.tiles.2; few = omega arith } in
            let w : Least B (i + M) (q - 1) (total ps) = after_gap B i (q - 1) v M ps p.tiles.0 (subst (λ (x : ℕ). Least B i x v) s l) k e in
            (M, p.tiles.0, omega arith, record { rest = total ps; least = w; sum = sym e; ends = ends_of B (i + M) (q - 1) ps p.tiles.1 k w })

    pub lead_gap : {p L : ℕ} → q ≡ suc p → FirstStop B i p v L → Leads B i q (2 * L + 1) (i + L) p
    lead_gap {p} {L} e s =
        let h : 1 ≤ L = s.some in
        record {
          onward = omega arith;
          few = rw (decode_gap L) (omega arith);
          more = (s.is.rest, s.is.least);
          leads = λ ps g.
              rw (decode_gap L, e)
              (gap_leads B i p v L s.is.rest (rw e at l) (rw e at bare) h s.is.least s.is.sum s.is.ends
              (λ M w a k lw sw ew. s.first M a k (record { rest = w; least = lw; sum = sw; ends = ew })) ps g);
        }
