-- From part to part through the tiling given. Assumes nothing.
use mathlib.Core.Path.{◌≡◌}
use mathlib.Core.List.{List, [], ◌∷◌, ◌++◌, map, map-append, append-nil, append_assoc}
use Prim.Native.Nat.{ℕ, ◌+◌, ◌-◌, ◌≤◌, ◌<◌}
use native.Mathlib.Omega.{arith}
use native.Mathlib.Numerals.{add-one}
use lib.ListN.{length, take, set}
use lib.Seq.{take-suc-set}
use Rattle.tilings.specs.Tilings.{Board, Part, piece, gap, gaps, Given}
use Rattle.tilings.specs.Work.{Tiled, decode, decoded}
use Rattle.tilings.proofs.Heads.{end_given}
use Rattle.reading.specs.Work.{Leads, ReadOut}
use Rattle.reading.proofs.Tests.{least_small}

gaps_append : (ps qs : List Part) → gaps (ps ++ qs) ≡ gaps ps + gaps qs
gaps_append [] qs = omega arith
gaps_append (piece L ∷ ps) qs = gaps_append ps qs
gaps_append (gap L ∷ ps) qs = omega (arith, gaps_append ps qs)

-- The first k numbers lead from the start to i, with q gaps left.
pub record Walked (B : Board) (g : ℕ) (codes : List ℕ) (i q k : ℕ) : Type 0 where
  pub place : i ≤ B.size
  pub below : k ≤ i
  pub gapped : gaps (decoded k codes) + q ≡ g
  pub more : Tiled B i q
  pub leads : (ps : List Part) → Given B i q ps → Given B 0 g (decoded k codes ++ ps)

pub walked_start : (B : Board) (g : ℕ) (codes : List ℕ) → Tiled B 0 g → Walked B g codes 0 g 0
walked_start B g codes t = record { place = omega arith; below = omega arith; gapped = omega arith; more = t; leads = λ ps h. h }

module _ {B : Board} {g : ℕ} {codes : List ℕ} {i q k : ℕ} (w : Walked B g codes i q k) where
  pub walked_next : {c j p : ℕ} → k < length codes → Leads B i q c j p → Walked B g (set codes k c) j p (k + 1)
  walked_next {c} {j} {p} h l =
      record {
        place = omega (arith, least_small l.more.1);
        below = omega (arith, w.below, l.onward);
        gapped = rw e (omega (arith, gaps_append (decoded k codes) (decode c ∷ []), w.gapped, l.few));
        more = l.more;
        leads = λ ps gv. rw (e, append_assoc) (w.leads (decode c ∷ ps) (l.leads ps gv));
      }
    where
      e : map decode (take (k + 1) (set codes k c)) ≡ decoded k codes ++ (decode c ∷ [])
      e = rw (add-one, take-suc-set) (map-append decode (take k codes) (c ∷ []))

  pub walked_end : ((a L : ℕ) → B.Piece a L → 1 ≤ L) → B.size ≤ i → ReadOut B g k (g - q) codes
  walked_end some z =
      let pl : i ≤ B.size = w.place in
      let e : i ≡ B.size = omega arith in
      record {
        short = omega (arith, w.below);
        given = rw append-nil at (w.leads [] (rw e (end_given B q some)));
        gapped = omega (arith, w.gapped);
      }
