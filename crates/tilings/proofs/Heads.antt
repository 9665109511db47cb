-- How the tiling given begins, by the least totals of what follows. Assumes nothing.
use mathlib.Core.Path.{◌≡◌, refl, sym, ap, ◌∙◌, subst}
use mathlib.Core.List.{List, [], ◌∷◌}
use mathlib.Core.Logic.{◌⊎◌, inl, inr, ⊎_elim}
use Prim.Native.Nat.{ℕ, suc, ◌+◌, ◌≤◌, ◌<◌}
use native.Mathlib.Omega.{arith}
use native.Mathlib.Nat.{le_antisymm}
use Rattle.terms.proofs.Order.{le_or_lt}
use Rattle.tilings.specs.Tilings.{Board, Part, piece, gap, gaps, total, GapFirst, Tiles, Permitted, Before, Given, Least}
use Rattle.tilings.specs.Work.{Reaches, Ends}
use Rattle.tilings.proofs.Covers.{gaps_fit}

pub given_total : (B : Board) (i q u : ℕ) (ps : List Part) → Given B i q ps → Least B i q u → total ps ≡ u
given_total B i q u ps g l =
    le_antisymm
    (subst (λ (k : ℕ). total ps ≤ k) l.reached.2 (g.least l.reached.0 l.reached.1))
    (l.least ps g.permitted)

-- nothing but the empty tiling covers no letter
pub end_given : (B : Board) (q : ℕ) → ((a L : ℕ) → B.Piece a L → 1 ≤ L) → Given B B.size q []
end_given B q some =
    record { permitted = record { tiles = refl; few = omega arith }; least = λ qs p. omega arith; first = λ qs p e. inl (only qs p) }
  where
    only : (qs : List Part) → Permitted B B.size q qs → qs ≡ []
    only [] p = refl
    only (piece L ∷ qs) p =
        let k : 1 ≤ L = some B.size L p.tiles.0 in
        let j : B.size + L + total qs ≤ B.size = gaps_fit B (B.size + L) qs p.tiles.1 in absurd (omega arith)
    only (gap L ∷ qs) p =
        let k : 1 ≤ L = p.tiles.0 in
        let j : B.size + L + total qs ≤ B.size = gaps_fit B (B.size + L) qs p.tiles.2 in absurd (omega arith)

-- a piece before a tiling, and the least total behind it
pub after_piece : (B : Board) (i q v M : ℕ) (rest : List Part) → Least B i q v → B.Piece i M → Permitted B (i + M) q rest → total rest ≡ v → Least B (i + M) q v
after_piece B i q v M rest l pc p e =
    record { reached = (rest, p, e); least = λ qs k. l.least (piece M ∷ qs) (record { tiles = (pc, k.tiles); few = k.few }) }

-- a gap of M letters before a tiling joins the gap that the tiling begins with
extend : (B : Board) (i q M : ℕ) (ps : List Part) → 1 ≤ M → Permitted B (i + M) q ps → (qs : List Part) × Permitted B i (suc q) qs × (total qs ≡ M + total ps)
extend B i q M [] h p = (gap M ∷ [], record { tiles = (h, (λ z. z), p.tiles); few = omega arith }, refl)
extend B i q M (piece L ∷ ps) h p =
    let f : gaps ps ≤ q = p.few in (gap M ∷ piece L ∷ ps, record { tiles = (h, (λ z. z), p.tiles); few = omega arith }, refl)
extend B i q M (gap L ∷ ps) h p =
    let f : suc (gaps ps) ≤ q = p.few in
    let e : i + M + L ≡ i + (M + L) = omega arith in
    (gap (M + L) ∷ ps, record { tiles = (omega arith, p.tiles.1, subst (λ (z : ℕ). Tiles B z ps) e p.tiles.2); few = omega arith }, omega arith)

pub after_gap : (B : Board) (i q v M : ℕ) (rest : List Part) → 1 ≤ M → Least B i (suc q) v → Permitted B (i + M) q rest → M + total rest ≡ v → Least B (i + M) q (total rest)
after_gap B i q v M rest h l p e =
    record {
      reached = (rest, p, refl);
      least = λ qs k.
          let y : (zs : List Part) × Permitted B i (suc q) zs × (total zs ≡ M + total qs) = extend B i q M qs h k in
          let z : v ≤ total y.0 = l.least y.0 y.1 in
          let w : total y.0 ≡ M + total qs = y.2 in omega arith;
    }

pub ends_of : (B : Board) (j q : ℕ) (rest : List Part) → (GapFirst rest → ⊥) → Permitted B j q rest → Least B j q (total rest) → Ends B j q (total rest)
ends_of B j q [] n p l = inl p.tiles
ends_of B j q (piece N ∷ rest) n p l =
    inr (N, (p.tiles.0, after_piece B j q (total rest) N rest l p.tiles.0 (record { tiles = p.tiles.1; few = p.few }) refl))
ends_of B j q (gap N ∷ rest) n p l = absurd (n tt)

-- a tiling given does not begin with a gap where it need not
no_gap : (B : Board) (j q u : ℕ) (ps : List Part) → Given B j q ps → Least B j q u → Ends B j q u → GapFirst ps → ⊥
no_gap B j q u [] g l e f = f
no_gap B j q u (piece L ∷ ps) g l e f = f
no_gap B j q u (gap L ∷ ps) g l (inl e) f =
    let k : j + (L + total ps) ≤ B.size = gaps_fit B j (gap L ∷ ps) g.permitted.tiles in
    let h : 1 ≤ L = g.permitted.tiles.0 in omega arith
no_gap B j q u (gap L ∷ ps) g l (inr e) f =
    ⊎_elim
    (λ (z : piece e.0 ∷ e.1.1.reached.0 ≡ gap L ∷ ps). let y : ◌≡◌ {A = ℕ} 0 1 = cc in omega arith)
    (λ (z : Before (gap L ∷ ps) (piece e.0 ∷ e.1.1.reached.0)).
    ⊎_elim (λ (w : ⊥). w) (λ (w : (gap L ≡ piece e.0) × Before ps e.1.1.reached.0). let x = w.0 in let y : ◌≡◌ {A = ℕ} 0 1 = cc in omega arith) z)
    (g.first (piece e.0 ∷ e.1.1.reached.0)
    (record { tiles = (e.1.0, e.1.1.reached.1.tiles); few = e.1.1.reached.1.few })
    (e.1.1.reached.2 ∙ sym (given_total B j q u (gap L ∷ ps) g l)))

module _ (B : Board) (i q v L : ℕ) (some : (a M : ℕ) → B.Piece a M → 1 ≤ M) (l : Least B i q v) (r : Reaches B i q v L)
    (top : (M : ℕ) → Reaches B i q v M → M ≤ L) (ps : List Part) (g : Given B (i + L) q ps) where
  t : total ps ≡ v
  t = given_total B (i + L) q v ps g r.1

  first : (qs : List Part) → Permitted B i q qs → total qs ≡ total ps → (qs ≡ piece L ∷ ps) ⊎ Before (piece L ∷ ps) qs
  first [] p e =
      let k : 1 ≤ L = some i L r.0 in
      let j : i + L + total ps ≤ B.size = gaps_fit B (i + L) ps g.permitted.tiles in
      let z : i ≡ B.size = p.tiles in absurd (omega arith)
  first (gap M ∷ qs) p e = inr (inl tt)
  first (piece M ∷ qs) p e =
      ⊎_elim
      (λ (h : L ≤ M).
      let a : M ≤ L = top M (p.tiles.0, after_piece B i q v M qs l p.tiles.0 (record { tiles = p.tiles.1; few = p.few }) (e ∙ t)) in
      same (le_antisymm a h))
      (λ (h : M < L). inr (inl h))
      (le_or_lt L M)
    where
      same : M ≡ L → (piece M ∷ qs ≡ piece L ∷ ps) ⊎ Before (piece L ∷ ps) (piece M ∷ qs)
      same m =
          ⊎_elim
          (λ (h : qs ≡ ps). inl (cc))
          (λ (h : Before ps qs). inr (inr (ap piece (sym m), h)))
          (g.first qs (record { tiles = subst (λ (z : ℕ). Tiles B (i + z) qs) m p.tiles.1; few = p.few }) e)

  pub piece_leads : Given B i q (piece L ∷ ps)
  piece_leads =
      record {
        permitted = record { tiles = (r.0, g.permitted.tiles); few = g.permitted.few };
        least = λ qs p. let k : v ≤ total qs = l.least qs p in let h : total ps ≡ v = t in omega arith;
        first = first;
      }

module _ (B : Board) (i q v L u : ℕ) (l : Least B i (suc q) v) (bare : (M : ℕ) → Reaches B i (suc q) v M → ⊥)
    (pos : 1 ≤ L) (lu : Least B (i + L) q u) (sum : v ≡ L + u) (ends : Ends B (i + L) q u)
    (short : (M w : ℕ) → 1 ≤ M → M < L → Least B (i + M) q w → v ≡ M + w → Ends B (i + M) q w → ⊥)
    (ps : List Part) (g : Given B (i + L) q ps) where
  tg : total ps ≡ u
  tg = given_total B (i + L) q u ps g lu

  firstg : (qs : List Part) → Permitted B i (suc q) qs → total qs ≡ L + total ps → (qs ≡ gap L ∷ ps) ⊎ Before (gap L ∷ ps) qs
  firstg [] p e =
      let j : i + L + total ps ≤ B.size = gaps_fit B (i + L) ps g.permitted.tiles in
      let z : i ≡ B.size = p.tiles in absurd (omega arith)
  firstg (piece M ∷ qs) p e =
      let h : total ps ≡ u = tg in
      absurd (bare M (p.tiles.0, after_piece B i (suc q) v M qs l p.tiles.0 (record { tiles = p.tiles.1; few = p.few }) (omega arith)))
  firstg (gap M ∷ qs) p e =
      ⊎_elim
      (λ (h : M < L). let tt' : total ps ≡ u = tg in absurd (short M (total qs) m h lw (omega arith) (ends_of B (i + M) q qs p.tiles.1 pq lw)))
      (λ (h : L < suc M). ⊎_elim (λ (k : M ≤ L). same (omega arith)) (λ (k : L < M). inr (inl k)) (le_or_lt M L))
      (le_or_lt (suc M) L)
    where
      m : 1 ≤ M
      m = p.tiles.0

      pq : Permitted B (i + M) q qs
      pq = let f : suc (gaps qs) ≤ suc q = p.few in record { tiles = p.tiles.2; few = omega arith }

      lw : Least B (i + M) q (total qs)
      lw = let h : total ps ≡ u = tg in after_gap B i q v M qs m l pq (omega arith)

      same : M ≡ L → (gap M ∷ qs ≡ gap L ∷ ps) ⊎ Before (gap L ∷ ps) (gap M ∷ qs)
      same c =
          ⊎_elim
          (λ (h : qs ≡ ps). inl (cc))
          (λ (h : Before ps qs). inr (inr (ap gap (sym c), h)))
          (g.first qs (subst (λ (z : ℕ). Permitted B (i + z) q qs) c pq) (omega arith))

  pub gap_leads : Given B i (suc q) (gap L ∷ ps)
  gap_leads =
      record {
        permitted =
            let f : gaps ps ≤ q = g.permitted.few in
            record { tiles = (pos, no_gap B (i + L) q u ps g lu ends, g.permitted.tiles); few = omega arith };
        least = λ qs p. let k : v ≤ total qs = l.least qs p in let h : total ps ≡ u = tg in omega arith;
        first = firstg;
      }
