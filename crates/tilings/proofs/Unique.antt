-- The tiling given is one; so are the least total, an entry and a table. Assumes nothing.
use mathlib.Core.Path.{◌≡◌, sym, ◌∙◌, subst}
use mathlib.Core.List.{List, [], ◌∷◌}
use mathlib.Core.Logic.{inl, inr, ⊎_elim}
use Prim.Native.Nat.{ℕ, ◌+◌, ◌*◌, ◌/◌, ◌%◌, ◌≤◌, ◌<◌}
use native.Mathlib.Omega.{arith}
use native.Mathlib.Nat.{le_antisymm, div-add-mod', mod-lt, div-lt_iff_lt-mul}
use lib.ListN.{get_or}
use Rattle.terms.proofs.Ranges.{entries_unique}
use Rattle.tilings.specs.Tilings.{Board, Part, piece, gap, total, Sooner, Before, Given, Entry, entries, Table}

sooner_asym : (p q : Part) → Sooner p q → Sooner q p → ⊥
sooner_asym (piece L) (piece M) h k = omega arith
sooner_asym (piece L) (gap M) h k = k
sooner_asym (gap L) (piece M) h k = h
sooner_asym (gap L) (gap M) h k = omega arith

sooner_irr : (p q : Part) → Sooner p q → p ≡ q → ⊥
sooner_irr p q h e = sooner_asym p q h (subst (λ (r : Part). Sooner q r) (sym e) (subst (λ (r : Part). Sooner r q) e h))

before_asym : (ps qs : List Part) → Before ps qs → Before qs ps → ⊥
before_asym [] qs h k = h
before_asym (p ∷ ps) [] h k = h
before_asym (p ∷ ps) (q ∷ qs) (inl h) (inl k) = sooner_asym p q h k
before_asym (p ∷ ps) (q ∷ qs) (inl h) (inr k) = sooner_irr p q h (sym k.0)
before_asym (p ∷ ps) (q ∷ qs) (inr h) (inl k) = sooner_irr q p k (sym h.0)
before_asym (p ∷ ps) (q ∷ qs) (inr h) (inr k) = before_asym ps qs h.1 k.1

module _ (B : Board) (i q : ℕ) where
  pub given_unique : (ps qs : List Part) → Given B i q ps → Given B i q qs → ps ≡ qs
  given_unique ps qs g h =
      ⊎_elim
      (λ (e : qs ≡ ps). sym e)
      (λ (b : Before ps qs). ⊎_elim (λ (e : ps ≡ qs). e) (λ (b' : Before qs ps). absurd (before_asym ps qs b b')) (h.first ps g.permitted (sym t)))
      (g.first qs h.permitted t)
    where
      t : total qs ≡ total ps
      t = le_antisymm (h.least ps g.permitted) (g.least qs h.permitted)

  pub entry_unique : (v w : ℕ) → Entry B i q v → Entry B i q w → v ≡ w
  entry_unique v w (inl p) (inl r) =
      le_antisymm
      (subst (λ (k : ℕ). v ≤ k) r.reached.2 (p.least r.reached.0 r.reached.1))
      (subst (λ (k : ℕ). w ≤ k) p.reached.2 (r.least p.reached.0 p.reached.1))
  entry_unique v w (inl p) (inr r) = absurd (r.1 p.reached.0 p.reached.1)
  entry_unique v w (inr p) (inl r) = absurd (p.1 r.reached.0 r.reached.1)
  entry_unique v w (inr p) (inr r) = p.0 ∙ sym r.0

-- Every index of the table is one of its entries.
pub table_unique : (B : Board) (g : ℕ) (t a b : List ℕ) → Table B g t a → Table B g t b → a ≡ b
table_unique B g t a b p q =
    entries_unique (λ k. Entry B (k / (g + 1)) (k % (g + 1))) (λ k. entry_unique B (k / (g + 1)) (k % (g + 1)))
    (entries B.size g) t a b p.long q.long (at a p) (at b q) p.stay q.stay
  where
    at : (c : List ℕ) → Table B g t c → (k : ℕ) → k < entries B.size g → Entry B (k / (g + 1)) (k % (g + 1)) (get_or c k 0)
    at c h k w =
        let e : k / (g + 1) * (g + 1) + k % (g + 1) ≡ k = div-add-mod' k (g + 1) in
        let m : k % (g + 1) < g + 1 = mod-lt k (omega arith) in
        let i : k / (g + 1) < B.size + 1 = (div-lt_iff_lt-mul {k = g + 1} (omega arith)).1 w in
        subst (λ (z : ℕ). Entry B (k / (g + 1)) (k % (g + 1)) (get_or c z 0)) e (h.entry (k / (g + 1)) (k % (g + 1)) (omega arith) (omega arith))
