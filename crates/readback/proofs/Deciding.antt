-- Which tiling is given, and whether there is none, by a test that goes through all permitted tilings: for worked examples. Assumes nothing.
use mathlib.Core.Path.{◌≡◌, refl, sym, ap}
use mathlib.Core.Bool.{Bool, true, false, ◌&&◌, ◌||◌}
use mathlib.Core.List.{List, [], ◌∷◌}
use mathlib.Core.Logic.{◌⊎◌, inl, inr, ⊎_elim}
use Prim.Native.Nat.{ℕ, zero, suc, ◌+◌, ◌-◌, ◌≤◌}
use native.Mathlib.Omega.{arith}
use borrow.Author.Tests.{eq-eqb, eqb-true, leb-true, ltb-true}
use lib.Dec.{leb, ltb, eqb}
use lib.ListN.{length}
use Rattle.terms.proofs.Passed.{or_either}
use Rattle.terms.specs.Maps.{every_below}
use Rattle.terms.specs.Tells.{Tells}
use Rattle.terms.proofs.Below.{and_left, and_right, below_at}
use Rattle.terms.proofs.Told.{told_yes}
use Rattle.tilings.specs.Tilings.{Board, Part, piece, gap, gaps, total, GapFirst, Tiles, Permitted, Sooner, Before, Given, None, Entry}
use Rattle.tilings.proofs.Covers.{parts_fit}

-- b, where a holds
unfoldable pub implies : Bool → Bool → Bool
implies true b = b
implies false b = true

implied : (a b : Bool) → a ≡ true → implies a b ≡ true → b ≡ true
unfolding implies
implied true b e t = t
implied false b e t = let z : true ≡ false = sym e in cc

-- P passes at every tiling of the letters from i to n with at most q gaps (none first, after a gap), of at most f parts; d says which spans are pieces
unfoldable pub every_tiling : (ℕ → ℕ → Bool) → ℕ → ℕ → ℕ → ℕ → Bool → (List Part → Bool) → Bool
every_tiling d n zero i q a P = implies (eqb i n) (P [])
every_tiling d n (suc f) i q a P =
    implies (eqb i n) (P [])
    && (every_below (suc n - i) (λ L. elim (d i L) [ false ↦ true | true ↦ every_tiling d n f (i + L) q false (λ ps. P (piece L ∷ ps)) ])
    && (elim a [
      | true ↦ true
      | false ↦ elim q [ zero ↦ true | suc r ↦ every_below (n - i) (λ L. every_tiling d n f (i + suc L) r true (λ ps. P (gap (suc L) ∷ ps))) ]
    ]))

-- the two orders and equality, as tests
unfoldable pub sooner? : Part → Part → Bool
sooner? (piece L) (piece M) = ltb M L
sooner? (piece L) (gap M) = true
sooner? (gap L) (piece M) = false
sooner? (gap L) (gap M) = ltb L M

unfoldable pub same? : Part → Part → Bool
same? (piece L) (piece M) = eqb L M
same? (piece L) (gap M) = false
same? (gap L) (piece M) = false
same? (gap L) (gap M) = eqb L M

-- ps is qs, or comes before it
unfoldable pub upfront? : List Part → List Part → Bool
upfront? [] [] = true
upfront? [] (q ∷ qs) = false
upfront? (p ∷ ps) [] = false
upfront? (p ∷ ps) (q ∷ qs) = sooner? p q || (same? p q && upfront? ps qs)

wrong : {P : Type 0} → false ≡ true → P
wrong e = let z : ◌≡◌ {A = ℕ} 0 1 = cc in absurd (omega arith)

sooner?_is : (p q : Part) → sooner? p q ≡ true → Sooner p q
unfolding sooner?
sooner?_is (piece L) (piece M) t = ltb-true M L t
sooner?_is (piece L) (gap M) t = tt
sooner?_is (gap L) (piece M) t = wrong t
sooner?_is (gap L) (gap M) t = ltb-true L M t

same?_is : (p q : Part) → same? p q ≡ true → p ≡ q
unfolding same?
same?_is (piece L) (piece M) t = ap piece (eqb-true L M t)
same?_is (piece L) (gap M) t = wrong t
same?_is (gap L) (piece M) t = wrong t
same?_is (gap L) (gap M) t = ap gap (eqb-true L M t)

upfront?_is : (ps qs : List Part) → upfront? ps qs ≡ true → (qs ≡ ps) ⊎ Before ps qs
unfolding upfront?
upfront?_is [] [] t = inl refl
upfront?_is [] (q ∷ qs) t = wrong t
upfront?_is (p ∷ ps) [] t = wrong t
upfront?_is (p ∷ ps) (q ∷ qs) t =
    ⊎_elim
    (λ (h : sooner? p q ≡ true). inr (inl (sooner?_is p q h)))
    (λ (h : (same? p q && upfront? ps qs) ≡ true).
    let e : p ≡ q = same?_is p q (and_left _ _ h) in
    ⊎_elim (λ (k : qs ≡ ps). inl (cc)) (λ (k : Before ps qs). inr (inr (e, k))) (upfront?_is ps qs (and_right (same? p q) (upfront? ps qs) h)))
    (or_either (sooner? p q) (same? p q && upfront? ps qs) t)

-- ps is no worse than qs
unfoldable pub better? : List Part → List Part → Bool
better? ps qs = leb (total ps) (total qs) && implies (eqb (total qs) (total ps)) (upfront? ps qs)

-- the parts cover the letters from i
unfoldable pub tiles? : (ℕ → ℕ → Bool) → ℕ → ℕ → List Part → Bool
tiles? d n i [] = eqb i n
tiles? d n i (piece L ∷ ps) = d i L && tiles? d n (i + L) ps
tiles? d n i (gap L ∷ []) = leb 1 L && tiles? d n (i + L) []
tiles? d n i (gap L ∷ (piece M ∷ ps)) = leb 1 L && tiles? d n (i + L) (piece M ∷ ps)
tiles? d n i (gap L ∷ (gap M ∷ ps)) = false

-- ps is permitted from i with at most q gaps, and P passes at every tiling that is
unfoldable pub permitted? : (ℕ → ℕ → Bool) → ℕ → ℕ → ℕ → List Part → Bool
permitted? d n i q ps = tiles? d n i ps && leb (gaps ps) q

-- the letters from i as one gap, and whether v is an entry: 65535 and there is no tiling, or the total of that gap and the least
abbrev pub rest : ℕ → List Part
rest zero = []
rest (suc k) = gap (suc k) ∷ []

unfoldable pub entry? : (ℕ → ℕ → Bool) → ℕ → ℕ → ℕ → ℕ → Bool
entry? d n i q v =
    elim (eqb v 65535) [
      | true ↦ every_tiling d n n i q false (λ qs. false)
      | false ↦ permitted? d n i q (rest (n - i)) && (eqb (total (rest (n - i))) v && every_tiling d n n i q false (λ qs. leb v (total qs)))
    ]

module _ (B : Board) (d : ℕ → ℕ → Bool) (tells : (i L : ℕ) → Tells (d i L) (B.Piece i L)) (some : (i L : ℕ) → B.Piece i L → 1 ≤ L) where
  tiles?_is : (i : ℕ) (ps : List Part) → tiles? d B.size i ps ≡ true → Tiles B i ps
  unfolding tiles?
  tiles?_is i [] t = eqb-true i B.size t
  tiles?_is i (piece L ∷ ps) t =
      (told_yes (d i L) (B.Piece i L) (tells i L) (and_left _ _ t), tiles?_is (i + L) ps (and_right (d i L) (tiles? d B.size (i + L) ps) t))
  tiles?_is i (gap L ∷ []) t = (leb-true 1 L (and_left _ _ t), (λ z. z), eqb-true (i + L) B.size (and_right (leb 1 L) _ t))
  tiles?_is i (gap L ∷ (piece M ∷ ps)) t = (leb-true 1 L (and_left _ _ t), (λ z. z), tiles?_is (i + L) (piece M ∷ ps) (and_right (leb 1 L) (tiles? d B.size (i + L) (piece M ∷ ps)) t))
  tiles?_is i (gap L ∷ (gap M ∷ ps)) t = wrong t

  permitted?_is : (i q : ℕ) (ps : List Part) → permitted? d B.size i q ps ≡ true → Permitted B i q ps
  unfolding permitted?
  permitted?_is i q ps t = record { tiles = tiles?_is i ps (and_left _ _ t); few = leb-true (gaps ps) q (and_right (tiles? d B.size i ps) _ t) }

  guarded : (t : Bool) (P : Type 0) (r : Bool) → Tells t P → P → elim t [ false ↦ true | true ↦ r ] ≡ true → r ≡ true
  unfolding Tells
  guarded true P r h p x = x
  guarded false P r h p x = absurd (h p)

  every_is : (f i q : ℕ) (a : Bool) (P : List Part → Bool) → every_tiling d B.size f i q a P ≡ true → (ps : List Part) → Tiles B i ps → gaps ps ≤ q → (a ≡ true → GapFirst ps → ⊥) → length ps ≤ f → P ps ≡ true
  unfolding every_tiling
  every_is zero i q a P t [] w g n l = implied (eqb i B.size) (P []) (eq-eqb i B.size w) t
  every_is zero i q a P t (p ∷ ps) w g n l = absurd (omega arith)
  every_is (suc f) i q a P t [] w g n l = implied (eqb i B.size) (P []) (eq-eqb i B.size w) (and_left _ _ t)
  every_is (suc f) i q a P t (piece L ∷ ps) w g n l =
      every_is f (i + L) q false (λ qs. P (piece L ∷ qs))
      (guarded (d i L) (B.Piece i L) _ (tells i L) w.0
      (below_at (λ M. elim (d i M) [ false ↦ true | true ↦ every_tiling d B.size f (i + M) q false (λ qs. P (piece M ∷ qs)) ]) (suc B.size - i) L
      (and_left _ _ (and_right (implies (eqb i B.size) (P [])) _ t))
      (let h : i + L + length ps ≤ B.size = parts_fit B some (i + L) ps w.1 in omega arith)))
      ps w.1 g (λ z. wrong z) (omega arith)
  every_is (suc f) i q true P t (gap L ∷ ps) w g n l = absurd (n refl tt)
  every_is (suc f) i zero false P t (gap L ∷ ps) w g n l = absurd (omega arith)
  every_is (suc f) i (suc r) false P t (gap zero ∷ ps) w g n l = let h : 1 ≤ 0 = w.0 in absurd (omega arith)
  every_is (suc f) i (suc r) false P t (gap (suc L) ∷ ps) w g n l =
      every_is f (i + suc L) r true (λ qs. P (gap (suc L) ∷ qs))
      (below_at (λ M. every_tiling d B.size f (i + suc M) r true (λ qs. P (gap (suc M) ∷ qs))) (B.size - i) L
      (and_right (every_below (suc B.size - i) (λ M. elim (d i M) [ false ↦ true | true ↦ every_tiling d B.size f (i + M) (suc r) false (λ qs. P (piece M ∷ qs)) ])) _
      (and_right (implies (eqb i B.size) (P [])) _ t))
      (let h : i + suc L + length ps ≤ B.size = parts_fit B some (i + suc L) ps w.2 in omega arith))
      ps w.2 (omega arith) (λ z. w.1) (omega arith)

  -- what passes at every tiling passes at each
  passes : (i q : ℕ) (P : List Part → Bool) → every_tiling d B.size B.size i q false P ≡ true → (qs : List Part) → Permitted B i q qs → P qs ≡ true
  passes i q P t qs p =
      every_is B.size i q false P t qs p.tiles p.few (λ z. wrong z)
      (let h : i + length qs ≤ B.size = parts_fit B some i qs p.tiles in omega arith)

  pub given?_is : (g : ℕ) (ps : List Part) → (permitted? d B.size 0 g ps && every_tiling d B.size B.size 0 g false (better? ps)) ≡ true → Given B 0 g ps
  unfolding better?
  given?_is g ps t =
      record {
        permitted = permitted?_is 0 g ps (and_left _ _ t);
        least = λ qs p. leb-true (total ps) (total qs) (and_left _ _ (all qs p));
        first = λ qs p e. upfront?_is ps qs (implied (eqb (total qs) (total ps)) _ (eq-eqb (total qs) (total ps) e) (and_right (leb (total ps) (total qs)) _ (all qs p)));
      }
    where
      all : (qs : List Part) → Permitted B 0 g qs → better? ps qs ≡ true
      all = passes 0 g (better? ps) (and_right (permitted? d B.size 0 g ps) _ t)

  pub none?_is : (i q : ℕ) → every_tiling d B.size B.size i q false (λ qs. false) ≡ true → None B i q
  none?_is i q t qs p = wrong (passes i q (λ qs. false) t qs p)

  pub entry?_is : (i q v : ℕ) → entry? d B.size i q v ≡ true → Entry B i q v
  unfolding entry?
  entry?_is i q v t = go (eqb v 65535) refl t
    where
      go : (b : Bool) → eqb v 65535 ≡ b
          → elim b [
            | true ↦ every_tiling d B.size B.size i q false (λ qs. false)
            | false ↦ permitted? d B.size i q (rest (B.size - i)) && (eqb (total (rest (B.size - i))) v && every_tiling d B.size B.size i q false (λ qs. leb v (total qs)))
          ] ≡ true → Entry B i q v
      go true e h = inr (eqb-true v 65535 e, none?_is i q h)
      go false e h =
          let k = and_right (permitted? d B.size i q (rest (B.size - i))) _ h in
          inl (record {
            reached = (rest (B.size - i), permitted?_is i q (rest (B.size - i)) (and_left _ _ h), eqb-true _ v (and_left _ _ k));
            least = λ qs p. leb-true v (total qs) (passes i q (λ qs. leb v (total qs)) (and_right (eqb (total (rest (B.size - i))) v) _ k) qs p);
          })
