-- The least total of a class of tilings, 65535 where the class is empty, and the recurrence of the table. Assumes nothing.
use mathlib.Core.Path.{◌≡◌, refl, sym, ap, ◌∙◌, subst}
use mathlib.Core.List.{List, [], ◌∷◌}
use mathlib.Core.Logic.{◌⊎◌, inl, inr, ⊎_elim}
use Prim.Native.Nat.{ℕ, zero, suc, ◌+◌, ◌≤◌, ◌<◌}
use native.Mathlib.Omega.{arith}
use Rattle.terms.proofs.Order.{le_or_lt}
use Rattle.tilings.proofs.Covers.{gaps_fit}
use Rattle.tilings.specs.Work.{Best, Pieces, Firsts, Gaps, Lesser, Onward}
use Rattle.tilings.specs.Tilings.{Board, Part, piece, gap, gaps, total, Tiles, Permitted, Entry}

-- An entry of the table is the best of all.
pub entry_best : (B : Board) (i q v : ℕ) → Entry B i q v → Best (Permitted B i q) v
entry_best B i q v (inl h) = record { reached = inr h.reached; least = h.least }
entry_best B i q v (inr h) = record { reached = inl h.0; least = λ ps p. absurd (h.1 ps p) }

pub best_entry : (B : Board) → B.size < 65535 → (i q v : ℕ) → Best (Permitted B i q) v → Entry B i q v
best_entry B z i q v b = ⊎_elim none some b.reached
  where
    none : v ≡ 65535 → Entry B i q v
    none e =
        inr (
          e,
          λ qs p. let h : i + total qs ≤ B.size = gaps_fit B i qs p.tiles in
              let k : v ≤ total qs = b.least qs p in omega arith,
        )

    some : (ps : List Part) × Permitted B i q ps × (total ps ≡ v) → Entry B i q v
    some w = inl (record { reached = w; least = b.least })

-- Two classes that make up a third: the lesser of the two.
module _ (A C D : List Part → Type 0) (a c v : ℕ) (ba : Best A a) (bc : Best C c) (l : Lesser a c v)
    (ad : (ps : List Part) → A ps → D ps) (cd : (ps : List Part) → C ps → D ps) (split : (ps : List Part) → D ps → A ps ⊎ C ps) where
  up : (X : List Part → Type 0) (x : ℕ) → Best X x → ((ps : List Part) → X ps → D ps) → v ≡ x → (v ≡ 65535) ⊎ ((ps : List Part) × D ps × (total ps ≡ v))
  up X x b into e =
      ⊎_elim
      (λ (z : x ≡ 65535). inl (e ∙ z))
      (λ (w : (ps : List Part) × X ps × (total ps ≡ x)). inr (w.0, into w.0 w.1, w.2 ∙ sym e))
      b.reached

  pub best_two : Best D v
  best_two =
      record {
        reached = ⊎_elim (up A a ba ad) (up C c bc cd) l.is;
        least = λ ps p.
            ⊎_elim
            (λ (h : A ps). let k : a ≤ total ps = ba.least ps h in let j : v ≤ a = l.left in omega arith)
            (λ (h : C ps). let k : c ≤ total ps = bc.least ps h in let j : v ≤ c = l.right in omega arith)
            (split ps p);
      }

-- A class that is empty, and a class that is another under an equal total.
pub best_none : (C : List Part → Type 0) → ((ps : List Part) → C ps → ⊥) → Best C 65535
best_none C h = record { reached = inl refl; least = λ ps p. absurd (h ps p) }

pub best_same : (A C : List Part → Type 0) (v : ℕ) → ((ps : List Part) → A ps → C ps) → ((ps : List Part) → C ps → A ps) → Best A v → Best C v
best_same A C v ac ca b =
    record {
      reached = ⊎_elim (λ (z : v ≡ 65535). inl z) (λ (w : (ps : List Part) × A ps × (total ps ≡ v)). inr (w.0, ac w.0 w.1, w.2)) b.reached;
      least = λ ps p. b.least ps (ca ps p);
    }

-- Past the last letter there is the tiling of no part.
pub last_best : (B : Board) (q : ℕ) → Best (Permitted B B.size q) 0
last_best B q = record { reached = inr ([], record { tiles = refl; few = omega arith }, refl); least = λ ps p. omega arith }

module _ (B : Board) (i q : ℕ) where
  -- no piece is shorter than m
  pub pieces_start : (m : ℕ) → ((L : ℕ) → B.Piece i L → m ≤ L) → Best (Pieces B i q m) 65535
  pieces_start m h = best_none (Pieces B i q m) no_one
    where
      no_one : (ps : List Part) → Pieces B i q m ps → ⊥
      no_one [] p = p.1
      no_one (piece L ∷ ps) p = let k : m ≤ L = h L p.0.tiles.0 in let j : L < m = p.1 in omega arith
      no_one (gap L ∷ ps) p = p.1

  pieces_wider : (M N : ℕ) → M ≤ N → (ps : List Part) → Pieces B i q M ps → Pieces B i q N ps
  pieces_wider M N le [] p = p
  pieces_wider M N le (piece L ∷ ps) p = (p.0, omega arith)
  pieces_wider M N le (gap L ∷ ps) p = p

  -- every piece shorter than N is shorter than M
  pub pieces_jump : (M N v : ℕ) → M ≤ N → ((L : ℕ) → B.Piece i L → L < N → L < M) → Best (Pieces B i q M) v → Best (Pieces B i q N) v
  pieces_jump M N v le h = best_same (Pieces B i q M) (Pieces B i q N) v (pieces_wider M N le) back
    where
      back : (ps : List Part) → Pieces B i q N ps → Pieces B i q M ps
      back [] p = p
      back (piece L ∷ ps) p = (p.0, h L p.0.tiles.0 p.1)
      back (gap L ∷ ps) p = p

  -- one piece more, of length M, before the best of what follows it
  pub pieces_more : (M u w v : ℕ) → B.Piece i M → Best (Permitted B (i + M) q) u → Best (Pieces B i q M) w → Lesser u w v → Best (Pieces B i q (M + 1)) v
  pieces_more M u w v pc bu bw l = best_two One (Pieces B i q M) (Pieces B i q (M + 1)) u w v one bw l one_in (pieces_wider M (M + 1) (omega arith)) split
    where
      One : List Part → Type 0
      One ps = (rest : List Part) × Permitted B (i + M) q rest × (ps ≡ piece M ∷ rest)

      one : Best One u
      one =
          record {
            reached = ⊎_elim (λ (z : u ≡ 65535). inl z) (λ (y : (ps : List Part) × Permitted B (i + M) q ps × (total ps ≡ u)). inr (piece M ∷ y.0, (y.0, y.1, refl), y.2)) bu.reached;
            least = λ ps p. subst (λ (z : List Part). u ≤ total z) (sym p.2) (bu.least p.0 p.1);
          }

      one_in : (ps : List Part) → One ps → Pieces B i q (M + 1) ps
      one_in ps p =
          subst (λ (z : List Part). Pieces B i q (M + 1) z) (sym p.2)
          (record { tiles = (pc, p.1.tiles); few = p.1.few }, omega arith)

      split : (ps : List Part) → Pieces B i q (M + 1) ps → One ps ⊎ Pieces B i q M ps
      split [] p = absurd p.1
      split (piece L ∷ ps) p =
          ⊎_elim
          (λ (k : L < M). inr (p.0, k))
          (λ (k : M < suc L). let e : L ≡ M = omega arith in
          inl (
            ps,
            record { tiles = subst (λ (z : ℕ). Tiles B (i + z) ps) e p.0.tiles.1; few = p.0.few },
            ap (λ (z : ℕ). piece z ∷ ps) e,
          ))
          (le_or_lt (suc L) M)
      split (gap L ∷ ps) p = absurd p.1

  -- every piece is shorter than M
  pub pieces_all : (M v : ℕ) → ((L : ℕ) → B.Piece i L → L < M) → Best (Pieces B i q M) v → Best (Firsts B i q) v
  pieces_all M v short = best_same (Pieces B i q M) (Firsts B i q) v into back
    where
      into : (ps : List Part) → Pieces B i q M ps → Firsts B i q ps
      into [] p = p
      into (piece L ∷ ps) p = (p.0, tt)
      into (gap L ∷ ps) p = p

      back : (ps : List Part) → Firsts B i q ps → Pieces B i q M ps
      back [] p = p
      back (piece L ∷ ps) p = (p.0, short L p.0.tiles.0)
      back (gap L ∷ ps) p = p

  -- all pieces and all gaps are all tilings, before the last letter is passed
  pub all_best : (p h v : ℕ) → i < B.size → Best (Firsts B i q) p → Best (Gaps B i q) h → Lesser p h v → Best (Permitted B i q) v
  all_best p h v lt bp bg l = best_two (Firsts B i q) (Gaps B i q) (Permitted B i q) p h v bp bg l (λ ps x. x.0) (λ ps x. x.0) split
    where
      split : (ps : List Part) → Permitted B i q ps → Firsts B i q ps ⊎ Gaps B i q ps
      split [] x = let e : i ≡ B.size = x.tiles in absurd (omega arith)
      split (piece L ∷ ps) x = inl (x, tt)
      split (gap L ∷ ps) x = inr (x, tt)

-- Past the last letter there is none for a gap.
pub gaps_end : (B : Board) (q : ℕ) → Best (Gaps B B.size q) 65535
gaps_end B q = best_none (Gaps B B.size q) h
  where
    h : (ps : List Part) → Gaps B B.size q ps → ⊥
    h [] p = p.1
    h (piece L ∷ ps) p = p.1
    h (gap L ∷ ps) p =
        let k : B.size + L + total ps ≤ B.size = gaps_fit B (B.size + L) ps p.0.tiles.2 in
        let j : 1 ≤ L = p.0.tiles.0 in omega arith

-- A gap may begin a letter earlier: it grows by one, or is a new gap of one letter.
module _ (B : Board) (i q : ℕ) where
  Longer : ℕ → Type 0
  Longer t = (qs : List Part) × Gaps B i (suc q) qs × (total qs ≡ t + 1)

  grow : (ps : List Part) → Gaps B (i + 1) (suc q) ps → Longer (total ps)
  unfolding Longer
  grow [] p = absurd p.1
  grow (piece L ∷ ps) p = absurd p.1
  grow (gap L ∷ ps) p =
      let e : i + 1 + L ≡ i + suc L = omega arith in (
        gap (suc L) ∷ ps,
        (record { tiles = (omega arith, p.0.tiles.1, subst (λ (z : ℕ). Tiles B z ps) e p.0.tiles.2); few = p.0.few }, tt),
        omega arith,
      )

  begin : (ps : List Part) → Permitted B (i + 1) q ps → Longer (total ps)
  unfolding Longer
  begin [] p = (gap 1 ∷ [], (record { tiles = (omega arith, (λ z. z), p.tiles); few = omega arith }, tt), refl)
  begin (piece L ∷ ps) p =
      let f : gaps ps ≤ q = p.few in
      (gap 1 ∷ piece L ∷ ps, (record { tiles = (omega arith, (λ z. z), p.tiles); few = omega arith }, tt), omega arith)
  begin (gap L ∷ ps) p = let f : suc (gaps ps) ≤ q = p.few in grow (gap L ∷ ps) (record { tiles = p.tiles; few = omega arith }, tt)

  module _ (h u w r : ℕ) (bh : Best (Gaps B (i + 1) (suc q)) h) (bu : Best (Permitted B (i + 1) q) u) (l : Lesser h u w) (o : Onward w r) where
    low : (t : ℕ) → (w ≤ t) → r ≤ t + 1
    low t k =
        ⊎_elim
        (λ (z : 65535 ≤ w). let e : r ≡ 65535 = o.none z in omega arith)
        (λ (z : w < 65535). let e : r ≡ w + 1 = o.some z in omega arith)
        (le_or_lt 65535 w)

    lift : (X : List Part → Type 0) (v : ℕ) → Best X v → ((ps : List Part) → X ps → Longer (total ps)) → w ≡ v → (r ≡ 65535) ⊎ ((ps : List Part) × Gaps B i (suc q) ps × (total ps ≡ r))
    unfolding Longer
    lift X v b into e =
        ⊎_elim
        (λ (z : 65535 ≤ w). inl (o.none z))
        (λ (z : w < 65535).
        ⊎_elim
        (λ (y : v ≡ 65535). absurd (omega arith))
        (λ (y : (ps : List Part) × X ps × (total ps ≡ v)).
        let g : Longer (total y.0) = into y.0 y.1 in
        let e' : r ≡ w + 1 = o.some z in
        let e'' : total y.0 ≡ v = y.2 in
        let e''' : total g.0 ≡ total y.0 + 1 = g.2 in
        inr (g.0, g.1, omega arith))
        b.reached)
        (le_or_lt 65535 w)

    pub gaps_step : Best (Gaps B i (suc q)) r
    unfolding Longer
    gaps_step =
        record { reached = ⊎_elim (lift (Gaps B (i + 1) (suc q)) h bh grow) (lift (Permitted B (i + 1) q) u bu begin) l.is; least = least }
      where
        least : (ps : List Part) → Gaps B i (suc q) ps → r ≤ total ps
        least [] p = absurd p.1
        least (piece L ∷ ps) p = absurd p.1
        least (gap zero ∷ ps) p = let k : 1 ≤ 0 = p.0.tiles.0 in absurd (omega arith)
        least (gap (suc zero) ∷ ps) p =
            let f : suc (gaps ps) ≤ suc q = p.0.few in
            let k : u ≤ total ps = bu.least ps (record { tiles = p.0.tiles.2; few = omega arith }) in
            let j : w ≤ u = l.right in
            let z : r ≤ total ps + 1 = low (total ps) (omega arith) in omega arith
        least (gap (suc (suc L)) ∷ ps) p =
            let e : i + suc (suc L) ≡ i + 1 + suc L = omega arith in
            let k : h ≤ suc L + total ps = bh.least (gap (suc L) ∷ ps) (record { tiles = (omega arith, p.0.tiles.1, subst (λ (z : ℕ). Tiles B z ps) e p.0.tiles.2); few = p.0.few }, tt) in
            let j : w ≤ h = l.left in
            let z : r ≤ suc L + total ps + 1 = low (suc L + total ps) (omega arith) in omega arith
