-- The records followed one after the other: what is left of a file tells whether the file is a permitted tiling. Assumes nothing.
use Rattle.std.proofs.Common.{◌≡◌, ℕ, ◌+◌, ◌%◌, ◌≤◌, ◌<◌, Bool, true, false, leb, eqb, List, [], ◌∷◌, ◌++◌}
use Rattle.std.proofs.Common.{length, take, drop, length-append, take_all, drop_at, refl, sym, ap, ap₂, ◌∙◌, subst, ◌⊎◌, inl, inr, arith}
use Rattle.std.proofs.lemmas.List.{nil_from_length}
use mir.Val.{bool_byte}
use Rattle.terms.specs.Tells.{Tells}
use Rattle.terms.specs.Texts.{Text, size}
use Rattle.terms.specs.declared.limits.Limits.{Limits}
use Rattle.terms.proofs.Told.{tells_iff, tells_leb, tells_eqb}
use Rattle.tilings.specs.Tilings.{Part, piece, gap, gaps, GapFirst, Tiles}
use Rattle.tilings.specs.Laws.{length_of}
use Rattle.boards.specs.Pieces.{board}
use Rattle.records.specs.Records.{record_of, records_from}
use Rattle.reader.specs.Reader.{record_bytes, record_at}
use Rattle.reader.specs.Laws.{saying_of}
use Rattle.reader.specs.declared.Record.{Record}
use Rattle.reader.proofs.Bytes.{says}
use Rattle.judged.specs.Judged.{PartAt, Right}
use Rattle.returned.specs.Work.{Rest, AllRight, Decides}
use Rattle.returned.proofs.Records.{first, all_first, all_later}

-- Whether what is left is a tiling, the next part beginning at i, q gaps being used up, and b where a gap is behind.
unfoldable pub DecidesRest : Bool → ℕ → ℕ → List ℕ → ℕ → ℕ → Bool → Type 0
DecidesRest r n g left i q b = (x : Text) (l : Limits) → size x ≡ n → l.g ≡ g → AllRight x l left → Tells r (Rest x l left i q b)

-- One record s further, its record being r.
module _ (s t : List ℕ) (six : length s ≡ 6) (r : Record) (e : r ≡ record_at s 0) (i q : ℕ) (b : Bool) where
  module _ (x : Text) (l : Limits) where
    said : (j : ℕ) (p : Part) → record_bytes s 0 ≡ record_of x j p → r ≡ saying_of x j p
    said j p w = e ∙ says x s 0 (omega arith) j p w

    abbrev Turn : Record → Type 0
    Turn r = (r.start ≡ i) × (b ≡ true → r.tag ≡ 71 → ⊥) × Rest x l t (i + r.length) (q + bool_byte (eqb r.tag 71)) (eqb r.tag 71)

    turned : Rest x l (s ++ t) i q b → Turn r
    turned h = go h.parts h.tiles h.few h.apart h.written
      where
        on : (p : Part) (ps : List Part) → Tiles (board x l) i (p ∷ ps) → gaps (p ∷ ps) + q ≤ l.g → (b ≡ true → GapFirst (p ∷ ps) → ⊥)
            → t ≡ records_from x (i + length_of p) ps → Turn (saying_of x i p)
        on (piece L) ps k f a w =
            (refl, (λ _ z. omega arith), record { parts = ps; tiles = k.1; few = omega arith; apart = λ z _. let y : false ≡ true = z in cc; written = w })
        on (gap L) ps k f a w =
            (refl, (λ z _. a z tt), record { parts = ps; tiles = k.2; few = omega arith; apart = λ _. k.1; written = w })

        go : (ps : List Part) → Tiles (board x l) i ps → gaps ps + q ≤ l.g → (b ≡ true → GapFirst ps → ⊥) → s ++ t ≡ records_from x i ps → Turn r
        go [] k f a w = absurd (omega (arith, length-append s t, ap length w))
        go (p ∷ ps) k f a w =
            subst Turn (sym (said i p (sym (first x l s t six) ∙ ap (take 6) w))) (on p ps k f a (sym (drop_at s t 6 six) ∙ ap (drop 6) w))

    back : Right x l (record_bytes s 0) → Turn r → Rest x l (s ++ t) i q b
    back w u = go w.start w.part w.is (sym (take_all 6 s (omega arith)) ∙ w.written) (subst Turn (said w.start w.part w.written) u)
      where
        go : (j : ℕ) (p : Part) → PartAt (board x l) j p → s ≡ record_of x j p → Turn (saying_of x j p) → Rest x l (s ++ t) i q b
        go j (piece L) k v u =
            let h = u.2 in
            record {
              parts = piece L ∷ h.parts;
              tiles = (rw u.0 at k, h.tiles);
              few = omega (arith, h.few);
              apart = λ _ f. f;
              written = ap₂ (λ (y z : List ℕ). y ++ z) (rw u.0 at v) h.written;
            }
        go j (gap L) k v u =
            let h = u.2 in
            record {
              parts = gap L ∷ h.parts;
              tiles = (k.0, h.apart refl, h.tiles);
              few = omega (arith, h.few);
              apart = λ z _. u.1 z refl;
              written = ap₂ (λ (y z : List ℕ). y ++ z) (rw u.0 at v) h.written;
            }

  module _ (n g : ℕ) (whole : List ℕ) (cut : whole ≡ s ++ t) where
    pub follow_off : (r.start ≡ i → ⊥) ⊎ ((b ≡ true) × (r.tag ≡ 71)) → DecidesRest false n g whole i q b
    unfolding DecidesRest Tells
    follow_off o x l a c all y =
        let k = turned x l (rw cut at y) in elim o [ inl h ↦ h k.0 | inr h ↦ k.1 h.0 h.1 ]

    pub follow_on : r.start ≡ i → ((b ≡ true) × (r.tag ≡ 71 → ⊥)) ⊎ (b ≡ false) → (u : ℕ) → u ≡ bool_byte (eqb r.tag 71)
        → (v : Bool) → DecidesRest v n g t (i + r.length) (q + u) (eqb r.tag 71) → DecidesRest v n g whole i q b
    unfolding DecidesRest
    follow_on m o u z v h x l a c every =
        let all = rw cut at every in
        tells_iff v _ _ (rw z at (h x l a c (all_later x l s t six all))) (λ y. rw cut (back x l (all_first x l s t six all) (m, apart, y)))
        (λ y. (turned x l (rw cut at y)).2)
      where
        apart : b ≡ true → r.tag ≡ 71 → ⊥
        apart y k = elim o [ inl p ↦ p.1 k | inr p ↦ let z : false ≡ true = sym p ∙ y in cc ]

module _ (n g : ℕ) where
  -- the whole file is left at the start
  pub follow_start : (file : List ℕ) (v : Bool) → DecidesRest v n g file 0 0 false → Decides v n g file
  unfolding DecidesRest
  follow_start file v h x l a c all =
      tells_iff v _ _ (h x l a c all)
      (λ r. record { parts = r.parts; permitted = record { tiles = r.tiles; few = omega (arith, r.few) }; written = r.written })
      (λ r. record { parts = r.parts; tiles = r.permitted.tiles; few = omega (arith, r.permitted.few); apart = λ z _. let y : false ≡ true = z in cc; written = r.written })

  -- nothing is left at the end
  module _ (left : List ℕ) (i q : ℕ) (b : Bool) (low : length left < 6) (even : length left % 6 ≡ 0) where
    module _ (x : Text) (l : Limits) where
      ended : Rest x l left i q b → (i ≡ size x) × (q ≤ l.g)
      ended r = go r.parts r.tiles r.few r.written
        where
          go : (ps : List Part) → Tiles (board x l) i ps → gaps ps + q ≤ l.g → left ≡ records_from x i ps → (i ≡ size x) × (q ≤ l.g)
          go [] k f w = (k, omega arith)
          go (p ∷ ps) k f w = absurd (omega (arith, ap length w))

    pub off_end : (i ≡ n → ⊥) → DecidesRest (eqb i n) n g left i q b
    unfolding DecidesRest
    off_end h x l a c all = tells_iff _ _ _ (tells_eqb i n) (λ z. absurd (h z)) (λ r. (ended x l r).0 ∙ a)

    pub follow_end : i ≡ n → DecidesRest (leb q g) n g left i q b
    unfolding DecidesRest
    follow_end h x l a c all =
        tells_iff _ _ _ (tells_leb q g)
        (λ few. record { parts = []; tiles = h ∙ sym a; few = omega arith; apart = λ _ f. f; written = nil_from_length left (omega arith) })
        (λ r. let k = (ended x l r).1 in omega arith)

-- For `tiles`.
pub ruleset following = (follow_start, off_end, follow_end)
