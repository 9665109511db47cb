-- The tests of one record. Assumes nothing.
use mathlib.Core.Path.{◌≡◌, sym, ap, ap₂, ◌∙◌, subst₂}
use mathlib.Core.Bool.{Bool, false}
use mathlib.Core.List.{List}
use mathlib.Core.Logic.{◌⊎◌, inl, inr, ⊎_elim}
use Prim.Native.Nat.{ℕ, ◌+◌, ◌-◌, ◌≤◌, ◌<◌}
use native.Mathlib.Omega.{arith}
use lib.Dec.{leb, eqb}
use lib.ListN.{length}
use Rattle.terms.specs.Tells.{Tells}
use Rattle.terms.specs.Texts.{Text, size}
use Rattle.terms.specs.Passed.{SoundText, SoundLimits}
use Rattle.terms.specs.declared.limits.Limits.{Limits}
use Rattle.terms.proofs.Told.{tells_iff, tells_leb, tells_eqb}
use Rattle.spans.specs.Palindromes.{MaximalLength, error_count}
use Rattle.spans.proofs.Exactness.{Bytes, errors_same}
use Rattle.tilings.specs.Tilings.{Part, piece, gap}
use Rattle.boards.specs.Pieces.{Piece, board}
use Rattle.boards.proofs.Centred.{maximal_piece, piece_maximal}
use Rattle.boards.proofs.Laws.{piece_inside, piece_errors}
use Rattle.records.specs.Records.{tag_of}
use Rattle.reader.specs.Reader.{record_bytes, record_at}
use Rattle.reader.specs.Laws.{saying_of}
use Rattle.reader.specs.declared.Record.{Record}
use Rattle.reader.proofs.Bytes.{says, written}
use Rattle.judged.specs.Judged.{PartAt, Right}
use Rattle.judged.specs.Work.{RightPiece}

-- A span with so many errors: what it lacks to be a piece, and what makes it one.
module _ (x : Text) (l : Limits) (a L e : ℕ) where
  pub too_short : L < l.m → Tells false (RightPiece x l a L e)
  unfolding Tells
  too_short h p = let k = p.is.long in omega arith

  pub goes_past : size x < a + L → Tells false (RightPiece x l a L e)
  unfolding Tells
  goes_past h p = omega (arith, piece_inside x l a L p.is)

  pub other_errors : (k : ℕ) → k ≡ error_count x.letters x.map a L → (k ≡ e → ⊥) → Tells false (RightPiece x l a L e)
  unfolding Tells
  other_errors k c n p = n (c ∙ p.errors)

  module _ (sound : SoundText x) (limited : SoundLimits l) (bytes : Bytes x.letters) (long : l.m ≤ L) (inside : a + L ≤ size x) (k : ℕ) (c : k ≡ error_count x.letters x.map a L) (h : k ≡ e) where
    some : 1 ≤ L
    some = let y = limited.some in omega arith

    -- kind 1: no error, whatever the alphabet
    pub tells_one : l.kind ≡ 1 → Tells (eqb k 0) (RightPiece x l a L e)
    tells_one one =
        tells_iff _ _ _ (tells_eqb k 0)
        (λ z. record { is = record { long = long; is = inl (one, record { some = some; inside = inside; same = errors_same x.letters x.map sound.back bytes a L (omega arith) }) }; errors = sym c ∙ h })
        (λ p. let y = piece_errors x l a L p.is in let d = limited.exact one in omega arith)

    -- kind 2: as long as the walk of the centre
    pub tells_two : (l.kind ≡ 1 → ⊥) → (r : ℕ) → MaximalLength x l.d (a + a + L - 1) r → Tells (eqb L r) (RightPiece x l a L e)
    tells_two n r most =
        let two : l.kind ≡ 2 = ⊎_elim (λ (y : l.kind ≡ 1). absurd (n y)) (λ (y : l.kind ≡ 2). y) limited.kind in
        tells_iff _ _ _ (tells_eqb L r) (λ z. record { is = maximal_piece x l sound limited bytes a L r some inside most two long (sym z); errors = sym c ∙ h }) (λ p. sym (piece_maximal x l sound limited bytes a L r some inside most two p.is))

-- The six bytes from a place, and the record read of them.
module _ (x : Text) (l : Limits) (file : List ℕ) (at : ℕ) (whole : at + 6 ≤ length file) (bytes : Bytes file) (r : Record) (read : r ≡ record_at file at) where
  abbrev Rightly : Type 0
  Rightly = Right x l (record_bytes file at)

  said : (w : Rightly) → r ≡ saying_of x w.start w.part
  said w = read ∙ says x file at whole w.start w.part w.written

  rightly : (p : Part) → PartAt (board x l) r.start p → r ≡ saying_of x r.start p → Rightly
  rightly p is e = record { start = r.start; part = p; is = is; written = written x file at whole r.start p bytes (sym read ∙ e) }

  -- a piece's tag
  module _ (tag : r.tag ≡ 80) where
    piece_right : RightPiece x l r.start r.length r.errors → Rightly
    piece_right p = rightly (piece r.length) p.is (let e = p.errors in cc)

    right_piece : Rightly → RightPiece x l r.start r.length r.errors
    right_piece w = go w.start w.part w.is (said w)
      where
        go : (i : ℕ) (p : Part) → PartAt (board x l) i p → r ≡ saying_of x i p → RightPiece x l r.start r.length r.errors
        go i (piece M) q s =
            let u : i ≡ r.start = sym (ap (λ (z : Record). z.start) s) in
            let v : M ≡ r.length = sym (ap (λ (z : Record). z.length) s) in
            record { is = subst₂ (Piece x l) u v q; errors = ap₂ (error_count x.letters x.map) (sym u) (sym v) ∙ sym (ap (λ (z : Record). z.errors) s) }
        go i (gap M) q s = absurd (let t : r.tag ≡ 71 = ap (λ (z : Record). z.tag) s in omega arith)

    pub tells_piece : (t : Bool) → Tells t (RightPiece x l r.start r.length r.errors) → Tells t Rightly
    tells_piece t h = tells_iff t Rightly (RightPiece x l r.start r.length r.errors) h piece_right right_piece

  -- no tag at all
  pub no_tag : (r.tag ≡ 80 → ⊥) → (r.tag ≡ 71 → ⊥) → Tells false Rightly
  unfolding Tells
  no_tag a b w = go w.part (ap (λ (z : Record). z.tag) (said w))
    where
      go : (p : Part) → r.tag ≡ tag_of p → ⊥
      go (piece M) t = a t
      go (gap M) t = b t

  -- a gap's tag
  module _ (tag : r.tag ≡ 71) where
    right_gap : Rightly → (r.errors ≡ 0) × (1 ≤ r.length) × (r.start + r.length ≤ size x)
    right_gap w = go w.start w.part w.is (said w)
      where
        go : (i : ℕ) (p : Part) → PartAt (board x l) i p → r ≡ saying_of x i p → (r.errors ≡ 0) × (1 ≤ r.length) × (r.start + r.length ≤ size x)
        go i (piece M) q s = absurd (let t : r.tag ≡ 80 = ap (λ (z : Record). z.tag) s in omega arith)
        go i (gap M) q s =
            let u : r.start ≡ i = ap (λ (z : Record). z.start) s in
            let v : r.length ≡ M = ap (λ (z : Record). z.length) s in
            (ap (λ (z : Record). z.errors) s, omega (arith, q.0), omega (arith, q.1))

    no_gap : ((r.errors ≡ 0) × (r.length ≡ 0)) ⊎ (r.errors ≡ 0 → ⊥) → Tells false Rightly
    unfolding Tells
    no_gap (inl p) w = let h = (right_gap w).1 in let z = p.1 in omega arith
    no_gap (inr n) w = n (right_gap w).0

    pub not_gap : (b : Bool) → b ≡ false → ((r.errors ≡ 0) × (r.length ≡ 0)) ⊎ (r.errors ≡ 0 → ⊥) → Tells b Rightly
    not_gap b e h = rw e (no_gap h)

    pub tells_gap : r.errors ≡ 0 → (r.length ≡ 0 → ⊥) → Tells (leb (r.start + r.length) (size x)) Rightly
    tells_gap z some = tells_iff _ _ _ (tells_leb (r.start + r.length) (size x)) (λ h. rightly (gap r.length) (omega arith, h) (cc)) (λ w. (right_gap w).2)
