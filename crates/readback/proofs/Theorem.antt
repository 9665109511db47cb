-- The worked examples hold: one test that antt computes over the table, and one law that turns it into what each example says. Assumes nothing.
use mathlib.Core.Path.{◌≡◌, refl, sym, ap, ◌∙◌, subst}
use mathlib.Core.Bool.{Bool, true, false, ◌&&◌, ◌||◌}
use mathlib.Core.List.{List, [], ◌∷◌}
use mathlib.Core.Logic.{◌⊎◌, inl, inr, ⊎_elim}
use Prim.Native.Nat.{ℕ, zero, suc, ◌+◌, ◌-◌, ◌*◌, ◌/◌, ◌%◌, ◌≤◌, ◌<◌}
use native.Mathlib.Omega.{arith}
use borrow.Author.Tests.{leb-true, ltb-true, eqb-true}
use lib.Dec.{leb, ltb, eqb}
use lib.ListN.{length, get_or, take}
use Rattle.std.specs.Prelude.{Ok}
use Rattle.terms.specs.Refusals.{first_fault}
use Rattle.terms.specs.Maps.{every_below, own_inverse, map_faults, plain_map, complement_map}
use Rattle.terms.specs.Alphabets.{all_bytes, some_below, own_partner, closed_under, spelt, alphabet_faults}
use Rattle.terms.specs.Limits.{wrong_kind, too_many_errors, kind_out_of_range, lengths_out_of_range, out_of_range, limits_faults}
use Rattle.terms.specs.Texts.{Text, size, text_faults, opening_faults, string_faults}
use Rattle.terms.specs.Tells.{Tells}
use Rattle.terms.specs.declared.limits.Limits.{Limits}
use Rattle.terms.proofs.Below.{and_left, and_right, below_at}
use Rattle.terms.proofs.Passed.{sound_opening}
use Rattle.terms.proofs.Supplied.{values_length}
use Rattle.terms.proofs.Told.{tells_iff, tells_leb, tells_eqb}
use Rattle.spans.specs.Palindromes.{one, count, wrong_pair, wrong_middle, error_count, centres}
use Rattle.spans.specs.Centres.{Holds}
use Rattle.spans.proofs.Exactness.{Bytes}
use Rattle.tilings.specs.Tilings.{Board, Part, gaps, total, None, Given, Entry, entries}
use Rattle.tilings.specs.Work.{PieceBy, board_by}
use Rattle.boards.specs.Pieces.{board}
use Rattle.boards.proofs.Transfer.{Transfer, transfer}
use Rattle.records.specs.Records.{record_size, records_from}
use Rattle.questions.specs.Tiling.{Answer, TilingReply}
use Rattle.readback.specs.Shown.{bases, text_of, Line, P, G, lines_from, parts_of, Sample, tiling, no_tiling, all_centres, TilingShown, NoneShown, CentresShown, Shown, AllShown}
use Rattle.readback.specs.Samples.{samples}
use Rattle.readback.proofs.Lengths.{outward, longest, lengths_of, lengths_held}
use Rattle.readback.proofs.Deciding.{implies, every_tiling, sooner?, same?, upfront?, better?, tiles?, permitted?, entry?, given?_is, none?_is, entry?_is}
use Rattle.readback.proofs.Showing.{none_replies, tiling_replies, centres_replies}

tells_both : (a b : Bool) (A C : Type 0) → Tells a A → Tells b C → Tells (a && b) (A × C)
unfolding Tells
tells_both true true A C h k = (h, k)
tells_both true false A C h k = λ w. k w.1
tells_both false b A C h k = λ w. h w.0

tells_either : (a b : Bool) (A C : Type 0) → Tells a A → Tells b C → Tells (a || b) (A ⊎ C)
unfolding Tells
tells_either true b A C h k = inl h
tells_either false true A C h k = inr k
tells_either false false A C h k = λ w. ⊎_elim h k w

-- Whether a span is a piece, by the list of maximal lengths.
unfoldable piece? : List ℕ → ℕ → ℕ → ℕ → ℕ → ℕ → Bool
piece? lens n kind m a L =
    leb 1 L && (leb (a + L) n && (leb m L && ((eqb kind 1 && leb L (get_or lens (a + a + L - 1) 0)) || (eqb kind 2 && eqb (get_or lens (a + a + L - 1) 0) L))))

piece?_tells : (lens : List ℕ) (n kind m a L : ℕ) → Tells (piece? lens n kind m a L) (PieceBy lens n kind m a L)
unfolding piece?
piece?_tells lens n kind m a L =
    tells_iff _ _ _
    (tells_both _ _ _ _ (tells_leb 1 L)
    (tells_both _ _ _ _ (tells_leb (a + L) n)
    (tells_both _ _ _ _ (tells_leb m L)
    (tells_either _ _ _ _
    (tells_both _ _ _ _ (tells_eqb kind 1) (tells_leb L (get_or lens (a + a + L - 1) 0)))
    (tells_both _ _ _ _ (tells_eqb kind 2) (tells_eqb (get_or lens (a + a + L - 1) 0) L))))))
    (λ w. record { some = w.0; inside = w.1.0; long = w.1.1.0; is = w.1.1.1 })
    (λ p. (p.some, (p.inside, (p.long, p.is))))

-- Letters are bytes.
small? : List ℕ → Bool
small? [] = true
small? (b ∷ s) = ltb b 256 && small? s

small_is : (s : List ℕ) → small? s ≡ true → Bytes s
unfolding small?
small_is [] t k = omega arith
small_is (b ∷ s) t zero = ltb-true b 256 (and_left _ _ t)
small_is (b ∷ s) t (suc k) = small_is s (and_right (ltb b 256) (small? s) t) k

-- Lines, one against the other.
line? : Line → Line → Bool
line? (P i L e) (P j M d) = eqb i j && (eqb L M && eqb e d)
line? (P i L e) (G j M d) = false
line? (G i L e) (P j M d) = false
line? (G i L e) (G j M d) = eqb i j && (eqb L M && eqb e d)

lines? : List Line → List Line → Bool
lines? [] [] = true
lines? [] (m ∷ ms) = false
lines? (l ∷ ls) [] = false
lines? (l ∷ ls) (m ∷ ms) = line? l m && lines? ls ms

three : (i j L M e d : ℕ) → (eqb i j && (eqb L M && eqb e d)) ≡ true → (i ≡ j) × (L ≡ M) × (e ≡ d)
three i j L M e d t =
    let u = and_right (eqb i j) _ t in (eqb-true i j (and_left _ _ t), eqb-true L M (and_left _ _ u), eqb-true e d (and_right (eqb L M) _ u))

line_is : (l m : Line) → line? l m ≡ true → l ≡ m
unfolding line?
line_is (P i L e) (P j M d) t = let w = three i j L M e d t in cc
line_is (P i L e) (G j M d) t = cc
line_is (G i L e) (P j M d) t = cc
line_is (G i L e) (G j M d) t = let w = three i j L M e d t in cc

lines_are : (ls ms : List Line) → lines? ls ms ≡ true → ls ≡ ms
unfolding lines?
lines_are [] [] t = refl
lines_are [] (m ∷ ms) t = cc
lines_are (l ∷ ls) [] t = cc
lines_are (l ∷ ls) (m ∷ ms) t =
    let h : l ≡ m = line_is l m (and_left _ _ t) in let k : ls ≡ ms = lines_are ls ms (and_right (line? l m) (lines? ls ms) t) in cc

many : (ls : List Line) → length (parts_of ls) ≡ length ls
many [] = refl
many (P i L e ∷ ls) = ap suc (many ls)
many (G i L e ∷ ls) = ap suc (many ls)

-- Numbers, one against the other.
numbers? : List ℕ → List ℕ → Bool
numbers? [] [] = true
numbers? [] (b ∷ bs) = false
numbers? (a ∷ cs) [] = false
numbers? (a ∷ cs) (b ∷ bs) = eqb a b && numbers? cs bs

numbers_are : (cs bs : List ℕ) → numbers? cs bs ≡ true → cs ≡ bs
unfolding numbers?
numbers_are [] [] t = refl
numbers_are [] (b ∷ bs) t = cc
numbers_are (a ∷ cs) [] t = cc
numbers_are (a ∷ cs) (b ∷ bs) t =
    let h : a ≡ b = eqb-true a b (and_left _ _ t) in let k : cs ≡ bs = numbers_are cs bs (and_right (eqb a b) (numbers? cs bs) t) in cc

-- an opening would accept text and limits, and letters are bytes
accepted? : Text → Limits → Bool
accepted? x l = eqb (first_fault (opening_faults x l)) 0 && small? x.letters

-- ps is the tiling given, the numbers are entries of the table, and no tiling exists: by the list of maximal lengths
given? : (ℕ → ℕ → Bool) → ℕ → ℕ → List Part → Bool
given? d n g ps = permitted? d n 0 g ps && every_tiling d n n 0 g false (better? ps)

printed? : (ℕ → ℕ → Bool) → ℕ → ℕ → List ℕ → Bool
printed? d n g T = leb (length T) (entries n g) && every_below (length T) (λ k. entry? d n (k / (g + 1)) (k % (g + 1)) (get_or T k 0))

module _ (x : Text) (l : Limits) (t : accepted? x l ≡ true) where
  clear : first_fault (opening_faults x l) ≡ 0
  unfolding accepted?
  clear = eqb-true _ 0 (and_left _ _ t)

  -- the engine's board, its pieces, and the way to the board of the string
  abbrev By : Board
  By = board_by (lengths_of x l.d) (size x) l.kind l.m

  abbrev span? : ℕ → ℕ → Bool
  span? = piece? (lengths_of x l.d) (size x) l.kind l.m

  tells : (i L : ℕ) → Tells (span? i L) (By.Piece i L)
  tells = piece?_tells (lengths_of x l.d) (size x) l.kind l.m

  bytes : Bytes x.letters
  unfolding accepted?
  bytes = small_is x.letters (and_right (eqb (first_fault (opening_faults x l)) 0) _ t)

  over : Transfer x l (lengths_of x l.d) (sound_opening x l clear).0 (sound_opening x l clear).1 bytes (lengths_held x l.d)
  over = transfer x l (lengths_of x l.d) (sound_opening x l clear).0 (sound_opening x l clear).1 bytes (lengths_held x l.d)

  none_shown : every_tiling span? (size x) (size x) 0 l.g false (λ qs. false) ≡ true → NoneShown x l
  none_shown e = let n : None (board x l) 0 l.g = over.none 0 l.g (none?_is By span? tells (λ i L p. p.some) 0 l.g e) in record { none = n; replies = none_replies x l clear n }

  tiling_shown : (sum gs : ℕ) (lines : List Line) (T : List ℕ)
      → given? span? (size x) l.g (parts_of lines) ≡ true → lines? (lines_from x 0 (parts_of lines)) lines ≡ true → total (parts_of lines) ≡ sum → gaps (parts_of lines) ≡ gs
      → printed? span? (size x) l.g T ≡ true → TilingShown x l sum gs lines T
  unfolding given? printed?
  tiling_shown sum gs lines T g e s c p =
      record { given = gv; lined = lines_are _ lines e; summed = s; counted = c; replies = replies }
    where
      gv : Given (board x l) 0 l.g (parts_of lines)
      gv = over.given 0 l.g (parts_of lines) (given?_is By span? tells (λ i L p. p.some) l.g (parts_of lines) g)

      long : length (parts_of lines) ≡ length lines
      long = many lines

      entry : (k : ℕ) → k < length T → Entry (board x l) (k / (l.g + 1)) (k % (l.g + 1)) (get_or T k 0)
      entry k h =
          over.entry (k / (l.g + 1)) (k % (l.g + 1)) (get_or T k 0)
          (entry?_is By span? tells (λ i L p. p.some) (k / (l.g + 1)) (k % (l.g + 1)) (get_or T k 0)
          (below_at (λ j. entry? span? (size x) (j / (l.g + 1)) (j % (l.g + 1)) (get_or T j 0)) (length T) k (and_right (leb (length T) (entries (size x) l.g)) _ p) h))

      replies : (table table' room room' : List ℕ) (r : Answer) → TilingReply x l table table' room room' r → entries (size x) l.g ≤ length table → record_size * length lines ≤ length room
          → (r ≡ Ok (record { total = sum; parts = length lines; gaps = gs })) × (take (record_size * length lines) room' ≡ records_from x 0 (parts_of lines)) × (take (length T) table' ≡ T)
      replies table table' room room' r q h w =
          let (a, b, d) = tiling_replies x l clear (parts_of lines) gv T (leb-true _ _ (and_left _ _ p)) entry table table' room room' r q h (omega (arith, long)) in
          (a ∙ (λ i. Ok (record { total = s i; parts = long i; gaps = c i })), ap (λ (k : ℕ). take (record_size * k) room') (sym long) ∙ b, d)

centres_shown : (x : Text) (d : ℕ) (T : List ℕ) → first_fault (text_faults x) ≡ 0 → d ≤ 15 → lengths_of x d ≡ T → CentresShown x d T
unfolding lengths_of
centres_shown x d T o h e =
    let held : Holds x d T = subst (Holds x d) e (lengths_held x d) in
    let long : length T ≡ centres (size x) = ap length (sym e) ∙ values_length (longest (own_partner x.map x.alphabet) x d) 0 (centres (size x)) in
    record { long = long; held = held; replies = centres_replies x d o h T long held }

-- The test of an example, and what it says.
shown? : Sample → Bool
shown? (tiling f s l sum gs lines T) =
    let x = text_of f s in
    let lens = lengths_of x l.d in
    let d = piece? lens (size x) l.kind l.m in
    accepted? x l && (given? d (size x) l.g (parts_of lines) && (lines? (lines_from x 0 (parts_of lines)) lines && (eqb (total (parts_of lines)) sum && (eqb (gaps (parts_of lines)) gs && printed? d (size x) l.g T))))
shown? (no_tiling f s l) =
    let x = text_of f s in
    let lens = lengths_of x l.d in
    let d = piece? lens (size x) l.kind l.m in
    accepted? x l && every_tiling d (size x) (size x) 0 l.g false (λ qs. false)
shown? (all_centres f s d T) =
    let x = text_of f s in
    eqb (first_fault (text_faults x)) 0 && (leb d 15 && numbers? (lengths_of x d) T)

shown_is : (e : Sample) → shown? e ≡ true → Shown e
unfolding shown?
shown_is (tiling f s l sum gs lines T) t =
    let x = text_of f s in
    let ps = parts_of lines in
    let d = piece? (lengths_of x l.d) (size x) l.kind l.m in
    let a = and_right (accepted? x l) _ t in
    let b = and_right (given? d (size x) l.g ps) _ a in
    let c = and_right (lines? (lines_from x 0 ps) lines) _ b in
    let e = and_right (eqb (total ps) sum) _ c in
    tiling_shown x l (and_left _ _ t) sum gs lines T (and_left _ _ a) (and_left _ _ b) (eqb-true _ _ (and_left _ _ c)) (eqb-true _ _ (and_left _ _ e)) (and_right (eqb (gaps ps) gs) _ e)
shown_is (no_tiling f s l) t = none_shown (text_of f s) l (and_left _ _ t) (and_right (accepted? (text_of f s) l) _ t)
shown_is (all_centres f s d T) t =
    let x = text_of f s in
    let a = and_right (eqb (first_fault (text_faults x)) 0) _ t in
    centres_shown x d T (eqb-true _ 0 (and_left _ _ t)) (leb-true d 15 (and_left _ _ a)) (numbers_are _ T (and_right (leb d 15) _ a))

shown_all? : List Sample → Bool
shown_all? [] = true
shown_all? (e ∷ es) = shown? e && shown_all? es

shown_all : (es : List Sample) → shown_all? es ≡ true → AllShown es
unfolding shown_all?
shown_all [] t = tt
shown_all (e ∷ es) t = (shown_is e (and_left _ _ t), shown_all es (and_right (shown? e) (shown_all? es) t))

-- The theorem: every example of the table holds.
pub all_shown : AllShown samples
unfolding shown_all? shown? accepted? small? given? printed? line? lines? numbers? piece? implies every_tiling sooner? same? upfront? better? tiles? permitted? entry? lengths_of longest outward one count wrong_pair wrong_middle error_count first_fault opening_faults text_faults map_faults limits_faults wrong_kind out_of_range lengths_out_of_range kind_out_of_range too_many_errors own_inverse every_below plain_map complement_map string_faults alphabet_faults closed_under spelt own_partner some_below all_bytes bases
all_shown = shown_all samples refl
