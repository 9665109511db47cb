-- From what the engine finds to what is handed over of the string's own board. Assumes nothing.
use mathlib.Core.Path.{◌≡◌, refl, sym, ap, ◌∙◌, subst}
use mathlib.Core.List.{List, [], ◌∷◌, ◌++◌}
use mathlib.Core.Logic.{inl, inr, ⊎_elim}
use Prim.Native.Nat.{ℕ, ◌+◌, ◌*◌, ◌≤◌, ◌<◌}
use native.Mathlib.Omega.{arith}
use lib.ListN.{length, get_or, take, drop, length-map}
use lib.Seq.{length-take-le}
use Rattle.std.specs.Prelude.{Ok}
use Rattle.terms.specs.Texts.{Text, size}
use Rattle.terms.specs.Passed.{SoundText, SoundLimits}
use Rattle.terms.specs.declared.limits.Limits.{Limits}
use Rattle.terms.proofs.Passed.{sound_bytes}
use Rattle.spans.specs.Centres.{Holds}
use Rattle.tilings.specs.Tilings.{Board, Part, piece, gap, total, Tiles, None, Given, Least, Entry, Table}
use Rattle.tilings.specs.Work.{board_by, decode, decoded}
use Rattle.tilings.proofs.Covers.{gaps_fit}
use Rattle.tilings.proofs.Heads.{given_total}
use Rattle.boards.specs.Pieces.{board}
use Rattle.boards.proofs.Laws.{piece_inside, piece_errors}
use Rattle.boards.proofs.Transfer.{Transfer, transfer}
use Rattle.table.specs.Work.{Known}
use Rattle.reading.specs.Work.{ReadOut}
use Rattle.records.specs.Records.{record_size, records_from}
use Rattle.records.specs.Work.{Writable}
use Rattle.questions.specs.Tiling.{Answer, refusal, HandsOver}
use Rattle.questions.specs.Work.{HandsOverOn}
use Rattle.questions.proofs.Handed.{handing_whole}

module _ (x : Text) (l : Limits) (lens : List ℕ) (sound : SoundText x) (limited : SoundLimits l) (held : Holds x l.d lens) where
  -- the board that the engine works on, and the way from it
  abbrev By : Board
  By = board_by lens (size x) l.kind l.m

  over : Transfer x l lens sound limited (sound_bytes x sound) held
  over = transfer x l lens sound limited (sound_bytes x sound) held

  pub over_table : (b a : List ℕ) → Table By l.g b a → Table (board x l) l.g b a
  over_table = over.table l.g

  -- every tiling can be written: parts lie within the letters, and errors fit a byte
  writable : (i : ℕ) (ps : List Part) → Tiles (board x l) i ps → Writable x i ps
  unfolding Writable
  writable i [] t = tt
  writable i (piece L ∷ ps) t =
      let e = piece_errors x l i L t.0 in
      let d = limited.near in
      (record { inside = piece_inside x l i L t.0; byte = omega arith }, writable (i + L) ps t.1)
  writable i (gap L ∷ ps) t =
      let k : i + L + total ps ≤ size x = gaps_fit (board x l) (i + L) ps t.2 in
      (record { inside = omega arith; byte = omega arith }, writable (i + L) ps t.2)

  pub over_writable : (ps : List Part) → Given By 0 l.g ps → Writable x 0 ps
  over_writable ps g = let h = over.given 0 l.g ps g in writable 0 ps h.permitted.tiles

  pub over_handed : (room room' : List ℕ) (r : Answer) → HandsOverOn x By l.g room room' r → HandsOver x l room room' r
  over_handed room room' r (inl n) = inl (over.none 0 l.g n.0, n.1, n.2)
  over_handed room room' r (inr w) = inr (w.0, over.given 0 l.g w.0 w.1, w.2, w.3)

-- What a full table says of the whole string, on a board of at most 1,000 letters.
module _ (x : Text) (B : Board) (g : ℕ) (t : List ℕ) (short : B.size ≤ 1000) (known : Known B g 0 t) (u : ℕ) (read : u ≡ get_or t (0 * (g + 1) + g) 0) where
  entry : Entry B 0 g u
  entry = subst (Entry B 0 g) (sym read) (known.at 0 g (omega arith) (omega arith) (omega arith))

  least : u < 65535 → Least B 0 g u
  least h = ⊎_elim (λ (a : Least B 0 g u). a) (λ (n : (u ≡ 65535) × None B 0 g). let z : u ≡ 65535 = n.0 in absurd (omega arith)) entry

  pub handed_none : u ≡ 65535 → (room : List ℕ) → HandsOverOn x B g room room (refusal 10)
  handed_none z room = inl (none, refl, refl)
    where
      none : None B 0 g
      none =
          ⊎_elim
          (λ (a : Least B 0 g u).
          let k : 0 + total a.reached.0 ≤ B.size = gaps_fit B 0 a.reached.0 a.reached.1.tiles in
          let e : total a.reached.0 ≡ u = a.reached.2 in absurd (omega arith))
          (λ (n : (u ≡ 65535) × None B 0 g). n.1)
          entry

  module _ (parts count : ℕ) (codes : List ℕ) (ro : ReadOut B g parts count codes) (fit : parts ≤ length codes) where
    pub handed_given : u < 65535 → (v : ℕ) → v ≡ u → (room room' : List ℕ) → record_size * parts ≤ length room
        → room' ≡ records_from x 0 (decoded parts codes) ++ drop (record_size * length (take parts codes)) room → HandsOverOn x B g room room' (Ok (record { total = v; parts = parts; gaps = count }))
    handed_given z v y room room' h q =
        let ps : List Part = decoded parts codes in
        let l : length ps ≡ length (take parts codes) = length-map (take parts codes) decode in
        let m : length ps ≡ parts = l ∙ length-take-le parts codes fit in
        let e = handing_whole x ps room (omega arith) in
        let s : total ps ≡ v = given_total B 0 g u ps ro.given (least z) ∙ sym y in
        inr (
          ps,
          ro.given,
          (λ i. Ok (record { total = sym s i; parts = sym m i; gaps = sym ro.gapped i })) ∙ sym (ap (λ (y : Answer × List ℕ). y.0) e),
          q ∙ ap (λ (k : ℕ). records_from x 0 ps ++ drop (record_size * k) room) (sym l) ∙ sym (ap (λ (y : Answer × List ℕ). y.1) e),
        )
