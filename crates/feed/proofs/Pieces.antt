-- What pieces have to do with lines (specs/Laws.antt). Assumes nothing.
use mathlib.Core.Path.{◌≡◌, refl, sym, ◌∙◌}
use mathlib.Core.Bool.{cond}
use mathlib.Core.List.{List, [], ◌∷◌, ◌++◌, append-nil}
use Prim.Native.Nat.{ℕ, suc, ◌+◌}
use native.Mathlib.Omega.{arith}
use native.Mathlib.Decide.{ℕ_discrete}
use lib.Dec.{leb-suc-suc}
use lib.ListN.{length, drop}
use lib.Seq.{append_snoc, drop-drop}
use borrow.Author.Tests.{eq-eqb, ne_eqb, lt-ltb}
use Rattle.feed.specs.Lines.{line_end, whole_lines, last_line}
use Rattle.feed.specs.Feeding.{up_to_end, ends}
use Rattle.feed.specs.Laws.{Cutting, Feeding}

-- the lines of two pieces
cut : (line a b : List ℕ)
    → (whole_lines line (a ++ b) ≡ whole_lines line a ++ whole_lines (last_line line a) b)
    × (last_line line (a ++ b) ≡ last_line (last_line line a) b)
cut line [] b = (refl, refl)
cut line (x ∷ a) b =
    elim (ℕ_discrete x line_end) [
      | yes e ↦ rw (eq-eqb x line_end e) (rw (cut [] a b).0, (cut [] a b).1)
      | no n ↦ rw (ne_eqb x line_end n) (cut (line ++ (x ∷ [])) a b)
    ]

pub cutting : Cutting
cutting = record { whole = λ line a b. (cut line a b).0; last = λ line a b. (cut line a b).1 }

-- the bytes behind the line end
abbrev rest : List ℕ → List ℕ
rest bs = drop (suc (length (up_to_end bs))) bs

-- the first line of a piece, and the lines behind it
first : (line bs : List ℕ)
    → (whole_lines line bs ≡ cond (ends bs) ((line ++ up_to_end bs) ∷ whole_lines [] (rest bs)) [])
    × (last_line line bs ≡ cond (ends bs) (last_line [] (rest bs)) (line ++ up_to_end bs))
first line [] = (refl, sym (append-nil line))
first line (b ∷ bs) =
    elim (ℕ_discrete b line_end) [
      | yes e ↦ rw (eq-eqb b line_end e, lt-ltb 0 (suc (length bs)) (omega arith), append-nil) (refl, refl)
      | no n ↦ rw (ne_eqb b line_end n, leb-suc-suc, ← append_snoc line b (up_to_end bs)) (first (line ++ (b ∷ [])) bs)
    ]

pub feeding : Feeding
feeding =
    record {
      ended = λ line piece from room' r f w.
          let e = sym f.whole ∙ w in
          let n : r.from ≡ from + suc (length (up_to_end (drop from piece))) = f.next ∙ rw e (omega arith) in
          rw ((first line (drop from piece)).0, (first line (drop from piece)).1, e, n, ← drop-drop _ from piece) (refl, refl);
      unended = λ line piece from room' r f w.
          rw ((first line (drop from piece)).0, (first line (drop from piece)).1, sym f.whole ∙ w) (refl, refl);
    }
