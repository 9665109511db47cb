-- The lines read off the records of a tiling are its part lines. Assumes nothing.
use mathlib.Core.Path.{◌≡◌, refl, sym, ap, ap₂, ◌∙◌}
use mathlib.Core.List.{List, [], ◌∷◌, ◌++◌, append_assoc, append-nil}
use Prim.Native.Nat.{ℕ, zero, suc, ◌+◌, ◌*◌, ◌/◌, ◌%◌, ◌≤◌, ◌<◌}
use native.Mathlib.Omega.{arith}
use Rattle.std.proofs.Math.Nat.{add-zero}
use lib.ListN.{length, get_or, get_or-append, length-append, drop}
use lib.Seq.{get_or-append-add, drop-append_seam}
use Rattle.std.proofs.lemmas.List.{length-drop, get_or-drop, drop-drop}
use Rattle.terms.specs.Texts.{Text}
use Rattle.tilings.specs.Tilings.{Part}
use Rattle.tilings.specs.Laws.{length_of}
use Rattle.records.specs.Records.{tag_of, errors_of, records_from}
use Rattle.printing.specs.Printing.{printed}
use Rattle.replies.specs.Replies.{part_lines}
use Rattle.replies.specs.Work.{record_line, record_lines}

-- a room that begins with a record
module _ (a b c d e f : ℕ) (room : List ℕ) where
  past : (j : ℕ) → get_or (a ∷ b ∷ c ∷ d ∷ e ∷ f ∷ room) (6 + j) 0 ≡ get_or room j 0
  past j = get_or-append-add (a ∷ b ∷ c ∷ d ∷ e ∷ f ∷ []) room j 0

  later : (i j : ℕ) → j ≡ 6 + i → record_line (a ∷ b ∷ c ∷ d ∷ e ∷ f ∷ room) j ≡ record_line room i
  later i j q =
      let at : (m : ℕ) → get_or (a ∷ b ∷ c ∷ d ∷ e ∷ f ∷ room) (j + m) 0 ≡ get_or room (i + m) 0 =
      λ m. let z : j + m ≡ 6 + (i + m) = omega arith in ap (λ (k : ℕ). get_or (a ∷ b ∷ c ∷ d ∷ e ∷ f ∷ room) k 0) z ∙ past (i + m) in
      let first : get_or (a ∷ b ∷ c ∷ d ∷ e ∷ f ∷ room) j 0 ≡ get_or room i 0 = ap (λ (k : ℕ). get_or (a ∷ b ∷ c ∷ d ∷ e ∷ f ∷ room) k 0) q ∙ past i in
      rw (first, at 1, at 2, at 3, at 4, at 5)

  behind : (k : ℕ) → record_lines (a ∷ b ∷ c ∷ d ∷ e ∷ f ∷ room) (suc k) ≡ record_line (a ∷ b ∷ c ∷ d ∷ e ∷ f ∷ room) 0 ++ record_lines room k
  behind zero = sym (append-nil (record_line (a ∷ b ∷ c ∷ d ∷ e ∷ f ∷ room) 0))
  behind (suc k) =
      ap₂ (λ (y z : List ℕ). y ++ z) (behind k) (later (6 * k) (6 * suc k) (omega arith))
      ∙ append_assoc (record_line (a ∷ b ∷ c ∷ d ∷ e ∷ f ∷ room) 0) (record_lines room k) (record_line room (6 * k))

pub lines_of_records : (x : Text) (i : ℕ) (ps : List Part) → record_lines (records_from x i ps) (length ps) ≡ part_lines x i ps
lines_of_records x i [] = refl
lines_of_records x i (p ∷ ps) =
    let start : i / 256 * 256 + i % 256 ≡ i = omega arith in
    let long : length_of p / 256 * 256 + length_of p % 256 ≡ length_of p = omega arith in
    behind (tag_of p) (errors_of x i p) (i / 256) (i % 256) (length_of p / 256) (length_of p % 256) (records_from x (i + length_of p) ps) (length ps)
    ∙ ap₂ (λ (y z : List ℕ). y ++ z)
    (ap₂ (λ (m n : ℕ). printed (tag_of p) (m ∷ n ∷ errors_of x i p ∷ [])) start long)
    (lines_of_records x (i + length_of p) ps)

-- six bytes that come next are the next record, and behind them the others come
pub next_record : (room bytes rest : List ℕ) (k : ℕ) → bytes ++ rest ≡ drop (6 * k) room → length bytes ≡ 6
    → (6 * suc k ≤ length room) × (rest ≡ drop (6 * suc k) room) × (record_line bytes 0 ≡ record_line room (6 * k))
next_record room bytes rest k e s =
    let long = simp (length-append, length-drop, s) at (ap length e) in
    let more : 6 * suc k ≤ length room = omega arith in
    let at : (j : ℕ) → j < 6 → get_or bytes j 0 ≡ get_or room (6 * k + j) 0 =
    λ j h. sym (get_or-append bytes rest 0 j (omega arith)) ∙ (ap (λ (l : List ℕ). get_or l j 0) e ∙ get_or-drop (6 * k) room j 0) in
    let behind : drop 6 (bytes ++ rest) ≡ rest = rw (← s) (drop-append_seam bytes rest) in
    let six : 6 * k + 6 ≡ 6 * suc k = omega arith in (
      more,
      sym behind ∙ (ap (drop 6) e ∙ (drop-drop 6 (6 * k) room ∙ ap (λ (n : ℕ). drop n room) six)),
      rw (at 0 (omega arith), at 1 (omega arith), at 2 (omega arith), at 3 (omega arith), at 4 (omega arith), at 5 (omega arith)) (simp add-zero),
    )
