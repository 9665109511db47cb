-- Rows made number by number are rows of least totals, and a row stored makes one row more of the table known. Assumes nothing.
use mathlib.Core.Path.{◌≡◌, subst}
use mathlib.Core.List.{List, [], ◌∷◌}
use mathlib.Core.Logic.{inl, inr, ⊎_elim}
use Prim.Native.Nat.{ℕ, zero, suc, ◌+◌, ◌*◌, ◌≤◌, ◌<◌}
use native.Mathlib.Omega.{arith}
use native.Mathlib.Decide.{ℕ_discrete}
use native.Mathlib.Nat.{mul-le-mul_right}
use native.Mathlib.Numerals.{add-one}
use borrow.Author.Rules.{rules}
use borrow.Rule.Slice.PartMut.{mid_of, put_mid}
use lib.ListN.{length, get_or}
use Rattle.std.proofs.lemmas.List.{places}
use Rattle.rows.proofs.Parts.{part_put}
use Rattle.rows.specs.Rows.{Cleared, Lowered, Moved, Stored}
use Rattle.terms.proofs.Order.{le_or_lt}
use Rattle.tilings.specs.Tilings.{Board, Part, piece, gap, gaps, Entry, entries}
use Rattle.tilings.specs.Work.{Best, Gaps, Lesser}
use Rattle.tilings.proofs.Best.{entry_best, best_entry, best_same, pieces_start, pieces_jump, pieces_more, pieces_all, all_best, gaps_step}
use Rattle.table.specs.Work.{Known, PieceRow, PieceRowUnder, GapRow}

-- The g + 1 numbers of the row are those of the table from index `from` on.
abbrev pub Cut : ℕ → ℕ → List ℕ → List ℕ → Type 0
Cut g from t row = (q : ℕ) → q ≤ g → get_or row q 0 ≡ get_or t (from + q) 0

pub row_cut : (g from m : ℕ) (t : List ℕ) → m ≡ g + 1 → from + m ≤ length t → Cut g from t (mid_of from m t)
row_cut g from m t e l q h = search (rules, places)

-- Rows of tilings that begin with a piece: none yet, further lengths that are no pieces, one that is, all.
pub row_none : {g : ℕ} {after : List ℕ} → Cleared after → length after ≡ g + 1 → (B : Board) (i m : ℕ) → ((L : ℕ) → B.Piece i L → m ≤ L) → PieceRowUnder B g i m after
row_none c w B i m h = record { wide = w; at = λ q k. rw (c q (omega arith)) (pieces_start B i q m h) }

module _ {B : Board} {g i M : ℕ} {row : List ℕ} (r : PieceRowUnder B g i M row) where
  pub row_jump : {N : ℕ} → M ≤ N → ((L : ℕ) → B.Piece i L → L < N → L < M) → PieceRowUnder B g i N row
  row_jump {N} l h = record { wide = r.wide; at = λ q k. pieces_jump B i q M N _ l h (r.at q k) }

  pub row_skip : (B.Piece i M → ⊥) → PieceRowUnder B g i (M + 1) row
  row_skip h =
      row_jump (omega arith)
      (λ L p l. elim (ℕ_discrete L M) [ yes e ↦ absurd (h (subst (B.Piece i) e p)) | no e ↦ omega arith ])

  pub row_more : {t below after : List ℕ} → Known B g (i + 1) t → 1 ≤ M → i + M ≤ B.size → B.Piece i M → Cut g ((i + M) * (g + 1)) t below → Lowered row below after → PieceRowUnder B g i (M + 1) after
  row_more k s h p b l =
      record {
        wide = rw l.long r.wide;
        at = λ q j.
            let x = rw (b q j) at (l.at q (omega (arith, r.wide))) in
            pieces_more B i q M _ _ _ p (entry_best B (i + M) q _ (k.at (i + M) q (omega arith) h j)) (r.at q j)
            (record { left = x.right; right = x.left; is = ⊎_elim inr inl x.is });
      }

  pub row_all : ((L : ℕ) → B.Piece i L → L < M) → PieceRow B g i row
  row_all h = record { wide = r.wide; at = λ q k. pieces_all B i q M _ h (r.at q k) }

-- The row of tilings that begin with a gap, a letter earlier.
no_gaps : (B : Board) (i : ℕ) (ps : List Part) → Gaps B i 0 ps → ⊥
no_gaps B i [] p = p.1
no_gaps B i (piece L ∷ ps) p = p.1
no_gaps B i (gap L ∷ ps) p = let k : suc (gaps ps) ≤ 0 = p.0.few in omega arith

pub gap_row_next : {B : Board} {g i : ℕ} {t before below after : List ℕ} → i < B.size → Known B g (i + 1) t → GapRow B g (i + 1) before → Cut g ((i + 1) * (g + 1)) t below → Moved before below after → GapRow B g i after
gap_row_next {B} {g} {i} {t} {before} {below} {after} h k b c m = record { wide = rw m.long b.wide; at = at }
  where
    at : (q : ℕ) → q ≤ g → Best (Gaps B i q) (get_or after q 0)
    at zero j =
        rw m.first
        (best_same (Gaps B (i + 1) 0) (Gaps B i 0) _ (λ ps p. absurd (no_gaps B (i + 1) ps p)) (λ ps p. absurd (no_gaps B i ps p)) (b.at 0 j))
    at (suc q) j =
        let x = rw (c q (omega arith), add-one q) at (m.at q (omega (arith, b.wide))) in
        gaps_step B i q _ _ _ _ (b.at (suc q) j) (entry_best B (i + 1) q _ (k.at (i + 1) q (omega arith) (omega arith) (omega arith))) x.1 x.2

-- Row i of the table is stored, the lesser of two rows; all else stays.
pub record RowStored (g i : ℕ) (row gaps before after : List ℕ) : Type 0 where
  pub long : length after ≡ length before
  pub at : (q : ℕ) → q ≤ g → Lesser (get_or row q 0) (get_or gaps q 0) (get_or after (i * (g + 1) + q) 0)
  pub stay : (k : ℕ) → (i + 1) * (g + 1) ≤ k → get_or after k 0 ≡ get_or before k 0

pub row_stored : (g i m : ℕ) {row gaps : List ℕ} (before part : List ℕ) → m ≡ g + 1 → i * (g + 1) + m ≤ length before → length part ≡ m → Stored row gaps part → RowStored g i row gaps before (put_mid (i * (g + 1)) m before part)
row_stored g i m before part e l w s =
    let p = part_put (i * (g + 1)) m before part l w in
    record { long = p.long; at = λ q h. rw (p.held q (omega arith)) (s q (omega arith)); stay = λ k h. p.past k (omega arith) }

-- A row stored whose entries are right, before rows that are.
module _ (B : Board) {g i : ℕ} {row gaps t after : List ℕ} (s : RowStored g i row gaps t after) where
  pub known_stored : entries B.size g ≤ length t → ((q v : ℕ) → q ≤ g → Lesser (get_or row q 0) (get_or gaps q 0) v → Entry B i q v) → ((j q : ℕ) → i < j → j ≤ B.size → q ≤ g → Entry B j q (get_or t (j * (g + 1) + q) 0)) → Known B g i after
  known_stored r new old = record { room = rw s.long r; at = at }
    where
      at : (j q : ℕ) → i ≤ j → j ≤ B.size → q ≤ g → Entry B j q (get_or after (j * (g + 1) + q) 0)
      at j q l h k =
          ⊎_elim
          (λ (w : j ≤ i).
          let e : i ≡ j = omega arith in subst (λ (z : ℕ). Entry B z q (get_or after (z * (g + 1) + q) 0)) e (new q _ k (s.at q k)))
          (λ (w : i < j).
          let m : suc i * (g + 1) ≤ j * (g + 1) = mul-le-mul_right (g + 1) w in
          rw (s.stay (j * (g + 1) + q) (omega arith)) (old j q w h k))
          (le_or_lt j i)

  pub known_row : B.size < 65535 → i < B.size → Known B g (i + 1) t → PieceRow B g i row → GapRow B g i gaps → Known B g i after
  known_row z h k p b =
      known_stored k.room
      (λ q v j l. best_entry B z i q v (all_best B i q _ _ v h (p.at q j) (b.at q j) l))
      (λ j q l. k.at j q (omega arith))
