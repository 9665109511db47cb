-- A table made row by row, from the last, is the table. Assumes nothing.
use mathlib.Core.Path.{◌≡◌, refl, sym, ◌∙◌, subst}
use mathlib.Core.List.{List}
use Prim.Native.Nat.{ℕ, ◌+◌, ◌*◌, ◌≤◌, ◌<◌}
use native.Mathlib.Omega.{arith}
use native.Mathlib.Nat.{mul-le-mul_right}
use lib.ListN.{length, get_or}
use Rattle.rows.specs.Rows.{Moved}
use Rattle.tilings.specs.Tilings.{Board, Entry, entries, Table}
use Rattle.tilings.proofs.Best.{best_entry, last_best, gaps_end}
use Rattle.table.specs.Work.{Known, PieceRow, GapRow}
use Rattle.table.proofs.Rows.{Cut, gap_row_next, RowStored, known_stored, known_row}

-- The rows from i on are made, and row i of the tilings that begin with a gap.
pub record Tabled (B : Board) (g : ℕ) (before : List ℕ) (i : ℕ) (gaps after : List ℕ) : Type 0 where
  pub under : i ≤ B.size
  pub long : length after ≡ length before
  pub known : Known B g i after
  pub stay : (k : ℕ) → entries B.size g ≤ k → get_or after k 0 ≡ get_or before k 0
  pub gapped : GapRow B g i gaps

pub tabled_start : (B : Board) {g : ℕ} {row gaps t after : List ℕ} → RowStored g B.size row gaps t after → B.size < 65535 → entries B.size g ≤ length t → length gaps ≡ g + 1 → ((q : ℕ) → q ≤ g → get_or row q 0 ≡ 0) → ((q : ℕ) → q ≤ g → get_or gaps q 0 ≡ 65535) → Tabled B g after B.size gaps after
tabled_start B {g} {row} {gaps} s z r w zeros tops =
    record {
      under = omega arith;
      long = refl;
      known = known_stored B s r
          (λ q v h l. let e : v ≡ 0 = omega (arith, l.left, zeros q h) in subst (Entry B B.size q) (sym e) (best_entry B z B.size q 0 (last_best B q)))
          (λ j q l h. absurd (omega arith));
      stay = λ k l. refl;
      gapped = record { wide = w; at = λ q h. rw (tops q h) (gaps_end B q) };
    }

module _ {B : Board} {g i : ℕ} {before gaps t : List ℕ} (r : Tabled B g before i gaps t) where
  pub tabled_known : (j : ℕ) → i ≡ j + 1 → Known B g (j + 1) t
  tabled_known j e = rw e at r.known

  pub tabled_next : {j : ℕ} {below row gaps' after : List ℕ} → i ≡ j + 1 → B.size < 65535 → PieceRow B g j row → Cut g ((j + 1) * (g + 1)) t below → Moved gaps below gaps' → RowStored g j row gaps' t after → Tabled B g before j gaps' after
  tabled_next {j} {below} {row} {gaps'} e z p c m s =
      let u : i ≤ B.size = r.under in
      let b : GapRow B g j gaps' = gap_row_next (omega arith) (tabled_known j e) (rw e at r.gapped) c m in
      record {
        under = omega arith;
        long = s.long ∙ r.long;
        known = known_row B s z (omega arith) (tabled_known j e) p b;
        stay = λ k l.
            let a : (j + 1) * (g + 1) ≤ (B.size + 1) * (g + 1) = mul-le-mul_right (g + 1) (omega arith) in
            s.stay k (omega arith) ∙ r.stay k l;
        gapped = b;
      }

  pub tabled_end : {t₀ row last : List ℕ} → RowStored g B.size row last t₀ before → i ≤ 0 → Table B g t₀ t
  tabled_end s z =
      record { long = r.long ∙ s.long; entry = λ j q. r.known.at j q (omega arith); stay = λ k l. r.stay k l ∙ s.stay k l }
