-- The laws for a reader hold on every board whose pieces have letters. Assumes nothing.
use mathlib.Core.Path.{◌≡◌, sym}
use mathlib.Core.List.{[], ◌∷◌}
use mathlib.Core.Logic.{⊎_elim}
use Prim.Native.Nat.{ℕ, ◌+◌, ◌≤◌, ◌<◌}
use native.Mathlib.Omega.{arith}
use Rattle.terms.proofs.Order.{le_or_lt}
use Rattle.tilings.specs.Tilings.{Board, gap, Permitted, None}
use Rattle.tilings.specs.Laws.{lengths, TilingLaws}
use Rattle.tilings.proofs.Covers.{covers, parts_fit}
use Rattle.tilings.proofs.Unique.{given_unique, entry_unique, table_unique}

-- One gap over all letters, and the tiling of no letters.
module _ (B : Board) where
  one_gap : (g : ℕ) → 1 ≤ g → 1 ≤ B.size → Permitted B 0 g (gap B.size ∷ [])
  one_gap g h n = record { tiles = (n, (λ z. z), omega arith); few = omega arith }

  no_letters : (g : ℕ) → B.size ≡ 0 → Permitted B 0 g []
  no_letters g e = record { tiles = sym e; few = omega arith }

  none_only : (g : ℕ) → None B 0 g → (g ≡ 0) × (1 ≤ B.size)
  none_only g h =
      let n : 1 ≤ B.size = ⊎_elim (λ (l : 1 ≤ B.size). l) (λ (l : B.size < 1). absurd (h [] (no_letters g (omega arith)))) (le_or_lt 1 B.size) in
      (⊎_elim (λ (l : 1 ≤ g). absurd (h (gap B.size ∷ []) (one_gap g l n))) (λ (l : g < 1). omega arith) (le_or_lt 1 g), n)

  pub tiling_laws : ((i L : ℕ) → B.Piece i L → 1 ≤ L) → TilingLaws B
  tiling_laws some =
      record {
        whole = λ q ps p. let h : 0 + lengths ps ≡ B.size = covers B 0 ps p.tiles in omega arith;
        few = λ q ps p. let h = parts_fit B some 0 ps p.tiles in omega arith;
        none = none_only;
        given = given_unique B;
        entry = entry_unique B;
        table = table_unique B;
      }
