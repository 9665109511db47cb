-- The parts of a tiling cover the letters: their lengths add up, their gaps fit, they are no more than the letters. Assumes nothing.
use mathlib.Core.Path.{◌≡◌}
use mathlib.Core.List.{List, [], ◌∷◌}
use Prim.Native.Nat.{ℕ, ◌+◌, ◌≤◌}
use native.Mathlib.Omega.{arith}
use lib.ListN.{length}
use Rattle.tilings.specs.Tilings.{Board, Part, piece, gap, total, Tiles}
use Rattle.tilings.specs.Laws.{lengths}

module _ (B : Board) where
  pub covers : (i : ℕ) (ps : List Part) → Tiles B i ps → i + lengths ps ≡ B.size
  covers i [] t = omega arith
  covers i (piece L ∷ ps) t = let h : i + L + lengths ps ≡ B.size = covers (i + L) ps t.1 in omega arith
  covers i (gap L ∷ ps) t = let h : i + L + lengths ps ≡ B.size = covers (i + L) ps t.2 in omega arith

  -- The gaps fit into the letters that are left.
  pub gaps_fit : (i : ℕ) (ps : List Part) → Tiles B i ps → i + total ps ≤ B.size
  gaps_fit i ps t = let h : i + lengths ps ≡ B.size = covers i ps t in let k : total ps ≤ lengths ps = under ps in omega arith
    where
      under : (ps : List Part) → total ps ≤ lengths ps
      under [] = omega arith
      under (piece L ∷ ps) = let h : total ps ≤ lengths ps = under ps in omega arith
      under (gap L ∷ ps) = let h : total ps ≤ lengths ps = under ps in omega arith

  pub parts_fit : ((i L : ℕ) → B.Piece i L → 1 ≤ L) → (i : ℕ) (ps : List Part) → Tiles B i ps → i + length ps ≤ B.size
  parts_fit some i [] t = omega arith
  parts_fit some i (piece L ∷ ps) t =
      let h : i + L + length ps ≤ B.size = parts_fit some (i + L) ps t.1 in let k : 1 ≤ L = some i L t.0 in omega arith
  parts_fit some i (gap L ∷ ps) t =
      let h : i + L + length ps ≤ B.size = parts_fit some (i + L) ps t.2 in let k : 1 ≤ L = t.0 in omega arith
