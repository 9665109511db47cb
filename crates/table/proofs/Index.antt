-- The index i × (g + 1) + q of a table, and the entry that a known row has there. Assumes nothing.
use mathlib.Core.Path.{◌≡◌}
use mathlib.Core.List.{List}
use Prim.Native.Nat.{ℕ, ◌+◌, ◌*◌, ◌≤◌, ◌<◌}
use native.Mathlib.Omega.{arith}
use native.Mathlib.Nat.{mul-le-mul_right}
use lib.ListN.{length, get_or}
use Rattle.tilings.specs.Tilings.{Board, Entry}
use Rattle.table.specs.Work.{Known}

pub index_small : (g i : ℕ) → i ≤ 1000 → g ≤ 15 → i * (g + 1) ≤ 16000
index_small g i h k = let a : i * (g + 1) ≤ 1000 * (g + 1) = mul-le-mul_right (g + 1) h in omega arith

pub known_lt : {B : Board} {g lo : ℕ} {t : List ℕ} → Known B g lo t → (i q : ℕ) → i ≤ B.size → q ≤ g → i * (g + 1) + q < length t
known_lt {B} {g} k i q h j = omega (arith, k.room, mul-le-mul_right {m = i} {n = B.size} (g + 1) h)

pub known_entry : {B : Board} {g i q v : ℕ} {t : List ℕ} → Known B g 0 t → v ≡ get_or t (i * (g + 1) + q) 0 → i ≤ B.size → q ≤ g → Entry B i q v
known_entry {i = i} {q = q} k e h j = rw e (k.at i q (omega arith) h j)
