-- What the tests of the reading tell: whether a piece reaches a total, whether a gap may stop. Assumes nothing.
use mathlib.Core.Path.{◌≡◌, refl, sym}
use mathlib.Core.List.{List}
use mathlib.Core.Logic.{inl, inr, ⊎_elim}
use Prim.Native.Nat.{ℕ, ◌+◌, ◌*◌, ◌≤◌, ◌<◌}
use native.Mathlib.Omega.{arith}
use lib.Dec.{eqb}
use lib.ListN.{get_or}
use Rattle.std.proofs.Common.{Option, Some, None}
use Rattle.std.specs.Option.{is_some, IsSome, MatchOption}
use Rattle.terms.specs.Tells.{Tells}
use Rattle.terms.proofs.Told.{tells_iff, tells_eqb}
use Rattle.tilings.specs.Tilings.{Board, Least, Entry}
use Rattle.tilings.specs.Work.{Reaches, Tiled}
use Rattle.tilings.proofs.Covers.{gaps_fit}
use Rattle.tilings.proofs.Unique.{entry_unique}
use Rattle.table.specs.Work.{Known}
use Rattle.reading.specs.Work.{TopReach, Stops}
use Rattle.table.proofs.Index.{known_entry}

-- A least total is small, and an entry that is one settles it.
pub least_small : {B : Board} {i q v : ℕ} → Least B i q v → i + v ≤ B.size
least_small {B} {i} l = rw l.reached.2 at (gaps_fit B i l.reached.0 l.reached.1.tiles)

module _ {B : Board} {i q u : ℕ} (e : Entry B i q u) where
  entry_least : u < 65535 → Least B i q u
  entry_least h = ⊎_elim (λ l. l) (λ n. absurd (omega (arith, n.0))) e

  least_entry : {v : ℕ} → Least B i q v → u ≡ v
  least_entry l = entry_unique B i q u _ e (inl l)

-- The entry that is read where there is a tiling.
pub read_least : {B : Board} {g i q u : ℕ} {t : List ℕ} → Known B g 0 t → Tiled B i q → u ≡ get_or t (i * (g + 1) + q) 0 → i ≤ B.size → q ≤ g → Least B i q u
read_least k w e h j = rw (least_entry (known_entry k e h j) w.1) w.1

pub reaches_tells : (B : Board) (i q L v : ℕ) {u : ℕ} → B.Piece i L → Entry B (i + L) q u → v < 65535 → Tells (eqb u v) (Reaches B i q v L)
reaches_tells B i q L v {u} p e h =
    tells_iff _ _ _ (tells_eqb u v) (λ s. (p, rw s at (entry_least e (omega arith)))) (λ r. least_entry e r.1)

-- The gap of L letters from i, by the entry behind it.
module _ (B : Board) (i q v L : ℕ) {u : ℕ} (e : Entry B (i + L) q u) where
  pub stop_none : B.size < 65535 → u ≡ 65535 → Stops B i q v L → ⊥
  stop_none z h s = omega (arith, least_entry e s.least, least_small s.least)

  pub stop_other : (L + u ≡ v → ⊥) → Stops B i q v L → ⊥
  stop_other h s = let a : u ≡ s.rest = least_entry e s.least in h (omega (arith, s.sum))

  module _ (h : u < 65535) (sum : L + u ≡ v) where
    pub stop_end : i + L ≡ B.size → Stops B i q v L
    stop_end b = record { rest = u; least = entry_least e h; sum = sym sum; ends = inl b }

    pub stop_piece : (i + L ≡ B.size → ⊥) → (r : Option ℕ) → TopReach B (i + L) q u r → Tells (is_some r) (Stops B i q v L)
    unfolding Tells
    stop_piece b (Some r) t = record { rest = u; least = entry_least e h; sum = sym sum; ends = inr (r, t.0) }
    stop_piece b None t = λ s. ⊎_elim b (λ z. t z.0 (rw (← least_entry e s.least) at z.1)) s.ends

-- A gap that stops lies within the letters.
pub stop_inside : {B : Board} {i q v M : ℕ} → Stops B i q v M → i + M ≤ B.size
stop_inside s = omega (arith, least_small s.least)

-- Where something must be found, it is.
pub some_found : (P : Type 0) (Q : ℕ → Type 0) (r : Option ℕ) → MatchOption r P Q → (P → ⊥) → IsSome r
some_found P Q (Some x) f bad = refl
some_found P Q None f bad = absurd (bad f)
