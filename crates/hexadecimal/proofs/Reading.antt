-- Bytes read one after the other; two readings are equal. Assumes nothing.
use mathlib.Core.Path.{◌≡◌, sym, ap, ap₂, ◌∙◌}
use mathlib.Core.List.{List}
use mathlib.Core.Logic.{⊎_elim}
use Prim.Native.Nat.{ℕ, ◌+◌, ◌*◌, ◌≤◌, ◌<◌}
use native.Mathlib.Omega.{arith}
use lib.ListN.{length}
use Rattle.terms.proofs.Order.{le_or_lt}
use Rattle.terms.proofs.Ranges.{Filled, entries_unique}
use Rattle.std.specs.Prelude.{Some, None, IsSomeAnd}
use Rattle.std.proofs.lemmas.Bool.Decides.{nat_tests}
use Rattle.hexadecimal.specs.Hex.{byte_at, Reads, OneReading}
use Rattle.hexadecimal.specs.declared.HexRead.{HexRead}

module _ (xs : List ℕ) (from : ℕ) (room : List ℕ) where
  -- k bytes are read, and at is the place after them
  pub record Read (room' : List ℕ) (k at : ℕ) : Type 0 where
    pub on : at ≡ from + 2 * k
    pub fits : k ≤ length room
    pub bytes : (j : ℕ) → j < k → IsSomeAnd (byte_at xs (from + 2 * j)) (λ b. b < 256)
    pub filled : Filled (λ j v. byte_at xs (from + 2 * j) ≡ Some v) 0 k room room'

-- a byte's two digits stand in the line
pub byte_in : (xs : List ℕ) (i b : ℕ) → byte_at xs i ≡ Some b → i + 2 ≤ length xs
unfolding byte_at
byte_in xs i b e = grind (arith, nat_tests)

-- no reading stops before another
stops : (xs : List ℕ) (from : ℕ) (room a b : List ℕ) (r s : HexRead) → Reads xs from room a r → Reads xs from room b s → r.bytes < s.bytes → ⊥
stops xs from room a b r s p q h =
    let f = q.fits in
    let e : byte_at xs (from + 2 * r.bytes) ≡ None = ap (byte_at xs) (sym p.next) ∙ p.stop (omega arith) in
    rw e at (q.byte r.bytes h)

reading : ℕ → ℕ → HexRead
reading bytes next = record { bytes = bytes; next = next }

pub one_reading : OneReading
unfolding reading
one_reading xs from room a b r s p q =
    let same : r.bytes ≡ s.bytes =
    ⊎_elim
    (λ (h : s.bytes ≤ r.bytes). ⊎_elim (λ (k : r.bytes ≤ s.bytes). let e : r.bytes ≡ s.bytes = omega arith in e) (λ (k : s.bytes < r.bytes). absurd (stops xs from room b a s r q p k)) (le_or_lt r.bytes s.bytes))
    (λ (h : r.bytes < s.bytes). absurd (stops xs from room a b r s p q h))
    (le_or_lt s.bytes r.bytes) in
    let next : r.next ≡ s.next = let i = p.next in let j = q.next in omega arith in (
      entries_unique (λ k v. byte_at xs (from + 2 * k) ≡ Some v) (λ k v w h g. cc) r.bytes room a b p.long q.long p.held
          (λ k h. q.held k (omega arith)) p.stay (λ k h. q.stay k (omega arith)),
      ap₂ reading same next,
    )
