-- Bytes in hexadecimal, two digits each.
use Rattle.std.specs.Prelude.{◌≡◌, cond, Option, Some, None, IsSomeAnd, List, ℕ, ◌+◌, ◌-◌, ◌*◌, ◌≤◌, ◌<◌, leb, ltb, length, get_or}
use Rattle.hexadecimal.specs.declared.HexRead.{HexRead}

-- The digit that a byte of a line stands for: 0 to 9, a to f; None where it is none.
unfoldable pub digit_of : ℕ → Option ℕ
digit_of b = cond (ltb b 48) None (cond (leb b 57) (Some (b - 48)) (cond (ltb b 97) None (cond (leb b 102) (Some (b - 87)) None)))

-- The byte that two digits stand for, the high one first; None where one of them is none.
unfoldable pub pair_of : Option ℕ → Option ℕ → Option ℕ
pair_of None low = None
pair_of (Some high) None = None
pair_of (Some high) (Some low) = Some (high * 16 + low)

-- The byte whose two digits stand at a place, None where no two stand there.
unfoldable pub byte_at : List ℕ → ℕ → Option ℕ
byte_at xs i = cond (ltb (length xs) (i + 2)) None (pair_of (digit_of (get_or xs i 0)) (digit_of (get_or xs (i + 1) 0)))

-- Bytes read from a place on, as far as their digits go and the room goes: they are the room's first, and its later bytes stay.
pub record Reads (xs : List ℕ) (from : ℕ) (room room' : List ℕ) (r : HexRead) : Type 0 where
  pub next : r.next ≡ from + 2 * r.bytes
  pub fits : r.bytes ≤ length room
  pub byte : (k : ℕ) → k < r.bytes → IsSomeAnd (byte_at xs (from + 2 * k)) (λ b. b < 256)
  pub stop : r.bytes < length room → byte_at xs r.next ≡ None
  pub long : length room' ≡ length room
  pub held : (k : ℕ) → k < r.bytes → byte_at xs (from + 2 * k) ≡ Some (get_or room' k 0)
  pub stay : (k : ℕ) → r.bytes ≤ k → get_or room' k 0 ≡ get_or room k 0

-- Two readings of one place into one room are equal.
abbrev pub OneReading : Type 0
OneReading =
    (xs : List ℕ) (from : ℕ) (room room' room'' : List ℕ) (r s : HexRead)
    → Reads xs from room room' r → Reads xs from room room'' s → (room' ≡ room'') × (r ≡ s)
