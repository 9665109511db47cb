-- What the contract of a test says: for helpers. No promise to a caller rests on reading it.
use Rattle.std.specs.Prelude.{Bool, true, false}

-- The answer says whether P holds.
unfoldable pub Tells : Bool → Type 0 → Type 0
Tells true P = P
Tells false P = P → ⊥
