-- Working notions: what popping answers. No promise to a caller rests on reading them.
use Rattle.std.specs.Prelude.{cond, ℕ, Option, Some, None, eqb}
use Rattle.changes.specs.declared.Change.{Change}
use Rattle.kept.specs.declared.Popped.{Popped}
use Rattle.kept.specs.declared.Popped.TheVariants.{Change as PoppedChange, Nothing}

-- Popping one of so many changes answers the change, or Nothing where there is none.
abbrev pub popping : ℕ → Change → Popped
popping many c = cond (eqb many 0) Nothing (PoppedChange c)

-- 01's number of what is popped, k where it is Nothing.
abbrev pub popped_number : ℕ → Popped → ℕ
popped_number k Nothing = k
popped_number k (PoppedChange c) = 0

-- A change that was found, or none, as it is popped.
abbrev pub popped_of : Option Change → Popped
popped_of None = Nothing
popped_of (Some c) = PoppedChange c
