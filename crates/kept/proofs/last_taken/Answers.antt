-- `last_taken` meets its contract. Assumes nothing.
use mathlib.Core.Path.{◌∙◌}
use native.Mathlib.Omega.{arith}
use Rattle.kept.proofs.Popping.{last_popped}
use Rattle.kept.proofs.last_taken.Goals as goal

pub returns : goal.returns
returns c = rw c.as_popped.ensures (last_popped 9 _ _ _ _ (omega arith) (c.copied.ensures ∙ c.first.ensures.value))
