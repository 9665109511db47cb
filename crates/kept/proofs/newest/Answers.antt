-- `newest` meets its contract. Assumes nothing.
use mathlib.Core.Path.{◌∙◌}
use native.Mathlib.Omega.{arith}
use Rattle.kept.proofs.Popping.{newest_popped}
use Rattle.kept.proofs.newest.Goals as goal

pub returns : goal.returns
returns c = rw c.as_popped.ensures (newest_popped 8 _ _ _ (omega arith) (c.copied.ensures ∙ c.last.ensures.value))
