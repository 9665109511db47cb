-- `Sheet::open` meets its contract where it is refused: the blank sheet with the refusal. Assumes nothing.
use mathlib.Core.Path.{ap, ◌∙◌}
use Rattle.std.specs.Prelude.{Err}
use Rattle.sheet.specs.declared.Sheet.{Sheet}
use Rattle.sheet.proofs.Replying.{call_refused}
use Rattle.sheet.proofs.Sheet.open.Goals as goal

pub returns-in-Err : goal.returns-in-Err
returns-in-Err c = call_refused _ _ _ _ c.in-Err.ensures _ (c.refused.ensures ∙ ap (λ (b : Sheet). record { sheet = b; said = Err c.in-Err.refusal }) c.blank.ensures)
