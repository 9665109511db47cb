-- `Text::check_opening` meets its contract: the text's refusal stands, or else the limits' is the first. Assumes nothing.
use mathlib.Core.Path.{refl, ◌∙◌}
use Rattle.terms.proofs.Refusals.{text_refuses, text_passes}
use Rattle.terms.proofs.Named.{not_zero, handed_on}
use Rattle.texts.proofs.Text.check_opening.Goals as goal

pub returns-in_err-check : goal.returns-in_err-check
returns-in_err-check c = handed_on _ _ c.from_residual.ensures.1 ∙ text_refuses _ _ _ c.in_err-check.ensures (not_zero _)

pub returns : goal.returns
returns c = text_passes _ _ _ _ c.in_ok-check.ensures refl c.check-2.ensures
