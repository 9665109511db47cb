-- `check_walk` meets its contract. Assumes nothing.
use mathlib.Core.Path.{refl, ◌∙◌}
use Rattle.terms.proofs.Named.{not_zero, handed_on}
use Rattle.spans.proofs.Refusing.{text_refuses, errors_refuse, errors_pass}
use Rattle.spans.proofs.check_walk.Goals as goal

pub returns-in_err-check : goal.returns-in_err-check
returns-in_err-check c = handed_on _ _ c.from_residual.ensures.1 ∙ text_refuses _ _ _ c.in_err-check.ensures (not_zero _)

pub returns-then-d-gt-ERRORS : goal.returns-then-d-gt-ERRORS
returns-then-d-gt-ERRORS c = errors_refuse _ _ _ c.in_ok-check.ensures refl c.if-d-gt-ERRORS.true

pub returns : goal.returns
returns c = errors_pass _ _ _ c.in_ok-check.ensures refl c.if-d-gt-ERRORS.false
