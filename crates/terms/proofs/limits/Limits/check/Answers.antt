-- `Limits::check` meets its contract: the refusals of kind and d, then those of m and g. Assumes nothing.
use mathlib.Core.Path.{refl, ◌∙◌}
use Rattle.terms.proofs.Refusals.{kind_refuses, kind_passes}
use Rattle.terms.proofs.Named.{not_zero, handed_on}
use Rattle.terms.proofs.limits.Limits.check.Goals as goal

pub returns-in_err-check_kind : goal.returns-in_err-check_kind
returns-in_err-check_kind c = handed_on _ _ c.from_residual.ensures.1 ∙ kind_refuses _ _ c.in_err-check_kind.ensures (not_zero _)

pub returns : goal.returns
returns c = kind_passes _ _ _ c.in_ok-check_kind.ensures refl c.check_lengths.ensures
