-- `wrong_kind` meets its contract. Assumes nothing.
use borrow.Author.Tests.{eq-eqb, ne_eqb}
use Rattle.terms.specs.Limits.{wrong_kind}
use Rattle.terms.proofs.limits.wrong_kind.Goals as goal

pub returns-then-kind-ne1 : goal.returns-then-kind-ne1
unfolding wrong_kind
returns-then-kind-ne1 c = simp (ne_eqb _ _ c.if-kind-ne1.true)

pub returns-else-kind-ne1 : goal.returns-else-kind-ne1
unfolding wrong_kind
returns-else-kind-ne1 c = simp (eq-eqb _ _ c.if-kind-ne1.false)
