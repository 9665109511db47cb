-- `closed` meets its contract: the partners of all letters passed are letters. Assumes nothing.
use mathlib.Core.Path.{sym, ◌∙◌}
use native.Mathlib.Omega.{arith}
use Rattle.terms.specs.Alphabets.{closed_under}
use Rattle.terms.proofs.Below.{below_zero, below_more, below_not, below_all}
use Rattle.texts.proofs.Text.closed.Goals as goal

pub loop-x-init : goal.loop-x-init
loop-x-init c = below_zero _

pub returns-then-not-partner_in : goal.returns-then-not-partner_in
unfolding closed_under
returns-then-not-partner_in c = sym (below_not _ 256 c.loop-x.x (omega arith) (sym c.partner_in.ensures ∙ c.if-not-partner_in.true))

pub loop-x-preserved : goal.loop-x-preserved
loop-x-preserved c = below_more _ _ c.loop-x.invariant (sym c.partner_in.ensures ∙ c.if-not-partner_in.false)

pub returns : goal.returns
unfolding closed_under
returns c = sym (below_all _ _ 256 c.loop-x.invariant (omega arith))
