-- `own_partner` meets its contract: no byte passed is an own-partner letter. Assumes nothing.
use mathlib.Core.Path.{sym, ◌∙◌}
use native.Mathlib.Omega.{arith}
use Rattle.terms.specs.Alphabets.{own_partner}
use Rattle.terms.proofs.Below.{some_none, some_not, some_yes, some_none_of}
use Rattle.texts.proofs.Text.own_partner.Goals as goal

pub loop-x-init : goal.loop-x-init
loop-x-init c = some_none _

pub returns-then-own_letter : goal.returns-then-own_letter
unfolding own_partner
returns-then-own_letter c = sym (some_yes _ 256 c.loop-x.x (omega arith) (sym c.own_letter.ensures ∙ c.if-own_letter.true))

pub loop-x-preserved : goal.loop-x-preserved
loop-x-preserved c = some_not _ _ c.loop-x.invariant (sym c.own_letter.ensures ∙ c.if-own_letter.false)

pub returns : goal.returns
unfolding own_partner
returns c = sym (some_none_of _ _ 256 c.loop-x.invariant (omega arith))
