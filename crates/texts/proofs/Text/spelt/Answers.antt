-- `spelt` meets its contract: every letter passed is of the alphabet. Assumes nothing.
use mathlib.Core.Path.{sym, ◌∙◌}
use native.Mathlib.Omega.{arith}
use Rattle.terms.specs.Alphabets.{spelt}
use Rattle.terms.proofs.Below.{below_zero, below_more, below_not, below_all}
use Rattle.texts.proofs.Text.spelt.Goals as goal

pub loop-letter-init : goal.loop-letter-init
loop-letter-init c = below_zero _

pub returns-then-not-is_in : goal.returns-then-not-is_in
unfolding spelt
returns-then-not-is_in c = sym (below_not _ _ c.loop-letter.letter-index (omega arith) (sym c.is_in.ensures ∙ c.if-not-is_in.true))

pub loop-letter-preserved : goal.loop-letter-preserved
loop-letter-preserved c = below_more _ _ c.loop-letter.invariant (sym c.is_in.ensures ∙ c.if-not-is_in.false)

pub returns : goal.returns
unfolding spelt
returns c = sym (below_all _ _ _ c.loop-letter.invariant (omega arith))
