-- `check_alphabet` meets its contract. Assumes nothing.
use mathlib.Core.Path.{sym, ◌∙◌}
use borrow.Author.Tests.{eq-eqb, ne_eqb}
use Rattle.terms.specs.Refusals.{first_fault}
use Rattle.terms.specs.Alphabets.{alphabet_faults}
use Rattle.texts.proofs.Text.check_alphabet.Goals as goal

pub returns-then-self-ne256 : goal.returns-then-self-ne256
unfolding first_fault alphabet_faults
returns-then-self-ne256 c = simp (ne_eqb _ _ c.if-self-ne256.true)

pub returns-then-not-closed : goal.returns-then-not-closed
unfolding first_fault alphabet_faults
returns-then-not-closed c = simp (eq-eqb _ _ c.if-self-ne256.false, sym c.closed.ensures ∙ c.if-not-closed.true)

pub returns-then-not-spelt : goal.returns-then-not-spelt
unfolding first_fault alphabet_faults
returns-then-not-spelt c = simp (eq-eqb _ _ c.if-self-ne256.false, sym c.closed.ensures ∙ c.if-not-closed.false, sym c.spelt.ensures ∙ c.if-not-spelt.true)

pub returns : goal.returns
unfolding first_fault alphabet_faults
returns c = simp (eq-eqb _ _ c.if-self-ne256.false, sym c.closed.ensures ∙ c.if-not-closed.false, sym c.spelt.ensures ∙ c.if-not-spelt.false)
