-- `check_string` meets its contract. Assumes nothing.
use borrow.Author.Tests.{lt-ltb, le-ltb}
use Rattle.terms.specs.Refusals.{first_fault}
use Rattle.terms.specs.Texts.{string_faults}
use Rattle.texts.proofs.check_string.Goals as goal

pub returns-then-s-gt-LETTERS : goal.returns-then-s-gt-LETTERS
unfolding first_fault string_faults
returns-then-s-gt-LETTERS c = simp (lt-ltb _ _ c.if-s-gt-LETTERS.true)

pub returns : goal.returns
unfolding first_fault string_faults
returns c = simp (le-ltb _ _ c.if-s-gt-LETTERS.false) c.check.ensures
