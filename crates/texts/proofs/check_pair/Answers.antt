-- `check_pair` meets its contract: the second string is too long, or else the first with the map decides. Assumes nothing.
use mathlib.Core.Path.{sym, ◌∙◌}
use borrow.Author.Tests.{lt-ltb, le-ltb}
use Rattle.terms.proofs.Refusals.{pair_long, pair_short}
use Rattle.texts.proofs.check_pair.Goals as goal

pub returns-then-t-gt-LETTERS : goal.returns-then-t-gt-LETTERS
returns-then-t-gt-LETTERS c = pair_long _ _ _ (lt-ltb _ _ c.if-t-gt-LETTERS.true)

pub returns : goal.returns
returns c = c.check_string.ensures ∙ sym (pair_short _ _ _ (le-ltb _ _ c.if-t-gt-LETTERS.false))
