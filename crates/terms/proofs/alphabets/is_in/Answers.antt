-- `is_in` meets its contract: past the flags there is no letter. Assumes nothing.
use mathlib.Core.Path.{sym, ap}
use mathlib.Core.Bool.{not}
use native.Mathlib.Omega.{arith}
use lib.ListN.{get_or-eq_default}
use borrow.Author.Tests.{eq-eqb}
use Rattle.terms.proofs.alphabets.is_in.Goals as goal

pub returns-then-alphabet-b : goal.returns-then-alphabet-b
returns-then-alphabet-b c = sym (ap not (eq-eqb _ 0 (get_or-eq_default c.args.alphabet.now 0 (omega (arith, c.from-b.ensures, c.if-alphabet-b.true)))))
