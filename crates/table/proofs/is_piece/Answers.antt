-- `is_piece` meets its contract. Assumes nothing.
use mathlib.Core.Logic.{⊎_elim}
use native.Mathlib.Omega.{arith}
use borrow.Author.Rules.{rules}
use Rattle.terms.specs.Tells.{Tells}
use Rattle.table.proofs.Testing.{by_one, by_two}
use Rattle.table.proofs.is_piece.Goals as goal

pub returns-then-len-spans : goal.returns-then-len-spans
unfolding Tells
returns-then-len-spans c = search rules

pub returns-then-spans-eq1 : goal.returns-then-spans-eq1
returns-then-spans-eq1 c = let a = c.args in rw c.from-most.ensures (by_one a.spans a.i a.len (omega arith) (omega arith) (omega arith) c.if-spans-eq1.true)

pub returns-then-spans-eq2 : goal.returns-then-spans-eq2
returns-then-spans-eq2 c = let a = c.args in rw c.from-most.ensures (by_two a.spans a.i a.len (omega arith) (omega arith) (omega arith) c.if-spans-eq2.true)

pub returns : goal.returns
unfolding Tells
returns c = λ p. ⊎_elim (λ h. omega (arith, h.0)) (λ h. omega (arith, h.0)) p.is
