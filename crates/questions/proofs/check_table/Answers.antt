-- `check_table` meets its contract. Assumes nothing.
use lib.ListN
use mathlib.Core.Path.{refl, ◌∙◌}
use native.Mathlib.Omega.{arith}
use Rattle.terms.proofs.Named.{not_zero, handed_on}
use Rattle.table.proofs.Index.{index_small}
use Rattle.questions.proofs.Passing.{opening_refuses, table_refuses, table_passes, opened}
use Rattle.questions.proofs.check_table.Goals as goal

pub returns-in_err-check_opening : goal.returns-in_err-check_opening
returns-in_err-check_opening c = handed_on _ _ c.from_residual.ensures.1 ∙ opening_refuses _ _ _ _ c.in_err-check_opening.ensures (not_zero _)

pub overflow_add-g : goal.overflow_add-g
overflow_add-g c = let h = opened _ _ 0 _ c.in_ok-check_opening.ensures refl in omega (arith, h.1.few)

pub overflow_mul-text : goal.overflow_mul-text
overflow_mul-text c = let h = opened _ _ 0 _ c.in_ok-check_opening.ensures refl in let a = c.args in omega (arith, index_small a.limits.g (ListN.length a.text.letters.now) h.0.short h.1.few, h.1.few)

pub returns-then-lent-text : goal.returns-then-lent-text
returns-then-lent-text c = table_refuses _ _ _ _ c.in_ok-check_opening.ensures refl c.if-lent-text.true

pub returns : goal.returns
returns c = table_passes _ _ _ _ c.in_ok-check_opening.ensures refl c.if-lent-text.false
