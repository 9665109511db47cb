-- `count_errors` meets its contract: what is counted and what is left make up the whole. Assumes nothing.
use native.Mathlib.Omega.{arith}
use Rattle.spans.proofs.Walking.{one_fits}
use Rattle.spans.proofs.Counting.{inward_step, inward_one, inward_none}
use Rattle.spans.proofs.pairs.count_errors.Goals as goal

pub overflow_add-e : goal.overflow_add-e
overflow_add-e c = omega (arith, one_fits _ _ c.differ-e.ensures)

pub loop-k-preserved : goal.loop-k-preserved
loop-k-preserved c = (inward_step _ _ _ _ _ _ _ _ c.loop-k.invariant.0 (omega arith) c.differ-e.ensures, omega (arith, one_fits _ _ c.differ-e.ensures))

pub overflow_add-e-then-odd : goal.overflow_add-e-then-odd
overflow_add-e-then-odd c = omega (arith, one_fits _ _ c.differ-e-then-odd.ensures)

pub returns-then-odd : goal.returns-then-odd
returns-then-odd c = inward_one _ _ _ _ _ _ _ _ c.loop-k.invariant.0 (omega arith) (omega arith) c.differ-e-then-odd.ensures

pub returns-else-odd : goal.returns-else-odd
returns-else-odd c = inward_none _ _ _ _ _ _ c.loop-k.invariant.0 (omega arith)
