-- `walk_out` meets its contract. The invariant: the span from i is inside the string (or empty), has e errors, at most d. Assumes nothing.
use native.Mathlib.Omega.{arith}
use Rattle.spans.proofs.Walking.{one_fits, walk_start, walk_step, stop_end, stop_over, ends_start, ends_end, blocks_over}
use Rattle.spans.proofs.outward.walk_out.Goals as goal

pub loop-i-init : goal.loop-i-init
loop-i-init c = walk_start _ _ _ _ (omega arith)

pub returns-then-text-j : goal.returns-then-text-j
returns-then-text-j c = let w = c.loop-i.invariant in record { maximal = λ z sound free. stop_end _ _ _ _ _ _ w (omega arith) c.if-text-j.true _ (omega arith) z free; stopped = λ z sound free. ends_end _ _ _ _ _ _ w (omega arith) c.if-text-j.true _ c.reached.ensures.1 z free }

pub overflow_add-e : goal.overflow_add-e
overflow_add-e c = let few = c.loop-i.invariant.few in omega (arith, one_fits _ _ c.differ-e.ensures)

pub returns-then-d-e : goal.returns-then-d-e
returns-then-d-e c = let w = c.loop-i.invariant in record { maximal = λ z sound free. stop_over _ _ _ _ _ _ w _ (omega arith) c.differ-e.ensures c.if-d-e.true _ (omega arith) z free; stopped = λ z sound free. blocks_over _ _ _ _ _ _ w _ (omega arith) (omega arith) c.differ-e.ensures c.if-d-e.true _ c.reached-then-d-e.ensures.1 z free }

pub loop-i-preserved : goal.loop-i-preserved
loop-i-preserved c = walk_step _ _ _ _ _ _ c.loop-i.invariant _ (omega arith) (omega arith) c.differ-e.ensures c.if-d-e.false

pub returns-clause-stopped : goal.returns-clause-stopped
returns-clause-stopped c = λ z sound free. ends_start _ _ _ _ _ _ c.loop-i.invariant (omega arith) _ c.reached-2.ensures.1 z free
