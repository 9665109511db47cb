-- `piece_row` meets its contract: the row has the least totals of the tilings that begin with a piece of a centre before c. Assumes nothing.
use Rattle.table.proofs.Dropping.{along_next, row_onward}
use native.Mathlib.Omega.{arith}
use Rattle.table.proofs.Totals.piece_row.Goals as goal

pub loop-c-preserved : goal.loop-c-preserved
loop-c-preserved c = let w = c.loop-c.invariant.0.0 in let k = c.look-last.ensures.0 in let o = w.on (omega arith) in let low = w.low (omega arith) in rw c.from-c.ensures ((along_next (omega arith) (omega arith) o low k, k.steps), row_onward low (omega arith) o k.later k.step c.look-last.ensures.1)
