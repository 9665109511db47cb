-- `lay` meets its contract. Assumes nothing.
use native.Mathlib.Omega.{arith}
use Rattle.ways.proofs.Laying.{laid_all}
use Rattle.ways.proofs.Spans.lay.Goals as goal

pub returns-else-self-eq2 : goal.returns-else-self-eq2
returns-else-self-eq2 c = laid_all c.if-self-eq2.false (omega arith) c.lay_all.ensures
