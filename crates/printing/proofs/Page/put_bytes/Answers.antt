-- `put_bytes` meets its contract: the bytes before this one are put. Assumes nothing.
use Rattle.printing.proofs.Laws.{then_on, take_next}
use Rattle.printing.proofs.Page.put_bytes.Goals as goal

pub loop-b-preserved : goal.loop-b-preserved
loop-b-preserved c = rw (take_next _ _ c.loop-b-test.true) (then_on c.loop-b.invariant c.put_byte.ensures)
