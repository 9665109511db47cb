-- `put_line` meets its contract: after the letter the numbers before this one are put. Assumes nothing.
use lib.Seq.{take_all}
use Rattle.printing.proofs.Laws.{then_on, fields_next}
use Rattle.printing.proofs.Page.put_line.Goals as goal

pub loop-n-preserved : goal.loop-n-preserved
loop-n-preserved c = rw (fields_next _ _ c.loop-n-test.true) (then_on c.loop-n.invariant c.put_field.ensures)

pub returns : goal.returns
returns c = let q = rw (take_all _ _ c.loop-n-test.false) at c.loop-n.invariant in
    then_on c.put_byte.ensures (then_on q c.put_byte-2.ensures)
