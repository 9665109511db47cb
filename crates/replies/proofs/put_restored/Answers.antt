-- `put_restored` meets its contract. Assumes nothing.
use Rattle.printing.proofs.Laws.{then_on}
use Rattle.replies.proofs.put_restored.Goals as goal

pub returns-in-Ok : goal.returns-in-Ok
returns-in-Ok c = rw c.in-Ok.is (then_on c.put_byte.ensures (then_on c.put_byte-in-Ok.ensures c.put_accepted.ensures))
