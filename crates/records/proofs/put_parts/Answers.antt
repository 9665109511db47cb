-- `put_parts` meets its contract: the first k records are stored. Assumes nothing.
use native.Mathlib.Omega.{arith}
use Rattle.records.proofs.Putting.{putting_start, putting_fit, putting_next, putting_end}
use Rattle.records.proofs.put_parts.Goals as goal

pub loop-k-init : goal.loop-k-init
loop-k-init c = putting_start _ _ _ c.requires.writable

pub put_part-i-requires : goal.put_part-i-requires
put_part-i-requires c = record { sizes = omega arith; fit = putting_fit _ _ _ _ _ _ c.loop-k.invariant (omega arith) }

pub loop-k-preserved : goal.loop-k-preserved
loop-k-preserved c = putting_next _ _ _ _ _ _ c.loop-k.invariant (omega arith) _ _ c.put_part-i.auto.room (c.put_part-i.ensures.next, c.put_part-i.ensures.put)

pub returns : goal.returns
returns c = putting_end _ _ _ _ _ _ _ c.loop-k.invariant (omega arith) (omega arith)
