-- `number` meets its contract: the value so far is begun. Assumes nothing.
use Rattle.lines.proofs.Numerals.{Begun}
use Rattle.lines.proofs.fields.number.Given as goal

abbrev pub invariant-loop-next : goal.invariant-loop-next
invariant-loop-next l = Begun l.s l.i l.value l.next
