-- `lay_own` meets its contract: the centres from c on are entered. Assumes nothing.
use Rattle.ways.specs.Ways.{Entered}
use Rattle.ways.proofs.Spans.lay_own.Given as goal

abbrev pub invariant-loop-c : goal.invariant-loop-c
invariant-loop-c l = Entered l.self l.c l.first l.next
