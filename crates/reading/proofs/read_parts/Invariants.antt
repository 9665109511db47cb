-- `read_parts` meets its contract: the first k numbers lead to i. Assumes nothing.
use Prim.Native.Nat.{◌-◌}
use Rattle.ways.specs.Spans.{board_of}
use Rattle.reading.specs.Work.{Past}
use Rattle.reading.proofs.Walked.{Walked}
use Rattle.reading.proofs.read_parts.Given as goal

abbrev pub invariant-loop-i : goal.invariant-loop-i
invariant-loop-i l = Walked (board_of l.totals.spans) l.totals.g l.codes l.i l.q l.k × Past l.k l.initial.codes l.codes

abbrev pub decreases-loop-i : goal.decreases-loop-i
decreases-loop-i l = l.totals.spans.n - l.i
