-- `fill_table` meets its contract: the rows from i on are made, and the ways lead on for the starts up to i. Assumes nothing.
use Rattle.ways.specs.Spans.{board_of}
use Rattle.ways.specs.Ways.{Next}
use Rattle.table.proofs.Tabled.{Tabled}
use Rattle.table.proofs.fill_table.Given as goal

abbrev pub invariant-loop-i : goal.invariant-loop-i
invariant-loop-i l = Tabled (board_of l.spans) l.g l.initial.t l.i l.gaps l.t × Next l.spans l.i l.next
