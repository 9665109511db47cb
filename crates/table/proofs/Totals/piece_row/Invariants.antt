-- `piece_row` meets its contract: the row has the least totals of the tilings that begin with a piece of a centre before c. Assumes nothing.
use Prim.Native.Nat.{◌+◌, ◌-◌}
use Rattle.ways.specs.Spans.{board_of}
use Rattle.ways.specs.Ways.{Next}
use Rattle.table.specs.Work.{PieceRowUnder, Along}
use Rattle.table.proofs.Totals.piece_row.Given as goal

abbrev pub invariant-loop-c : goal.invariant-loop-c
invariant-loop-c l = (Along l.self.spans l.i l.last l.c × Next l.self.spans l.i l.next) × PieceRowUnder (board_of l.self.spans) l.self.g l.i (l.c + 1 - (l.i + l.i)) l.row

abbrev pub decreases-loop-c : goal.decreases-loop-c
decreases-loop-c l = l.self.spans.n + l.i - l.c
