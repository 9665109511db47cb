-- `answer_piece` meets its contract: the lines so far are answered, and what is kept is of the line that was begun. Assumes nothing.
use Prim.Native.Nat.{◌-◌}
use Rattle.call.specs.Steps.{state}
use Rattle.call.proofs.Stepping.{Onward}
use lib.ListN.{length}
use Rattle.call.proofs.answer_piece.Given as goal

abbrev pub invariant-loop-s : goal.invariant-loop-s
invariant-loop-s g l = Onward (state l.initial.s.desk l.initial.rooms.table l.initial.rooms.room l.initial.rooms.out) l.initial.line.bytes l.initial.line.at l.piece l.line.bytes l.line.at l.s.from (state l.s.desk l.rooms.table l.rooms.room l.rooms.out)

abbrev pub decreases-loop-s : goal.decreases-loop-s
decreases-loop-s g l = length l.piece - l.s.from
