-- `answer_piece` meets its contract. Assumes nothing.
use Prim.Native.Nat.{◌-◌}
use lib.ListN.{length}
use Rattle.inspect.proofs.answer_piece.Given as goal

abbrev pub decreases-loop-s : goal.decreases-loop-s
decreases-loop-s g l = length l.piece - l.s.from
