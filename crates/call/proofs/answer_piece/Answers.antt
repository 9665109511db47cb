-- `answer_piece` meets its contract: the lines so far are answered, and what is kept is of the line that was begun. Assumes nothing.
use Rattle.call.proofs.Stepping.{onward_start, onward_next, onward_end}
use Rattle.call.proofs.answer_piece.Goals as goal

pub loop-s-init : goal.loop-s-init
loop-s-init g c = onward_start _ _ _ c.args.piece.now

pub loop-s-preserved : goal.loop-s-preserved
loop-s-preserved g c = onward_next _ _ _ _ _ _ _ _ _ _ _ _ _ _ _ _ _ c.loop-s.invariant c.step-s.ensures.stepping

pub returns : goal.returns
returns g c = onward_end _ _ _ _ _ _ _ _ c.loop-s.invariant c.loop-s-test.false
