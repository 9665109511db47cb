-- `finish` meets its contract. Assumes nothing.
use Rattle.printing.proofs.Laws.{put_end}
use Rattle.call.proofs.Stepping.{finished_empty, finished_some}
use native.Mathlib.Omega.{arith}
use Rattle.call.proofs.finish.Goals as goal

pub returns-then-line-eq0 : goal.returns-then-line-eq0
returns-then-line-eq0 c = record { written_in_bounds = omega arith; finishing = finished_empty _ _ _ (omega arith) (omega arith) }

pub returns : goal.returns
returns c = record { written_in_bounds = let h = put_end c.answer.ensures.puts in omega (arith, h); finishing = finished_some _ _ _ (omega arith) c.if-line-eq0.false c.answer.ensures }
