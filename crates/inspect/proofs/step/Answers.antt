-- `step` meets its contract. Assumes nothing.
use Rattle.feed.proofs.Onward.{goes_on}
use native.Mathlib.Omega.{arith}
use Rattle.inspect.proofs.step.Goals as goal

pub returns-then-fed : goal.returns-then-fed
returns-then-fed c = let a = c.args in let g = goes_on a.line.now.bytes a.line.now.at a.piece.now a.from _ _ c.feed-fed.ensures.takes_on (omega arith) (omega arith) in record { kept = omega arith; on = g.0; inside = g.1; written = c.answer-written.ensures }

pub returns : goal.returns
returns c = let a = c.args in let g = goes_on a.line.now.bytes a.line.now.at a.piece.now a.from _ _ c.feed-fed.ensures.takes_on (omega arith) (omega arith) in record { kept = omega arith; on = g.0; inside = g.1; written = omega arith }
