-- `step` meets its contract. Assumes nothing.
use Rattle.printing.proofs.Laws.{put_end}
use Rattle.feed.proofs.Onward.{goes_on}
use Rattle.call.proofs.Stepping.{step_ended, step_unended}
use native.Mathlib.Omega.{arith}
use Rattle.call.proofs.step.Goals as goal

pub returns-then-fed : goal.returns-then-fed
returns-then-fed c = let b = goes_on _ _ _ _ _ _ c.feed-fed.ensures.takes_on (omega arith) (omega arith) in record { advances = (b.0, b.1, let h = put_end c.answer-turn.ensures.puts in omega (arith, h)); stepping = step_ended _ _ _ _ _ _ c.feed-fed.ensures.takes_on _ (omega arith) c.if-fed.true c.answer-turn.ensures }

pub returns : goal.returns
returns c = let b = goes_on _ _ _ _ _ _ c.feed-fed.ensures.takes_on (omega arith) (omega arith) in record { advances = (b.0, b.1, omega arith); stepping = step_unended _ _ _ _ _ _ c.feed-fed.ensures.takes_on _ c.if-fed.false (omega arith) }
