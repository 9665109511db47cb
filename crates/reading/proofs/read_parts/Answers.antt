-- `read_parts` meets its contract: the first k numbers lead to i. Assumes nothing.
use mathlib.Core.Path.{refl, ◌∙◌}
use native.Mathlib.Omega.{arith}
use lib.Seq.{get_or-set_other}
use Rattle.reading.proofs.Walked.{walked_start, walked_next, walked_end}
use Rattle.reading.proofs.read_parts.Goals as goal

pub loop-i-init : goal.loop-i-init
loop-i-init c = (walked_start _ _ _ c.requires.tiled, λ j h. refl)

pub loop-i-preserved : goal.loop-i-preserved
loop-i-preserved c = (walked_next c.loop-i.invariant.0 (omega arith) c.next_part-next.ensures, λ j h. get_or-set_other c.loop-i.codes c.loop-i.k j c.next_part-next.result.code 0 (omega arith) ∙ c.loop-i.invariant.1 j (omega arith))

pub returns : goal.returns
returns c = (walked_end c.loop-i.invariant.0 (λ a L p. p.some) c.loop-i-test.false, c.loop-i.invariant.1)
