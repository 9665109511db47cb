-- `longest_piece` meets its contract: no piece of len letters or more reaches the total. Assumes nothing.
use mathlib.Core.Path.{ap}
use native.Mathlib.Omega.{arith}
use Rattle.terms.proofs.Told.{told_yes, told_no}
use Rattle.reading.proofs.Leading.{top_step}
use Rattle.reading.proofs.Full.longest_piece.Goals as goal

pub loop-len-init : goal.loop-len-init
loop-len-init c = rw c.self.view_is (λ M r. omega (arith, r.0.inside))

pub reaches-requires : goal.reaches-requires
reaches-requires c = record { sizes = omega (arith, ap (λ t. t.spans.n) c.self.view_is, c.self.invariant) }

pub returns-then-reaches : goal.returns-then-reaches
returns-then-reaches c = (told_yes c.reaches.result _ c.reaches.ensures c.if-reaches.true, λ M r. omega (arith, c.loop-len.invariant M r))

pub loop-len-preserved : goal.loop-len-preserved
loop-len-preserved c = top_step c.loop-len.invariant (told_no c.reaches.result _ c.reaches.ensures c.if-reaches.false)

pub returns : goal.returns
returns c = λ M r. omega (arith, r.0.long, c.loop-len.invariant M r, ap (λ t. t.spans.m) c.self.view_is)
