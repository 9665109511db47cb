-- `own_inverse` meets its contract: the invariant says that every byte passed comes back. Assumes nothing.
use mathlib.Core.Path.{sym}
use native.Mathlib.Omega.{arith}
use borrow.Author.Tests.{eq-eqb, ne_eqb}
use Rattle.terms.specs.Maps.{own_inverse}
use Rattle.terms.proofs.Below.{below_zero, below_more, below_not, below_all}
use Rattle.terms.proofs.maps.own_inverse.Goals as goal

pub loop-x-init : goal.loop-x-init
loop-x-init c = below_zero _

pub bounds-map-y : goal.bounds-map-y
bounds-map-y c = omega (arith, c.from-y.ensures, c.type_inv.map c.loop-x.x)

pub returns-then-z-x : goal.returns-then-z-x
unfolding own_inverse
returns-then-z-x c = sym (below_not _ 256 c.loop-x.x (omega arith) (ne_eqb _ _ (rw (c.from-z.ensures, c.from-y.ensures) at c.if-z-x.true)))

pub loop-x-preserved : goal.loop-x-preserved
loop-x-preserved c = below_more _ _ c.loop-x.invariant (eq-eqb _ _ (rw (c.from-z.ensures, c.from-y.ensures) at c.if-z-x.false))

pub returns : goal.returns
unfolding own_inverse
returns c = sym (below_all _ _ 256 c.loop-x.invariant (omega arith))
