-- `own_inverse` meets its contract: the invariant says that every byte passed comes back. Assumes nothing.
use mathlib.Core.Path.{◌≡◌}
use mathlib.Core.Bool.{true}
use lib.Dec.{eqb}
use lib.ListN.{get_or}
use Rattle.terms.specs.Maps.{every_below}
use Rattle.terms.proofs.maps.own_inverse.Given as goal

abbrev pub invariant-loop-x : goal.invariant-loop-x
invariant-loop-x l = every_below l.x (λ b. eqb (get_or l.map (get_or l.map b 0) 0) b) ≡ true
