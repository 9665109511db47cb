-- `complement` meets its contract: each place of the map holds what the rule gives. Assumes nothing.
use mathlib.Core.Path.{refl, ◌∙◌}
use native.Mathlib.Omega.{arith}
use Rattle.terms.specs.Maps.{partner, complement_map}
use Rattle.terms.proofs.Supplied.{rule_only}
use Rattle.terms.proofs.maps.complement.Goals as goal

pub returns : goal.returns
unfolding complement_map
returns c = rule_only (λ k. partner complement_map k) _ c.from_fn.ensures.items.long (λ x h. let k = (c.from_fn.ensures.items.at x 0 h).2 in omega arith) ∙ refl
