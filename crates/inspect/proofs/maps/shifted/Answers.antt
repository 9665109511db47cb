-- `shifted` meets its contract: each place of the map holds what the rule gives. Assumes nothing.
use Prim.Native.Nat.{◌+◌, ◌%◌}
use native.Mathlib.Omega.{arith}
use Rattle.terms.proofs.Supplied.{rule_only}
use Rattle.inspect.specs.Lending.{shifted_map}
use Rattle.inspect.proofs.maps.shifted.Goals as goal

pub returns : goal.returns
unfolding shifted_map
returns c = rule_only (λ x. (x + 1) % 256) _ c.from_fn.ensures.items.long (λ x h. let k = (c.from_fn.ensures.items.at x 0 h).2 in omega arith)
