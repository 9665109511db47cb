-- `own_partner` meets its contract: no byte passed is an own-partner letter. Assumes nothing.
use mathlib.Core.Path.{◌≡◌}
use mathlib.Core.Bool.{false, ◌&&◌}
use lib.Dec.{eqb}
use lib.ListN.{get_or}
use Rattle.terms.specs.Alphabets.{is_in, some_below}
use Rattle.texts.proofs.Text.own_partner.Given as goal

abbrev pub invariant-loop-x : goal.invariant-loop-x
invariant-loop-x l = some_below l.x (λ b. is_in l.self.alphabet.now b && eqb (get_or l.self.map.now b 0) b) ≡ false
