-- `closed` meets its contract: the partners of all letters passed are letters. Assumes nothing.
use mathlib.Core.Path.{◌≡◌}
use mathlib.Core.Bool.{true, not, ◌||◌}
use lib.ListN.{get_or}
use Rattle.terms.specs.Maps.{every_below}
use Rattle.terms.specs.Alphabets.{is_in}
use Rattle.texts.proofs.Text.closed.Given as goal

abbrev pub invariant-loop-x : goal.invariant-loop-x
invariant-loop-x l = every_below l.x (λ b. not (is_in l.self.alphabet.now b) || is_in l.self.alphabet.now (get_or l.self.map.now b 0)) ≡ true
