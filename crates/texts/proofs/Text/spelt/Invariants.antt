-- `spelt` meets its contract: every letter passed is of the alphabet. Assumes nothing.
use mathlib.Core.Path.{◌≡◌}
use mathlib.Core.Bool.{true}
use lib.ListN.{get_or}
use Rattle.terms.specs.Maps.{every_below}
use Rattle.terms.specs.Alphabets.{is_in}
use Rattle.texts.proofs.Text.spelt.Given as goal

abbrev pub invariant-loop-letter : goal.invariant-loop-letter
invariant-loop-letter l = every_below l.letter-index (λ i. is_in l.self.alphabet.now (get_or l.self.letters.now i 0)) ≡ true
