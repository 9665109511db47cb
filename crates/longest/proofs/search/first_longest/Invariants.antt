-- `first_longest` meets its contract: the best of the centres below c is kept. Assumes nothing.
use Rattle.longest.specs.Work.{LongestBelow}
use Rattle.longest.proofs.search.first_longest.Given as goal

abbrev pub invariant-loop-c : goal.invariant-loop-c
invariant-loop-c l = LongestBelow l.s l.map l.c l.best
