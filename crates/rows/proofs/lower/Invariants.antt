-- `lower` meets its contract: the numbers below q are lowered. Assumes nothing.
use lib.ListN.{get_or}
use Rattle.tilings.specs.Work.{Lesser}
use Rattle.terms.proofs.Ranges.{Filled}
use Rattle.rows.proofs.lower.Given as goal

abbrev pub invariant-loop-q : goal.invariant-loop-q
invariant-loop-q l = Filled (λ k v. Lesser (get_or l.initial.row k 0) (get_or l.below k 0) v) 0 l.q l.initial.row l.row
