-- `store_row` meets its contract: the numbers below q are stored. Assumes nothing.
use lib.ListN.{get_or}
use Rattle.tilings.specs.Work.{Lesser}
use Rattle.terms.proofs.Ranges.{Filled}
use Rattle.rows.proofs.store_row.Given as goal

abbrev pub invariant-loop-q : goal.invariant-loop-q
invariant-loop-q l = Filled (λ k v. Lesser (get_or l.row k 0) (get_or l.gaps k 0) v) 0 l.q l.initial.to l.to
