-- `gap_row` meets its contract: the numbers past the first, q of them, are moved. Assumes nothing.
use Prim.Native.Nat.{ℕ}
use lib.ListN.{get_or}
use Rattle.tilings.specs.Work.{Lesser, Onward}
use Rattle.terms.proofs.Ranges.{Filled}
use Rattle.rows.proofs.gap_row.Given as goal

abbrev pub invariant-loop-q : goal.invariant-loop-q
invariant-loop-q l = Filled (λ k v. (w : ℕ) × Lesser (get_or l.initial.x-items k 0) (get_or l.below k 0) w × Onward w v) 0 l.q l.initial.x-items l.x-items
