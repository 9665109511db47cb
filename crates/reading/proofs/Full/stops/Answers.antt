-- `stops` meets its contract. Assumes nothing.
use native.Mathlib.Omega.{arith}
use Rattle.terms.specs.Tells.{Tells}
use Rattle.table.proofs.Index.{known_lt, known_entry}
use Rattle.reading.proofs.Tests.{stop_none, stop_other, stop_end, stop_piece}
use Rattle.reading.proofs.Full.stops.Goals as goal

pub overflow_add-j : goal.overflow_add-j
overflow_add-j c = omega (arith, rw c.self.view_is at c.self.invariant)

pub at-w-requires : goal.at-w-requires
at-w-requires c = let k = rw c.self.view_is at c.self.invariant in rw c.self.view_is (omega (arith, k), omega (arith, k), omega arith, known_lt k.2 _ _ (omega arith) (omega arith))

pub returns-then-w : goal.returns-then-w
unfolding Tells
returns-then-w c = let k = rw c.self.view_is at c.self.invariant in stop_none _ _ _ _ _ (known_entry k.2 (rw c.self.view_is at c.at-w.ensures) (omega arith) (omega arith)) (omega arith) c.if-w.true

pub returns-then-sum-from : goal.returns-then-sum-from
unfolding Tells
returns-then-sum-from c = let k = rw c.self.view_is at c.self.invariant in stop_other _ _ _ _ _ (known_entry k.2 (rw c.self.view_is at c.at-w.ensures) (omega arith) (omega arith)) (λ e. omega arith)

pub returns-then-j-n : goal.returns-then-j-n
unfolding Tells
returns-then-j-n c = let k = rw c.self.view_is at c.self.invariant in stop_end _ _ _ _ _ (known_entry k.2 (rw c.self.view_is at c.at-w.ensures) (omega arith) (omega arith)) (omega arith) (omega arith) (rw c.self.view_is at c.if-j-n.true)

pub returns : goal.returns
returns c = let k = rw c.self.view_is at c.self.invariant in rw c.is_some.ensures (stop_piece _ _ _ _ _ (known_entry k.2 (rw c.self.view_is at c.at-w.ensures) (omega arith) (omega arith)) (omega arith) (omega arith) (rw c.self.view_is at c.if-j-n.false) _ c.longest_piece.ensures)
