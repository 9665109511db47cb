-- `reaches` meets its contract. Assumes nothing.
use native.Mathlib.Omega.{arith}
use Rattle.terms.specs.Tells.{Tells}
use Rattle.terms.proofs.Told.{told_yes, told_no}
use Rattle.table.proofs.Index.{known_lt, known_entry}
use Rattle.reading.proofs.Tests.{reaches_tells}
use Rattle.reading.proofs.Full.reaches.Goals as goal

pub returns-then-not-is_piece : goal.returns-then-not-is_piece
unfolding Tells
returns-then-not-is_piece c = λ r. told_no c.is_piece.result _ (rw c.self.view_is at c.is_piece.ensures) (c.if-not-is_piece.true) r.0

pub at-requires : goal.at-requires
at-requires c = let k = rw c.self.view_is at c.self.invariant in rw c.self.view_is (omega (arith, k), omega (arith, k), omega arith, known_lt k.2 _ _ (omega arith) (omega arith))

pub returns : goal.returns
returns c = let k = rw c.self.view_is at c.self.invariant in reaches_tells _ _ _ _ _ (told_yes c.is_piece.result _ (rw c.self.view_is at c.is_piece.ensures) (c.if-not-is_piece.false)) (known_entry k.2 (rw c.self.view_is at c.at.ensures) (omega arith) (omega arith)) (omega arith)
