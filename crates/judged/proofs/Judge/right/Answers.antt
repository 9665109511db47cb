-- `Judge::right` meets its contract. Assumes nothing.
use native.Mathlib.Omega.{arith}
use Rattle.judged.proofs.Testing.{tells_piece, no_tag, tells_gap, not_gap}
use Rattle.judged.proofs.Judge.right.Goals as goal

pub returns-in-80 : goal.returns-in-80
returns-in-80 c = λ z sound own. tells_piece _ _ _ _ c.requires.at_in_bounds (λ k. omega (arith, c.type_inv.file k)) _ c.record_at-found.ensures c.in-80.is _ (c.piece.ensures z sound own)

pub returns-then-found-ne0 : goal.returns-then-found-ne0
returns-then-found-ne0 c = λ z sound own. tells_gap _ _ _ _ c.requires.at_in_bounds (λ k. omega (arith, c.type_inv.file k)) _ c.record_at-found.ensures c.in-71.is c.if-found-ne0.true.0 c.if-found-ne0.true.1

pub returns-else-found-ne0 : goal.returns-else-found-ne0
returns-else-found-ne0 c = λ z sound own. not_gap _ _ _ _ c.requires.at_in_bounds (λ k. omega (arith, c.type_inv.file k)) _ c.record_at-found.ensures c.in-71.is _ (cc) c.if-found-ne0.either

pub returns-in_default : goal.returns-in_default
returns-in_default c = λ z sound own. no_tag _ _ _ _ c.requires.at_in_bounds (λ k. omega (arith, c.type_inv.file k)) _ c.record_at-found.ensures (λ e. omega arith) (λ e. omega arith)
