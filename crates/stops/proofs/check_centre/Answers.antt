-- `check_centre` meets its contract. Assumes nothing.
use mathlib.Core.Path.{refl, ◌∙◌}
use native.Mathlib.Omega.{arith}
use borrow.Author.Tests.{le-leb}
use Rattle.terms.proofs.Named.{not_zero, handed_on}
use Rattle.spans.proofs.Refusing.{walk_sound, walk_refuses, last_refuses}
use Rattle.stops.specs.Centre.{centre_faults}
use Rattle.stops.proofs.Refusing.{a_centre}
use Rattle.stops.proofs.check_centre.Goals as goal

pub returns-in_err-check_walk : goal.returns-in_err-check_walk
unfolding centre_faults
returns-in_err-check_walk c = handed_on _ _ c.from_residual.ensures.1 ∙ walk_refuses _ _ 6 _ _ c.in_err-check_walk.ensures (not_zero _)

pub centre_count-count-requires : goal.centre_count-count-requires
centre_count-count-requires c = (walk_sound _ _ _ c.in_ok-check_walk.ensures refl).0.short

pub returns-then-count-c : goal.returns-then-count-c
unfolding centre_faults
returns-then-count-c c = last_refuses _ _ 6 _ _ c.in_ok-check_walk.ensures refl (le-leb _ _ (omega arith))

pub returns : goal.returns
returns c = a_centre _ _ _ _ c.in_ok-check_walk.ensures refl (omega arith)
