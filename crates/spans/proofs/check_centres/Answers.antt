-- `check_centres` meets its contract. Assumes nothing.
use mathlib.Core.Path.{refl, ◌∙◌}
use native.Mathlib.Omega.{arith}
use Rattle.terms.proofs.Named.{not_zero, handed_on}
use Rattle.spans.proofs.Refusing.{walk_sound, fill_refuses, room_refuses, all_pass}
use Rattle.spans.proofs.check_centres.Goals as goal

pub returns-in_err-check_walk : goal.returns-in_err-check_walk
returns-in_err-check_walk c = handed_on _ _ c.from_residual.ensures.1 ∙ fill_refuses _ _ _ _ c.in_err-check_walk.ensures (not_zero _)

pub centre_count-requires : goal.centre_count-requires
centre_count-requires c = (walk_sound _ _ _ c.in_ok-check_walk.ensures refl).0.short

pub returns-then-lent-centre_count : goal.returns-then-lent-centre_count
returns-then-lent-centre_count c = room_refuses _ _ _ _ c.in_ok-check_walk.ensures refl (omega arith)

pub returns : goal.returns
returns c = all_pass _ _ _ _ c.in_ok-check_walk.ensures refl (omega arith)
