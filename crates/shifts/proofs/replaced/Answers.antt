-- `replaced` meets its contract, by the kinds of edit. Assumes nothing.
use mathlib.Core.Path.{ap, sym, ◌∙◌}
use Rattle.shifts.specs.Work.{in_places}
use Rattle.shifts.proofs.Inside.{letter_inside, out_inside}
use Rattle.shifts.proofs.replaced.Goals as goal

pub bounds-letters-place : goal.bounds-letters-place
bounds-letters-place c = letter_inside _ _ (ap in_places (sym c.in-Letter.is) ∙ c.requires)

pub bounds-letters-place-in-TakeOut : goal.bounds-letters-place-in-TakeOut
bounds-letters-place-in-TakeOut c = out_inside _ (ap in_places (sym c.in-TakeOut.is) ∙ c.requires)
