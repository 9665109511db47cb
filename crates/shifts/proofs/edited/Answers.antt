-- `edited` meets its contract, by the kinds of edit. Assumes nothing.
use mathlib.Core.Path.{ap, sym, ◌∙◌}
use native.Mathlib.Omega.{arith}
use Rattle.changes.specs.Work.{fits}
use Rattle.changes.proofs.Accepting.{fits_letter, fits_in, fits_out}
use Rattle.shifts.proofs.edited.Goals as goal

pub bounds-a-place : goal.bounds-a-place
bounds-a-place c = omega (arith, fits_letter _ _ _ (ap (fits _) (sym c.in-Letter.is) ∙ c.requires.1))

pub put_in-requires : goal.put_in-requires
put_in-requires c = fits_in _ _ _ (ap (fits _) (sym c.in-PutIn.is) ∙ c.requires.1)

pub take_out-requires : goal.take_out-requires
take_out-requires c = (fits_out _ _ (ap (fits _) (sym c.in-TakeOut.is) ∙ c.requires.1), c.requires.0)
