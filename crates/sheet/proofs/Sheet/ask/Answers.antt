-- `Sheet::ask` meets its contract. Assumes nothing.
use Rattle.changes.proofs.Accepting.{accepts_fits}
use Rattle.sheet.proofs.Within.{bounds}
use Rattle.sheet.proofs.Replying.{call_refused, change_sound}
use Rattle.sheet.proofs.Sheet.ask.Goals as goal

pub returns-in-Err : goal.returns-in-Err
returns-in-Err c = call_refused _ _ _ _ c.in-Err.ensures _ c.refused.ensures

pub change-requires : goal.change-requires
change-requires c = let w = change_sound _ _ c.in_default.ensures in ((bounds _ w.0).letters, accepts_fits _ _ _ w.1, w.2)
