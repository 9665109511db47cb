-- `take_out` meets its contract: the letters behind the place are copied one place down. Assumes nothing.
use borrow.Author.Rules.{rules}
use Rattle.shifts.proofs.Shifting.{out_stored}
use lib.ListN.{length}
use mathlib.Core.Path.{◌≡◌}
use native.Mathlib.Omega.{arith}
use Rattle.shifts.proofs.take_out.Goals as goal

pub returns : goal.returns
returns c = let l : length c.args.letters ≡ 1000 = search rules in out_stored _ _ _ _ c.requires.0 (omega arith) c.copy_within.ensures.after
