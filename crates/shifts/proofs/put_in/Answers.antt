-- `put_in` meets its contract: the letters from the place on are copied one place up. Assumes nothing.
use borrow.Author.Rules.{rules}
use Rattle.shifts.proofs.Shifting.{put_stored}
use lib.ListN.{length}
use mathlib.Core.Path.{◌≡◌}
use native.Mathlib.Omega.{arith}
use Rattle.shifts.proofs.put_in.Goals as goal

pub returns : goal.returns
returns c = let l : length c.args.letters ≡ 1000 = search rules in put_stored _ _ _ _ _ c.requires.0 (omega arith) c.copy_within.ensures.after
