-- `question` meets its contract. Assumes nothing.
use mathlib.Core.Path.{refl}
use native.Mathlib.Omega.{arith}
use Rattle.std.proofs.Common.{rules}
use Rattle.printing.proofs.Laws.{put_end, put_length, and_then}
use Rattle.desk.proofs.Turns.{asked_shown}
use Rattle.desk.proofs.Desk.question.Goals as goal

pub put_record_lines-requires : goal.put_record_lines-requires
put_record_lines-requires c = let p = c.put_line.ensures.put in omega (arith, put_end p, put_length p)

pub returns : goal.returns
returns c = asked_shown _ _ c.in-Some.is _ c.in-Ok.ensures refl (and_then c.put_line.ensures.put (search rules))
