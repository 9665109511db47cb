-- `put_line` meets its contract: after the letter the numbers before this one are put. Assumes nothing.
use lib.ListN.{take}
use Rattle.printing.specs.Printing.{fields}
use Rattle.printing.specs.Pages.{PutOn}
use Rattle.printing.proofs.Page.put_line.Given as goal

abbrev pub invariant-loop-n : goal.invariant-loop-n
invariant-loop-n l = PutOn l.initial.self (fields (take l.n-index l.numbers)) l.self
