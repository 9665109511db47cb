-- `put_bytes` meets its contract: the bytes before this one are put. Assumes nothing.
use lib.ListN.{take}
use Rattle.printing.specs.Pages.{PutOn}
use Rattle.printing.proofs.Page.put_bytes.Given as goal

abbrev pub invariant-loop-b : goal.invariant-loop-b
invariant-loop-b l = PutOn l.initial.self (take l.b-index l.bytes) l.self
