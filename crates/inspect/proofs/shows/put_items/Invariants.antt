-- `put_items` meets its contract: after the letter the first items are put. Assumes nothing.
use mathlib.Core.List.{List}
use Prim.Native.Nat.{ℕ}
use lib.ListN.{take}
use Rattle.printing.specs.Printing.{fields}
use Rattle.printing.specs.Pages.{PutOn}
use Rattle.inspect.specs.Showing.{Numbers}
use Rattle.inspect.proofs.shows.put_items.Given as goal

abbrev pub invariant-loop-item : goal.invariant-loop-item
invariant-loop-item g l = (ns : List ℕ) × Numbers g.T.Into.converts (take l.item-index l.items) ns × PutOn l.initial.page (fields ns) l.page
