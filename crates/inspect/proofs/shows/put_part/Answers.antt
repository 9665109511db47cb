-- `put_part` meets its contract. Assumes nothing.
use Rattle.std.proofs.Common.{rules}
use Rattle.printing.proofs.Laws.{and_then}
use Rattle.inspect.proofs.Showing.{put_numbers}
use Rattle.inspect.proofs.shows.put_part.Goals as goal

pub returns : goal.returns
returns c =
    let p = put_numbers _ c.put_items.ensures in
    rw (← c.number_of.ensures) (and_then c.put_line.ensures.put (search (rules, p)))
