-- `put_field` meets its contract. Assumes nothing.
use mathlib.Core.List.{append-nil}
use Rattle.printing.proofs.Laws.{then_on, decimal_digits}
use Rattle.printing.proofs.Page.put_field.Goals as goal

pub returns : goal.returns
returns c =
    let d = c.decimal-many.ensures in
    rw (append-nil, ← decimal_digits _ _ d.len, ← d.digits) (then_on c.put_byte.ensures c.put_bytes.ensures)
