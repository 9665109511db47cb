-- `look` meets its contract: a piece lowers the row, and a centre without one is dropped. Assumes nothing.
use Prim.Native.Nat.{◌+◌, ◌-◌, ◌*◌}
use Rattle.ways.specs.Spans.{PieceOf}
use Rattle.terms.proofs.Told.{told_yes, told_no}
use Rattle.table.proofs.Index.{known_lt}
use Rattle.table.proofs.Rows.{row_cut, row_skip, row_more}
use Rattle.table.proofs.Dropping.{looked_kept, looked_dropped}
use native.Mathlib.Omega.{arith}
use Rattle.table.proofs.Totals.look.Goals as goal

pub returns-then-is_piece : goal.returns-then-is_piece
returns-then-is_piece c = let a = c.args in
    let pre = c.requires in
    let L = a.c + 1 - (a.i + a.i) in
    let from = (a.i + L) * (a.self.g + 1) in
    let low = pre.along.0.low (omega arith) in
    let piece : PieceOf a.self.spans a.i L = told_yes c.is_piece.result (PieceOf a.self.spans a.i L) c.is_piece.ensures c.if-is_piece.true in
    let in_table = known_lt pre.known.1.2 (a.i + L) a.self.g (omega arith) (omega arith) in
    let cut = row_cut a.self.g from (from + a.self.g + 1 - from) a.self.t.now (omega arith) (omega arith) in
    (looked_kept (omega arith) pre.along.1, row_more pre.row_so_far.1 pre.known.1.2 (omega arith) (omega arith) piece cut c.lower.ensures)

pub returns : goal.returns
returns c = let no = told_no c.is_piece.result _ c.is_piece.ensures c.if-is_piece.false in (looked_dropped (omega arith) (omega arith) (omega arith) c.requires.along.0 c.requires.along.1 no, row_skip c.requires.row_so_far.1 no)
