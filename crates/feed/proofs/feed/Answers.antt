-- `feed` meets its contract. Assumes nothing.
use mathlib.Core.Path.{sym}
use Rattle.std.proofs.Common.{rules}
use Rattle.feed.proofs.Keeping.{left, line_put, line_ends, piece_ends}
use Rattle.feed.proofs.feed.Goals as goal

pub returns-in-Some : goal.returns-in-Some
returns-in-Some c =
    let p = line_put c.args.piece.now c.args.from _ c.end_of-end.ensures c.unwrap_or.ensures in
    record { takes_on = line_ends (p (search rules)) _ (rw (left c.args.piece.now c.args.from) at (sym c.in-Some.ensures)); put = p (search rules) }

pub returns-in-None : goal.returns-in-None
returns-in-None c =
    let p = line_put c.args.piece.now c.args.from _ c.end_of-end.ensures c.unwrap_or.ensures in
    record { takes_on = piece_ends (p (search rules)) c.requires.from_in_bounds (rw (left c.args.piece.now c.args.from) at (sym c.in-None.ensures)); put = p (search rules) }
