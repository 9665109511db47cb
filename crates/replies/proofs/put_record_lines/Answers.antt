-- `put_record_lines` meets its contract: the line of the next record is put behind those before it. Assumes nothing.
use mathlib.Core.Path.{sym, ◌∙◌}
use native.Mathlib.Numerals.{add-one}
use lib.ListN.{length, length-append}
use Rattle.printing.proofs.Laws.{then_on}
use Rattle.replies.proofs.Lines.{next_record}
use Rattle.replies.proofs.put_record_lines.Goals as goal

pub loop-bytes-preserved : goal.loop-bytes-preserved
loop-bytes-preserved c =
    let (p, few, six, rest) = c.loop-bytes.invariant in
    let s = c.in-Some.ensures.steps in
    let n = next_record c.args.records.now _ _ (length c.loop-bytes.yielded) (sym s.1.0 ∙ rest) (s.1.1 ∙ six) in
    rw (length-append, add-one) (then_on p (rw n.2 at c.put_record_line.ensures), n.0, s.0 ∙ six, n.1)
