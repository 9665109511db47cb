-- `put_record_lines` meets its contract: the lines of the records met so far are put, and the rest of the records is to come. Assumes nothing.
use Rattle.std.specs.Prelude.{◌≡◌, ◌*◌, ◌≤◌, length, drop}
use Rattle.std.specs.Slice.Iter.{chunks_exact_rest, chunks_exact_size}
use Rattle.printing.specs.Pages.{PutOn}
use Rattle.replies.specs.Work.{record_lines}
use Rattle.replies.proofs.put_record_lines.Given as goal

abbrev pub invariant-loop-bytes : goal.invariant-loop-bytes
invariant-loop-bytes l =
    PutOn l.initial.page (record_lines l.records (length l.yielded)) l.page
    × (6 * length l.yielded ≤ length l.records)
    × (chunks_exact_size l.bytes-iterator ≡ 6)
    × (chunks_exact_rest l.bytes-iterator ≡ drop (6 * length l.yielded) l.records)
