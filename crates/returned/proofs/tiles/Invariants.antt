-- `tiles` meets its contract: what is left of the file tells it. Assumes nothing.
use Rattle.std.proofs.Common.{◌≡◌, ◌+◌, ◌%◌, ◌≤◌, Bool, length}
use Rattle.std.specs.Slice.Iter.{chunks_exact_rest, chunks_exact_size}
use Rattle.spans.proofs.Exactness.{Bytes}
use Rattle.returned.specs.Work.{Decides}
use Rattle.returned.proofs.Following.{DecidesRest}
use Rattle.returned.proofs.tiles.Given as goal

abbrev pub invariant-loop-record : goal.invariant-loop-record
invariant-loop-record l =
    let left = chunks_exact_rest l.record-iterator in
    record {
      six : chunks_exact_size l.record-iterator ≡ 6;
      whole : length left % 6 ≡ 0;
      few : l.gaps + length left ≤ length l.file;
      bytes : Bytes left;
      tells : (v : Bool) → DecidesRest v l.n l.g left l.i l.gaps l.behind → Decides v l.n l.g l.file;
    }
