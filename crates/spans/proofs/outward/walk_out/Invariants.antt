-- `walk_out` meets its contract. The invariant: the span from i is inside the string (or empty), has e errors, at most d. Assumes nothing.
use Rattle.spans.proofs.Walking.{Walk}
use Rattle.spans.proofs.outward.walk_out.Given as goal

abbrev pub invariant-loop-i : goal.invariant-loop-i
invariant-loop-i l = Walk l.text.letters.now l.text.map.now l.d l.c l.i l.e
