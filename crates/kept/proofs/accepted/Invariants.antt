-- `accepted` meets its contract: too many changes break the bounds, else what is left to judge decides. Assumes nothing.
use Rattle.std.specs.Iterator.Adapters.{rev_source}
use Rattle.std.specs.Slice.Iter.{iter_rest}
use Rattle.kept.proofs.Judging.{Back, Forth}
use Rattle.kept.proofs.accepted.Given as goal

abbrev pub invariant-loop-c : goal.invariant-loop-c
invariant-loop-c l = Back l.n l.alphabet l.kept l.standing l.taken l.reached (iter_rest (rev_source l.c-iterator))

abbrev pub invariant-loop-c-2 : goal.invariant-loop-c-2
invariant-loop-c-2 l = Forth l.n l.alphabet l.kept l.standing l.taken l.reached l.c-index
