-- `put_parts` meets its contract: the first k records are stored. Assumes nothing.
use Rattle.texts.specs.Lent.{text_of}
use Rattle.records.proofs.Putting.{Putting}
use Rattle.records.proofs.put_parts.Given as goal

abbrev pub invariant-loop-k : goal.invariant-loop-k
invariant-loop-k l = Putting (text_of l.text) l.codes l.initial.room l.room l.k l.i
