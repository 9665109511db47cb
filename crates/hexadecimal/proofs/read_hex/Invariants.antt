-- `read_hex` meets its contract: k bytes are read. Assumes nothing.
use Rattle.hexadecimal.proofs.Reading.{Read}
use Rattle.hexadecimal.proofs.read_hex.Given as goal

abbrev pub invariant-loop-k : goal.invariant-loop-k
invariant-loop-k l = Read l.s l.from l.initial.room l.room l.k l.at
