-- `longest_piece` meets its contract: no piece of len letters or more reaches the total. Assumes nothing.
use Prim.Native.Nat.{ℕ, ◌<◌}
use Rattle.tilings.specs.Work.{Reaches}
use Rattle.ways.specs.Spans.{board_of}
use Rattle.reading.proofs.Full.longest_piece.Given as goal

abbrev pub invariant-loop-len : goal.invariant-loop-len
invariant-loop-len l = (M : ℕ) → Reaches (board_of l.self.spans) l.i l.q l.v M → M < l.len
