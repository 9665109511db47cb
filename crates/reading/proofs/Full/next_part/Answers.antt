-- `next_part` meets its contract. Assumes nothing.
use Prim.Native.Nat.{ℕ, ◌-◌, ◌≤◌}
use native.Mathlib.Omega.{arith}
use Rattle.ways.specs.Spans.{board_of}
use Rattle.table.proofs.Index.{known_lt}
use Rattle.reading.proofs.Tests.{least_small, read_least}
use Rattle.reading.proofs.Leading.{reach_small, lead_piece, gap_first, lead_gap}
use Rattle.reading.specs.Work.{Stops}
use Rattle.reading.proofs.Full.next_part.Goals as goal
use Rattle.reading.proofs.Full.next_part.Goals.{In-None}

-- Where no piece reaches the total, a gap does: there is one left.
blank_first : (c : In-None) → (M : ℕ) × (1 ≤ M) × (1 ≤ c.args.q) × Stops (board_of c.args.self.now.spans) c.args.i (c.args.q - 1) c.at-v.result M
blank_first c = let k = rw c.self.view_is at c.self.invariant in gap_first (λ a M p. p.some) (read_least k.2 c.requires.tiled (rw c.self.view_is at c.at-v.ensures) (omega arith) (omega arith)) c.in-None.ensures (omega arith)

pub at-v-requires : goal.at-v-requires
at-v-requires c = let k = rw c.self.view_is at c.self.invariant in rw c.self.view_is (omega (arith, k), omega (arith, k), omega arith, known_lt k.2 _ _ (omega arith) (omega arith))

pub longest_piece-requires : goal.longest_piece-requires
longest_piece-requires c = let k = rw c.self.view_is at c.self.invariant in record { sizes = omega (arith, least_small (read_least k.2 c.requires.tiled (rw c.self.view_is at c.at-v.ensures) (omega arith) (omega arith))) }

pub overflow_mul-result : goal.overflow_mul-result
overflow_mul-result c = let k = rw c.self.view_is at c.self.invariant in omega (arith, k, reach_small _ _ c.in-Some.ensures.0)

pub returns-in-Some : goal.returns-in-Some
returns-in-Some c = let k = rw c.self.view_is at c.self.invariant in lead_piece (λ a M p. p.some) (read_least k.2 c.requires.tiled (rw c.self.view_is at c.at-v.ensures) (omega arith) (omega arith)) c.in-Some.ensures

pub overflow_sub-q : goal.overflow_sub-q
overflow_sub-q c = (blank_first c).2

pub gap_length-blank-requires : goal.gap_length-blank-requires
gap_length-blank-requires c = let w = blank_first (goal.at.gap_length-blank-requires c).In-None in record { sizes = omega arith; stopped = (w.0, w.1, w.3) }

pub overflow_sub-result : goal.overflow_sub-result
overflow_sub-result c = (blank_first (goal.at.overflow_sub-result c).In-None).2

pub returns-in-None : goal.returns-in-None
returns-in-None c = let k = rw c.self.view_is at c.self.invariant in let w = blank_first (goal.at.returns-in-None c).In-None in lead_gap (λ a M p. p.some) (read_least k.2 c.requires.tiled (rw c.self.view_is at c.at-v.ensures) (omega arith) (omega arith)) c.in-None.ensures (omega (arith, w.2)) c.gap_length-blank.ensures
