-- `fill_table` meets its contract: the rows from i on are made, and the ways lead on for the starts up to i. Assumes nothing.
use mathlib.Core.Path.{◌≡◌}
use Prim.Native.Nat.{ℕ, ◌+◌, ◌-◌, ◌*◌, ◌≤◌}
use borrow.Author.Rules.{rules}
use lib.ListN.{length, get_or, take, replicate, length-take, length-replicate, get_or-replicate}
use Rattle.std.proofs.lemmas.List.{places}
use Rattle.ways.proofs.Firsts.{first_is}
use Rattle.table.proofs.Dropping.{next_fewer}
use Rattle.table.proofs.Index.{known_lt}
use Rattle.table.proofs.Rows.{row_cut, row_stored}
use Rattle.table.proofs.Tabled.{tabled_start, tabled_next}
use native.Mathlib.Omega.{arith}
use Rattle.table.proofs.fill_table.Goals as goal

-- A row cut from 16 numbers that are all the same.
same_long : (v g : ℕ) → g ≤ 15 → length (take (g + 1) (replicate 16 v)) ≡ g + 1
same_long v g h = simp (length-take, length-replicate) (omega arith)

all_same : (v g q : ℕ) → g ≤ 15 → q ≤ g → get_or (take (g + 1) (replicate 16 v)) q 0 ≡ v
all_same v g q h k = search (rules, places, get_or-replicate)

pub lay-requires-clause-nowhere : goal.lay-requires-clause-nowhere
lay-requires-clause-nowhere c = (λ k h. get_or-replicate 1000 k 2000 0 (omega arith), λ k h. get_or-replicate 1999 k 2000 0 (omega arith))

pub loop-i-init : goal.loop-i-init
loop-i-init c =
    let a = c.args in
    let end = a.spans.n * (a.g + 1) in
    let stored = row_stored a.g a.spans.n (end + a.g + 1 - end) a.t.now c.store_row.new.to (omega arith) (omega arith) (omega arith) c.store_row.ensures in
    (tabled_start _ stored (omega arith) (omega (arith, stored.long)) (same_long 65535 a.g (omega arith)) (λ q h. all_same 0 a.g q (omega arith) h) (λ q h. all_same 65535 a.g q (omega arith) h), c.lay.ensures.steps)

pub piece_row-requires-clause-first : goal.piece_row-requires-clause-first
piece_row-requires-clause-first c = (first_is _ _ c.lay.ensures (omega arith) (omega arith) c.first_of-begin.ensures.0 c.first_of-begin.ensures.1, next_fewer (omega arith) c.loop-i.invariant.1)

pub loop-i-preserved : goal.loop-i-preserved
loop-i-preserved c =
    let a = c.args in
    let l = c.loop-i in
    let j = l.i - 1 in
    let from = j * (a.g + 1) in
    let below = (j + 1) * (a.g + 1) in
    let k = known_lt l.invariant.0.known (j + 1) a.g (omega arith) (omega arith) in
    let cut = row_cut a.g below (below + a.g + 1 - below) l.t (omega arith) (omega arith) in
    let stored = row_stored a.g j (from + a.g + 1 - from) l.t c.store_row-in-loop-i.new.to (omega arith) (omega arith) (omega arith) c.store_row-in-loop-i.ensures in
    (tabled_next l.invariant.0 (omega arith) (omega arith) c.piece_row.ensures.0 cut c.gap_row.ensures stored, c.piece_row.ensures.1)
