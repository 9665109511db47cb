-- `gap_row` meets its contract: the numbers past the first, q of them, are moved. Assumes nothing.
use native.Mathlib.Omega.{arith}
use Prim.Native.Nat.{◌+◌, ◌-◌}
use mathlib.Core.Path.{◌≡◌}
use borrow.Author.Rules.{rules}
use borrow.Rule.Slice.PartMut.{mid_of, put_mid}
use lib.ListN.{get_or, length}
use Rattle.std.proofs.lemmas.List.{places}
use Rattle.terms.proofs.Ranges.{fill_up}
use Rattle.rows.proofs.Parts.{lesser_min, onward_min, part_put}
use Rattle.rows.proofs.gap_row.Goals as goal

pub loop-q-preserved : goal.loop-q-preserved
loop-q-preserved c = let f = c.loop-q.invariant in fill_up _ 0 _ _ _ f _ (omega arith) (omega arith) (c.min.result, rw (f.past c.loop-q.q (omega arith)) at (lesser_min c.min.ensures), onward_min c.saturating_add.ensures)

pub returns : goal.returns
returns c =
    let g = c.args.gaps.now in
    let m = length g - 1 in
    let f = c.loop-q.invariant in
    let p = part_put 1 m g c.loop-q.x-items (omega arith) (omega (arith, f.long)) in
    record {
      long = p.long;
      first = p.under 0 (omega arith);
      at = λ q h.
          let a : get_or (mid_of 1 m g) q 0 ≡ get_or g (q + 1) 0 = search (rules, places) in
          let b : get_or (put_mid 1 m g c.loop-q.x-items) (q + 1) 0 ≡ get_or c.loop-q.x-items q 0 = search (rules, places) in
          rw b (rw a at (f.held q (omega arith) (omega arith)));
    }
