-- `put_part` meets its contract: a piece by an even number, a gap by an odd one. Assumes nothing.
use mathlib.Core.Path.{◌≡◌, refl, ◌∙◌}
use mathlib.Core.List.{append_assoc}
use Prim.Native.Nat.{◌+◌, ◌-◌, ◌*◌}
use native.Mathlib.Omega.{arith}
use lib.Seq.{drop-drop}
use Rattle.texts.specs.Lent.{text_of}
use Rattle.tilings.specs.Work.{decode}
use Rattle.records.specs.Records.{record_of}
use Rattle.records.proofs.Putting.{bytes_piece, bytes_gap}
use Rattle.records.proofs.put_part.Goals as goal
use Rattle.records.proofs.put_part.Goals.{then-code-eq0, else-code-eq0}

pub returns-clause-put : goal.returns-clause-put
returns-clause-put c =
    let a = c.args in
    let x = text_of a.text in
    let made = c.copy_from_slice.ensures.after ∙ c.record_bytes.ensures in
    let b : c.copy_from_slice.new.self ≡ record_of x a.i (decode a.code) =
    elim c.if-code-eq0.branch [
      | then-code-eq0 w ↦ bytes_piece x _ _ _ c.from-len.ensures _ _ made w.if-code-eq0.true _ w.count_errors-e.ensures w.tag-is
      | else-code-eq0 w ↦ bytes_gap x _ _ _ c.from-len.ensures _ _ made w.if-code-eq0.false w.tag-is
    ] in
    let s : 6 * a.k + 6 - 6 * a.k ≡ 6 = omega arith in
    rw (b, s, drop-drop 6 (6 * a.k) a.room.now, append_assoc) refl
