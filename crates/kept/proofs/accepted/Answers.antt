-- `accepted` meets its contract: too many changes break the bounds, else what is left to judge decides. Assumes nothing.
use mathlib.Core.Path.{sym, ◌∙◌}
use native.Mathlib.Omega.{arith}
use Rattle.changes.proofs.Accepting.{accepts_fits, then_first}
use Rattle.kept.proofs.Walking.{kept_many}
use Rattle.kept.proofs.Judging.{back_start, back_stop, back_on, forth_start, taken_at, forth_stop, forth_on, forth_end}
use Rattle.kept.proofs.accepted.Goals as goal
use Rattle.kept.proofs.accepted.Goals.{then-standing-gt-CHANGES-via-then-standing-gt-CHANGES, then-standing-gt-CHANGES-via-else-standing-gt-CHANGES+then-standing-taken}

pub returns-then-standing-gt-CHANGES : goal.returns-then-standing-gt-CHANGES
returns-then-standing-gt-CHANGES c =
    elim c.then-standing-gt-CHANGES.branch [
      | then-standing-gt-CHANGES-via-then-standing-gt-CHANGES w ↦ sym (kept_many _ _ _ _ _ (omega arith))
      | then-standing-gt-CHANGES-via-else-standing-gt-CHANGES+then-standing-taken w ↦ sym (kept_many _ _ _ _ _ (omega arith))
    ]

pub loop-c-init : goal.loop-c-init
loop-c-init c =
    rw (c.into_iter-c-iterator.ensures.into_iter_gives, c.rev-c-items.ensures.source, c.iter.ensures.rest)
    (back_start c.args.n c.args.alphabet.now c.args.kept.now c.args.standing c.args.taken (omega arith) (omega arith))

pub returns-then-not-accepted_then : goal.returns-then-not-accepted_then
returns-then-not-accepted_then c = sym (back_stop _ _ _ _ _ _ _ _ _ _ _ c.loop-c.invariant c.in-Some.ensures.steps c.back-back.ensures c.done-done.ensures (sym c.accepted_then.ensures ∙ c.if-not-accepted_then.true))

pub length_after-reached-requires : goal.length_after-reached-requires
length_after-reached-requires c = accepts_fits _ _ _ (then_first _ _ _ _ (sym c.accepted_then.ensures ∙ c.if-not-accepted_then.false))

pub loop-c-preserved : goal.loop-c-preserved
loop-c-preserved c = back_on _ _ _ _ _ _ _ _ _ _ _ c.loop-c.invariant c.in-Some.ensures.steps c.back-back.ensures c.done-done.ensures _ (sym c.accepted_then.ensures ∙ c.if-not-accepted_then.false) c.length_after-reached.ensures

pub loop-c-2-init : goal.loop-c-2-init
loop-c-2-init c = forth_start _ _ _ _ _ _ _ c.in-None.ensures.steps.0 c.loop-c.invariant

pub returns-then-not-accepted_then-2 : goal.returns-then-not-accepted_then-2
returns-then-not-accepted_then-2 c = sym (forth_stop _ _ _ _ _ _ _ _ _ _ (omega arith) c.loop-c-2.invariant (taken_at c.args.kept.now c.args.standing c.args.taken c.loop-c-2.c-index (omega arith)) c.done-done-in-loop-c-2.ensures c.back-back-in-loop-c-2.ensures (sym c.accepted_then-in-loop-c-2.ensures ∙ c.if-not-accepted_then-2.true))

pub length_after-reached-requires-in-loop-c-2 : goal.length_after-reached-requires-in-loop-c-2
length_after-reached-requires-in-loop-c-2 c = accepts_fits _ _ _ (then_first _ _ _ _ (sym c.accepted_then-in-loop-c-2.ensures ∙ c.if-not-accepted_then-2.false))

pub loop-c-2-preserved : goal.loop-c-2-preserved
loop-c-2-preserved c = forth_on _ _ _ _ _ _ _ _ _ _ (omega arith) c.loop-c-2.invariant (taken_at c.args.kept.now c.args.standing c.args.taken c.loop-c-2.c-index (omega arith)) c.done-done-in-loop-c-2.ensures c.back-back-in-loop-c-2.ensures _ (sym c.accepted_then-in-loop-c-2.ensures ∙ c.if-not-accepted_then-2.false) c.length_after-reached-in-loop-c-2.ensures

pub returns : goal.returns
returns c = sym (forth_end _ _ _ _ _ _ _ (omega arith) c.loop-c-2.invariant)
