-- `Sheet::put_again` meets its contract: 24, 9, or the change taken back last put again. Assumes nothing.
use Prim.Native.Nat.{◌+◌, ◌-◌}
use Rattle.changes.specs.declared.Edit.{Edit}
use Rattle.kept.specs.Work.{popped_number}
use Rattle.sheet.proofs.Replying.{call_refused, call_accepted, applied_accepted, again_24, again_number, again_is}
use Rattle.terms.specs.declared.refusal.Refusal.TheVariants.{OutOfBounds, NoneTakenBack}
use Rattle.sheet.specs.Calls.{applied}
use mathlib.Core.Path.{sym, ap, ◌∙◌}
use Rattle.sheet.proofs.Sheet.put_again.Goals as goal

pub returns-then-not-in_bounds : goal.returns-then-not-in_bounds
returns-then-not-in_bounds c = call_refused _ _ _ OutOfBounds (again_24 _ (sym c.in_bounds.ensures ∙ c.if-not-in_bounds.true)) _ c.refused.ensures

pub returns-in_default : goal.returns-in_default
returns-in_default c = call_refused _ _ _ NoneTakenBack (again_number _ (sym c.in_bounds.ensures ∙ c.if-not-in_bounds.false) 9 (ap (popped_number 9) (sym c.in_default.is) ∙ c.last_taken.ensures.1)) _ c.refused-in_default.ensures

pub returns : goal.returns
returns c = let s = c.args.self in let w = sym c.in_bounds.ensures ∙ c.if-not-in_bounds.false in let o = c.last_taken.ensures in let q = c.in-Change.is in call_accepted _ _ _ (again_number s w 0 (ap (popped_number 9) (sym q) ∙ o.1)) _ (c.apply.ensures ∙ ap (λ (e : Edit). applied s e (s.standing + 1) (s.taken - 1)) (c.done.ensures ∙ again_is s _ (sym o.0 ∙ q))) (applied_accepted _ _ _ _)
