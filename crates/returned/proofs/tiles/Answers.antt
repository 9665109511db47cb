-- `tiles` meets its contract: what is left of the file tells it. Assumes nothing.
use Rattle.std.proofs.Common.{◌∙◌, false, inl, inr, rules}
use Rattle.returned.proofs.Records.{whole_later, bytes_later}
use Rattle.returned.proofs.Following.{follow_off, follow_on}
use Rattle.returned.proofs.tiles.Goals as goal

pub returns-then-found-i : goal.returns-then-found-i
returns-then-found-i c =
    let s = c.in-Some.ensures.steps.1 in
    let k = c.loop-record.invariant in
    k.tells false (follow_off _ _ (s.1 ∙ k.six) _ c.record_at-found.ensures _ _ _ _ _ _ s.0 (inl c.if-found-i.true))

pub returns-then-gap : goal.returns-then-gap
returns-then-gap c =
    let s = c.in-Some.ensures.steps.1 in
    let k = c.loop-record.invariant in
    k.tells false (follow_off _ _ (s.1 ∙ k.six) _ c.record_at-found.ensures _ _ _ _ _ _ s.0 (inr (c.if-behind.true, c.if-gap.true)))

pub loop-record-preserved : goal.loop-record-preserved
loop-record-preserved c =
    let s = c.in-Some.ensures.steps.1 in
    let k = c.loop-record.invariant in
    record {
      six = search rules;
      whole = whole_later _ _ _ s.0 (s.1 ∙ k.six) k.whole;
      few = search rules;
      bytes = bytes_later _ _ _ s.0 k.bytes;
      tells = λ v h. k.tells v (follow_on _ _ (s.1 ∙ k.six) _ c.record_at-found.ensures _ _ _ _ _ _ s.0 c.if-found-i.false c.else-behind.either _ c.from-gaps.ensures v h);
    }
