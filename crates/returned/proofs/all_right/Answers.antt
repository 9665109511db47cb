-- `all_right` meets its contract: each answer tells of its record, and so the result tells of all. Assumes nothing.
use Rattle.std.proofs.Common.{subst, rules}
use Rattle.texts.specs.Lent.{text_of}
use Rattle.returned.specs.Work.{Judged}
use Rattle.returned.proofs.Records.{judged_all}
use Rattle.returned.proofs.all_right.Goals as goal

pub returns : goal.returns
returns c =
    let e = c.chunks_exact.ensures in
    let x = text_of c.args.text in
    subst (Judged _ x c.args.limits) e.rest
    (judged_all x c.args.limits _ (λ y b q h. (search rules, search rules)) _ _ _ e.size (rw e.rest c.requires.whole_records) c.all.ensures.ran)
