-- `fill_shuffled` meets its contract. Assumes nothing.
use Rattle.std.proofs.Common.{refl, sym, ◌∙◌}
use Rattle.terms.proofs.Named.{not_zero, handed_on}
use Rattle.shuffled.proofs.Laws.{fill_sound}
use Rattle.shuffled.proofs.fill_shuffled.Goals as goal

pub returns-in_err-check_shuffled : goal.returns-in_err-check_shuffled
returns-in_err-check_shuffled c =
    let h = handed_on _ _ c.from_residual.ensures.1 in
    record { number = h ∙ c.in_err-check_shuffled.ensures; refused = λ n. refl; accepted = λ z. absurd (not_zero _ (sym h ∙ z)) }

pub fill_longest-requires : goal.fill_longest-requires
fill_longest-requires c = fill_sound _ _ (sym c.in_ok-check_shuffled.ensures)
