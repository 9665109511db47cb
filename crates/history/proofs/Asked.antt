-- The opening and the question without a sheet refuse alike. Assumes nothing.
use mathlib.Core.Path.{sym, ◌∙◌}
use Rattle.sheet.proofs.Asked.{same_number, late}
use Rattle.history.specs.Openings.{OpensAsAsked}
use Rattle.history.proofs.Openings.{number_of_opening}

pub opens_as_asked : OpensAsAsked
opens_as_asked x l t t' room room' r p =
    let e = number_of_opening x l in
    ((λ n. same_number x l t t' room room' r p (λ z. n (e ∙ z)) ∙ sym e), (λ z. late x l t t' room room' r p (sym e ∙ z)))
