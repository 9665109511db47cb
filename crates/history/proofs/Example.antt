-- The example's answers, computed on the history and by demand 3 those of the sheet. Assumes nothing.
use mathlib.Core.Path.{refl, ap}
use Rattle.terms.specs.Refusals.{first_fault}
use Rattle.terms.specs.Maps.{every_below, own_inverse, map_faults, plain_map}
use Rattle.terms.specs.Alphabets.{all_bytes, closed_under, spelt, alphabet_faults}
use Rattle.terms.specs.Limits.{wrong_kind, too_many_errors, kind_out_of_range, lengths_out_of_range, out_of_range, limits_faults}
use Rattle.terms.specs.Texts.{string_faults, text_faults, opening_faults}
use Rattle.changes.specs.Changes.{place_fault, letter_fault, edit_faults}
use Rattle.sheet.specs.Calls.{number_of, answered}
use Rattle.history.specs.Example.{example_text, example_limits, example_calls, ExampleOpens, ExampleRuns}
use Rattle.history.proofs.Theorems.{demand_3}

pub example_opens : ExampleOpens
unfolding answered opening_faults text_faults string_faults alphabet_faults all_bytes closed_under spelt map_faults own_inverse every_below plain_map limits_faults wrong_kind out_of_range lengths_out_of_range kind_out_of_range too_many_errors first_fault
example_opens = refl

pub example_runs : ExampleRuns
unfolding first_fault all_bytes edit_faults place_fault letter_fault
example_runs a b c d e f s r =
    let F = (demand_3 example_text example_limits (example_calls a b c d e f) s (record { accepted = ap number_of example_opens; run = r })).0 in
    (F.0, F.1.0, F.1.1.0, F.1.1.1.0, F.1.1.1.1.0, F.1.1.1.1.1.0)
