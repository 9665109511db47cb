-- `longest` meets its contract. Assumes nothing.
use mathlib.Core.Path.{sym, ◌∙◌}
use Rattle.terms.proofs.Named.{not_erred}
use Rattle.terms.proofs.Passed.{sound_string}
use Rattle.longest.proofs.longest.Goals as goal

pub first_longest-requires : goal.first_longest-requires
first_longest-requires c = sound_string _ _ (sym c.check_longest.ensures ∙ not_erred _ (sym c.if-is_err.ensures.value))
