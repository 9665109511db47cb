-- `Text::check` meets its contract: the string's and map's refusal stands, or else the alphabet's is the first. Assumes nothing.
use mathlib.Core.Path.{refl, sym, ◌∙◌}
use Rattle.texts.specs.Lent.{text_of}
use Rattle.terms.proofs.Refusals.{string_refuses, string_passes}
use Rattle.terms.proofs.Named.{not_zero, handed_on}
use Rattle.terms.proofs.Passed.{sound_string}
use Rattle.texts.proofs.Text.check.Goals as goal

pub returns-in_err-check_string : goal.returns-in_err-check_string
returns-in_err-check_string c = handed_on _ _ c.from_residual.ensures.1 ∙ string_refuses (text_of c.args.self) _ c.in_err-check_string.ensures (not_zero _)

pub check_alphabet-requires : goal.check_alphabet-requires
check_alphabet-requires c = (sound_string _ _ (sym c.in_ok-check_string.ensures)).wide

pub returns : goal.returns
returns c = string_passes (text_of c.args.self) _ _ c.in_ok-check_string.ensures refl c.check_alphabet.ensures
