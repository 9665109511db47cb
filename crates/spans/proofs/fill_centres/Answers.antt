-- `fill_centres` meets its contract. Assumes nothing.
use mathlib.Core.Path.{refl}
use lib.ListN
use Rattle.texts.specs.Lent.{text_of}
use Rattle.spans.proofs.Refusing.{fill_sound, centres_refused, centres_filled}
use Rattle.spans.proofs.fill_centres.Goals as goal

pub returns-in_err-check_centres : goal.returns-in_err-check_centres
returns-in_err-check_centres c = centres_refused _ _ _ _ _ c.from_residual.ensures.1 c.in_err-check_centres.ensures

pub fill_lengths-requires : goal.fill_lengths-requires
fill_lengths-requires c = let a = c.args in let h = fill_sound (text_of a.text) a.d (ListN.length a.out.now) _ c.in_ok-check_centres.ensures refl in record { sound_text = h.0; sizes = (h.1, h.2) }

pub centre_count-requires : goal.centre_count-requires
centre_count-requires c = let a = c.args in let h = fill_sound (text_of a.text) a.d (ListN.length a.out.now) _ c.in_ok-check_centres.ensures refl in h.0.short

pub returns : goal.returns
returns c = centres_filled _ _ _ c.in_ok-check_centres.ensures _ c.fill_lengths.ensures _ c.centre_count.ensures
