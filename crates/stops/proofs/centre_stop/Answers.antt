-- `centre_stop` meets its contract: a refusal, or one walk of a centre. Assumes nothing.
use mathlib.Core.Path.{refl}
use native.Mathlib.Omega.{arith}
use Rattle.texts.specs.Lent.{text_of}
use Rattle.stops.proofs.Refusing.{centre_sound, centre_refused}
use Rattle.stops.proofs.centre_stop.Goals as goal

pub returns-in_err-check_centre : goal.returns-in_err-check_centre
returns-in_err-check_centre c = centre_refused _ _ _ _ _ c.from_residual.ensures.1 c.in_err-check_centre.ensures

pub own_partner-own-requires : goal.own_partner-own-requires
own_partner-own-requires c = (centre_sound (text_of c.args.text) _ _ _ c.in_ok-check_centre.ensures refl).0.wide

pub walk-found-requires : goal.walk-found-requires
walk-found-requires c = let h = centre_sound (text_of c.args.text) _ _ _ c.in_ok-check_centre.ensures refl in omega (arith, h)

pub returns : goal.returns
returns c =
    let z = c.args.text.alphabet.now in
    let sound = (centre_sound (text_of c.args.text) _ _ _ c.in_ok-check_centre.ensures refl).0 in
    let own = c.own_partner-own.ensures in
    record { number = c.in_ok-check_centre.ensures; accepted = (rw c.from.ensures (c.walk-found.ensures.maximal z sound own), c.walk-found.ensures.stopped z sound own) }
