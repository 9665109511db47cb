-- `longer` meets its contract, on each of its three ways. Assumes nothing.
use mathlib.Core.Path.{sym}
use Rattle.terms.proofs.Named.{not_erred}
use Rattle.longest.proofs.Handing.{sound_pair}
use Rattle.longest.proofs.longer.Goals as goal

pub first_longest-mine-requires : goal.first_longest-mine-requires
first_longest-mine-requires c = let a = c.args in (sound_pair a.s.now a.t.now _ _ c.check_longer.ensures (not_erred _ (sym c.if-is_err.ensures.value))).0

pub first_longest-other-requires : goal.first_longest-other-requires
first_longest-other-requires c = let a = c.args in (sound_pair a.s.now a.t.now _ _ c.check_longer.ensures (not_erred _ (sym c.if-is_err.ensures.value))).1
