-- `all` meets its contract. Assumes nothing.
use mathlib.Core.Path.{refl}
use Rattle.terms.specs.Alphabets.{all_bytes}
use Rattle.terms.proofs.alphabets.all.Goals as goal

pub returns : goal.returns
unfolding all_bytes
returns c = refl
