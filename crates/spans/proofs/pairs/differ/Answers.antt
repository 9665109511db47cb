-- `differ` meets its contract. Assumes nothing.
use mathlib.Core.Bool.{Bool, true, false, not}
use mathlib.Core.Path.{◌≡◌, refl, ap, ◌∙◌}
use Rattle.std.specs.Int.{from_bool}
use Prim.Native.Nat.{ℕ}
use lib.ListN.{get_or}
use lib.Dec.{eqb}
use Rattle.spans.specs.Palindromes.{one}
use Rattle.spans.proofs.pairs.differ.Goals as goal

as_one : (b : Bool) → from_bool b ≡ one b
unfolding one
as_one true = refl
as_one false = refl

pub returns : goal.returns
returns c =
    let a = c.args in
    c.from-2.ensures ∙ as_one _ ∙ ap (λ (b : ℕ). one (not (eqb (get_or a.text.letters.now a.i 0) (get_or a.text.map.now b 0)))) c.from.ensures
