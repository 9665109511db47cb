-- `enter` meets its contract. Assumes nothing.
use native.Mathlib.Omega.{arith}
use Rattle.ways.proofs.Entering.{enter_none, enter_one}
use Rattle.ways.proofs.Spans.enter.Goals as goal

pub returns-then-len-self : goal.returns-then-len-self
returns-then-len-self c = enter_none c.requires.sizes.1 c.requires.entered (λ a o. omega (arith, o c.requires.sizes.1))

pub returns-then-c-len : goal.returns-then-c-len
returns-then-c-len c = enter_none c.requires.sizes.1 c.requires.entered (λ a o. omega (arith, o c.requires.sizes.1))

pub returns-then-start-len : goal.returns-then-start-len
returns-then-start-len c = enter_none c.requires.sizes.1 c.requires.entered (λ a o. omega (arith, o c.requires.sizes.1))

pub returns : goal.returns
returns c = enter_one c.requires.sizes.1 c.requires.entered _ (omega arith) (omega arith) (omega arith) (omega arith)
