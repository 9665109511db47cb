-- `lay_own` meets its contract: the centres from c on are entered. Assumes nothing.
use Prim.Native.Nat.{◌+◌, ◌-◌}
use mathlib.Core.Path.{◌≡◌}
use native.Mathlib.Omega.{arith}
use Rattle.ways.proofs.Entering.{enter_start}
use Rattle.ways.proofs.Laying.{laid_own}
use Rattle.ways.proofs.Spans.lay_own.Goals as goal

pub loop-c-init : goal.loop-c-init
loop-c-init c = rw (c.saturating_sub-c.ensures) (enter_start c.args.self (omega arith) (omega arith) (omega arith) c.requires.nowhere.0 c.requires.nowhere.1)

pub enter-requires : goal.enter-requires
enter-requires c = let e : c.loop-c.c ≡ c.loop-c.c - 1 + 1 = omega arith in record { sizes = omega arith; entered = rw e at c.loop-c.invariant }

pub returns : goal.returns
returns c = let e : c.loop-c.c ≡ 0 = omega arith in laid_own (rw e at c.loop-c.invariant)
