-- `gap_length` meets its contract: the first length that may stop is found. Assumes nothing.
use mathlib.Core.Path.{ap}
use Prim.Native.Nat.{ℕ, ◌≤◌, ◌<◌, ◌+◌, ◌-◌}
use native.Mathlib.Omega.{arith}
use borrow.Author.Rules.{rules}
use Rattle.terms.specs.Tells.{Tells}
use Rattle.std.specs.Option.{MatchOption}
use Rattle.std.proofs.lemmas.Iterator.{first_from_Range}
use Rattle.ways.specs.Spans.{board_of}
use Rattle.reading.specs.Work.{Stops}
use Rattle.reading.proofs.Tests.{stop_inside, some_found}
use Rattle.reading.proofs.Full.gap_length.Goals as goal
use Rattle.reading.proofs.Full.gap_length.Goals.{After-find}

found : (c : After-find) → let a = c.args in let S = λ (L : ℕ). Stops (board_of a.self.now.spans) a.i a.q a.v L in let n = c.self.inside.totals.spans.n - a.i + 1 in MatchOption c.find.result ((k : ℕ) → 1 ≤ k → k < n → S k → ⊥) (λ L. (1 ≤ L) × (L < n) × S L × ((k : ℕ) → 1 ≤ k → k < L → S k → ⊥))
unfolding Tells
found c = first_from_Range _ _ _ c.find.result _ _ c.find.ensures.ran (λ x q k. search rules) (λ x q k. search rules)

pub unwrap-requires : goal.unwrap-requires
unwrap-requires c = let w = c.requires.stopped in let k = stop_inside w.2 in some_found _ _ _ (found c) (λ none. none w.0 w.1 (omega (arith, ap (λ t. t.spans.n) c.self.view_is)) w.2)

pub returns : goal.returns
returns c = let f = rw c.unwrap.ensures at (found (goal.at.returns c).After-find) in record { some = f.0; is = f.2; first = f.3 }
