-- `first_longest` meets its contract: the best of the centres below c is kept. Assumes nothing.
use mathlib.Core.Path.{ap, ◌∙◌}
use native.Mathlib.Omega.{arith}
use Rattle.longest.proofs.Firsts.{length_fits, search_next, search_end}
use Rattle.terms.specs.Alphabets.{own_partner, all_bytes}
use Rattle.terms.proofs.Passed.{sound_all}
use Rattle.longest.proofs.search.first_longest.Goals as goal

pub longer_of-best-requires : goal.longer_of-best-requires
longer_of-best-requires c = let h = length_fits _ _ _ _ (c.walk-found.ensures.maximal all_bytes (sound_all _ _ c.requires (λ k. omega (arith, c.type_inv.s k))) (c.own_partner-own.ensures ∙ ap (own_partner _) c.all-all.ensures)) in omega (arith, h, c.from.ensures)

pub loop-c-preserved : goal.loop-c-preserved
loop-c-preserved c = search_next _ _ c.requires (λ k. omega (arith, c.type_inv.s k)) _ _ _ _ c.loop-c.invariant (c.walk-found.ensures.maximal all_bytes (sound_all _ _ c.requires (λ k. omega (arith, c.type_inv.s k))) (c.own_partner-own.ensures ∙ ap (own_partner _) c.all-all.ensures)) (rw c.from.ensures at c.longer_of-best.ensures)

pub returns : goal.returns
returns c = search_end _ _ _ _ c.loop-c.invariant (omega arith)
