-- `maps::check` meets its contract. Assumes nothing.
use mathlib.Core.Path.{sym, ◌∙◌}
use borrow.Author.Tests.{eq-eqb, ne_eqb}
use Rattle.terms.specs.Refusals.{first_fault}
use Rattle.terms.specs.Maps.{map_faults}
use Rattle.terms.proofs.maps.check.Goals as goal

pub returns-then-map-ne256 : goal.returns-then-map-ne256
unfolding first_fault map_faults
returns-then-map-ne256 c = simp (ne_eqb _ _ c.if-map-ne256.true)

pub returns-then-not-own_inverse : goal.returns-then-not-own_inverse
unfolding first_fault map_faults
returns-then-not-own_inverse c = simp (eq-eqb _ _ c.if-map-ne256.false, sym c.own_inverse.ensures ∙ c.if-not-own_inverse.true)

pub returns : goal.returns
unfolding first_fault map_faults
returns c = simp (eq-eqb _ _ c.if-map-ne256.false, sym c.own_inverse.ensures ∙ c.if-not-own_inverse.false)
