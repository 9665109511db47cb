-- `check_kind` meets its contract: each return rewrites by the tests that led there. Assumes nothing.
use mathlib.Core.Path.{sym, ◌∙◌}
use mathlib.Core.Logic.{inl, inr}
use borrow.Author.Tests.{eq-eqb, ne_eqb, lt-ltb, le-ltb}
use Rattle.terms.specs.Refusals.{first_fault}
use Rattle.terms.specs.Limits.{too_many_errors, kind_out_of_range, kind_faults}
use Rattle.terms.proofs.limits.check_kind.Goals as goal

pub returns-then-wrong_kind : goal.returns-then-wrong_kind
unfolding first_fault kind_faults
returns-then-wrong_kind c = simp (sym c.wrong_kind.ensures ∙ c.if-wrong_kind.true)

pub returns-then-d-gt-ERRORS : goal.returns-then-d-gt-ERRORS
unfolding first_fault kind_faults kind_out_of_range too_many_errors
returns-then-d-gt-ERRORS c = simp (sym c.wrong_kind.ensures ∙ c.if-wrong_kind.false, lt-ltb _ _ c.if-d-gt-ERRORS.true)

pub returns-then-d-ne0 : goal.returns-then-d-ne0
unfolding first_fault kind_faults kind_out_of_range too_many_errors
returns-then-d-ne0 c = simp (sym c.wrong_kind.ensures ∙ c.if-wrong_kind.false, le-ltb _ _ c.if-d-gt-ERRORS.false, eq-eqb _ _ c.if-exact.true, ne_eqb _ _ c.if-d-ne0.true)

pub returns : goal.returns
unfolding first_fault kind_faults kind_out_of_range too_many_errors
returns c =
    elim c.else-exact.either [
      | inl p ↦ simp (sym c.wrong_kind.ensures ∙ c.if-wrong_kind.false, le-ltb _ _ c.if-d-gt-ERRORS.false, eq-eqb _ _ p.0, eq-eqb _ _ p.1)
      | inr p ↦ simp (sym c.wrong_kind.ensures ∙ c.if-wrong_kind.false, le-ltb _ _ c.if-d-gt-ERRORS.false, ne_eqb _ _ p)
    ]
