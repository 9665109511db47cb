-- `check_lengths` meets its contract: each return rewrites by the tests that led there. Assumes nothing.
use mathlib.Core.Logic.{inl, inr}
use borrow.Author.Tests.{eq-eqb, ne_eqb, lt-ltb, le-ltb}
use Rattle.terms.specs.Refusals.{first_fault}
use Rattle.terms.specs.Limits.{lengths_out_of_range, lengths_faults}
use Rattle.terms.proofs.limits.check_lengths.Goals as goal

pub returns-then-m-eq0 : goal.returns-then-m-eq0
unfolding first_fault lengths_faults lengths_out_of_range
returns-then-m-eq0 c =
    elim c.then-m-eq0.either [
      | inl p ↦ simp (eq-eqb _ _ p)
      | inr (inl p) ↦ simp (ne_eqb _ _ p.0, lt-ltb _ _ p.1)
      | inr (inr p) ↦ simp (ne_eqb _ _ p.0, le-ltb _ _ p.1, lt-ltb _ _ p.2)
    ]

pub returns : goal.returns
unfolding first_fault lengths_faults lengths_out_of_range
returns c = simp (ne_eqb _ _ c.if-m-eq0.false, le-ltb _ _ c.if-m-gt-LETTERS.false, le-ltb _ _ c.if-g-gt-GAPS.false)
