-- `complement_of` meets its contract: its five arms are the law's four letters and the rest. Assumes nothing.
use mathlib.Core.Path.{sym}
use mathlib.Core.Logic.{⊎_elim}
use native.Mathlib.Omega.{arith}
use Rattle.terms.specs.Maps.{complement_map}
use Rattle.terms.proofs.Laws.{partner_at, supplied_laws}
use Rattle.terms.proofs.maps.complement_of.Goals as goal

pub returns-in-65 : goal.returns-in-65
returns-in-65 c = sym (partner_at complement_map c.in-65.is supplied_laws.complement.A)

pub returns-in-84 : goal.returns-in-84
returns-in-84 c = sym (partner_at complement_map c.in-84.is supplied_laws.complement.T)

pub returns-in-67 : goal.returns-in-67
returns-in-67 c = sym (partner_at complement_map c.in-67.is supplied_laws.complement.C)

pub returns-in-71 : goal.returns-in-71
returns-in-71 c = sym (partner_at complement_map c.in-71.is supplied_laws.complement.G)

pub returns-in_default : goal.returns-in_default
returns-in_default c = let n = c.in_default.in_default-own.rest in
    sym (supplied_laws.complement.rest c.args.letter (omega arith) (⊎_elim n.0.0.0.1 (⊎_elim n.0.0.1 (⊎_elim n.0.1 (⊎_elim n.1 (λ (z : ⊥). z))))))
