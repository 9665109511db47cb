-- What can be opened still can with other letters that are few and spelt, and with other limits that pass. Assumes nothing.
use mathlib.Core.Path.{◌≡◌, refl, sym}
use mathlib.Core.List.{List}
use Prim.Native.Nat.{ℕ, ◌≤◌}
use native.Mathlib.Omega.{arith}
use lib.Dec.{ltb}
use lib.ListN.{length}
use Rattle.terms.specs.Refusals.{first_fault}
use Rattle.terms.specs.Maps.{map_faults}
use Rattle.terms.specs.Alphabets.{alphabet_faults}
use Rattle.terms.specs.Limits.{limits_faults}
use Rattle.terms.specs.Texts.{Text, text, size, string_faults, text_faults, opening_faults}
use Rattle.terms.specs.declared.limits.Limits.{Limits}
use Rattle.terms.proofs.Refusals.{fault_none, string_numbered, text_passes, opening_parts}
use Rattle.terms.proofs.Passed.{passed}
use Rattle.sheet.proofs.Asked.{opening_passes}
use Rattle.history.proofs.Spelling.{Spells, flagged_by}

pub limits_open : (x : Text) (l l' : Limits) → first_fault (opening_faults x l) ≡ 0 → first_fault (limits_faults l') ≡ 0 → first_fault (opening_faults x l') ≡ 0
limits_open x l l' e h = sym (text_passes x l' 0 0 (sym (opening_parts x l e).0) refl (sym h))

pub letters_open : (x : Text) (l : Limits) (y : List ℕ) → length y ≤ 1000 → (Spells x.alphabet x.letters → Spells x.alphabet y)
    → first_fault (opening_faults x l) ≡ 0 → first_fault (opening_faults (text y x.map x.alphabet) l) ≡ 0
unfolding text_faults string_faults
letters_open x l y few spells e =
    let both = opening_parts x l e in
    let two = fault_none (string_faults x.letters x.map) (alphabet_faults x.letters x.map x.alphabet) (string_numbered x.letters x.map) both.0 in
    let m = passed 1 (ltb 1000 (size x)) (map_faults x.map) (omega arith) two.0 in
    opening_passes (text y x.map x.alphabet) l few m.1 (flagged_by x.letters y x.map x.alphabet spells two.1) both.1
