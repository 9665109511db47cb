-- A sheet in its bounds is so after an edit and after an accepted change. Assumes nothing.
use mathlib.Core.Path.{◌≡◌, ap, ◌∙◌}
use mathlib.Core.Bool.{true}
use Prim.Native.Nat.{ℕ, ◌<◌}
use native.Mathlib.Omega.{arith}
use lib.ListN.{length, get_or}
use Rattle.terms.specs.Alphabets.{is_in}
use Rattle.terms.proofs.Refusals.{opening_parts}
use Rattle.changes.specs.Changes.{done_of, back_of, length_by, accepts}
use Rattle.changes.specs.declared.Change.{Change}
use Rattle.changes.specs.declared.Edit.{Edit}
use Rattle.changes.proofs.Accepting.{accepts_fits, length_few}
use Rattle.shifts.specs.Shifts.{replacing}
use Rattle.kept.specs.Lists.{kept_accepted}
use Rattle.kept.proofs.Moving.{kept_changed}
use Rattle.sheet.specs.Bounds.{text_of, in_bounds}
use Rattle.sheet.specs.Calls.{applied, changed}
use Rattle.sheet.specs.declared.Sheet.{Sheet}
use Rattle.sheet.proofs.Within.{opening, within, bounds}
use Rattle.history.proofs.Edits.{replacing_done, back_accepted}

module _ (s : Sheet) (w : in_bounds s ≡ true) (e : Edit) (a : accepts s.n s.alphabet e ≡ true) where
  pub applied_bounds : (st tk : ℕ) → opening (applied s e st tk).sheet ≡ 0 → kept_accepted (length_by e s.n) s.alphabet s.kept st tk ≡ true
      → in_bounds (applied s e st tk).sheet ≡ true
  unfolding applied
  applied_bounds st tk o k = within (applied s e st tk).sheet (length_few s.n e (bounds s w).letters (accepts_fits s.n s.alphabet e a)) o ∙ k

  pub changed_bounds : opening (changed s e).sheet ≡ 0 → ((p : ℕ) → p < s.n → is_in s.alphabet (get_or s.letters p 0) ≡ true) → length s.kept ≡ 64
      → s.standing < 64 → in_bounds (changed s e).sheet ≡ true
  unfolding changed
  changed_bounds o old room few =
      let b = bounds s w in
      let c : Change = replacing e s.letters s.limits in
      let d : done_of c ≡ e = replacing_done s e in
      let f = accepts_fits s.n s.alphabet e a in
      within (changed s e).sheet (length_few s.n e b.letters f) o
      ∙ rw d at
      (kept_changed s.n s.alphabet s.kept s.standing s.taken c b.kept (ap (accepts s.n s.alphabet) d ∙ a)
      (ap (λ (g : Edit). accepts (length_by g s.n) s.alphabet (back_of c)) d ∙ back_accepted s (opening_parts (text_of s) s.limits b.opens).1 b.letters old e f) few (omega arith))
