-- A sheet in its bounds asks for at most 16,016 table entries and 6,000 bytes of room. Assumes nothing.
use mathlib.Core.Path.{◌≡◌, refl, ap, ◌∙◌}
use mathlib.Core.Bool.{true}
use mathlib.Core.List.{List, [], ◌∷◌}
use mathlib.Core.Logic.{inl, inr}
use Prim.Native.Nat.{ℕ, ◌+◌, ◌*◌, ◌≤◌, ◌<◌}
use native.Mathlib.Nat.{mul-le-mul_right}
use native.Mathlib.Omega.{arith}
use borrow.Author.Tests.{le-ltb}
use lib.ListN.{length}
use Rattle.terms.specs.Refusals.{first_fault, OneOf}
use Rattle.terms.specs.Texts.{size, opening_faults}
use Rattle.terms.specs.Passed.{SoundText, SoundLimits}
use Rattle.terms.proofs.Passed.{sound_opening}
use Rattle.terms.proofs.Refusals.{opening_numbered, fault_goes_on}
use Rattle.tilings.specs.Tilings.{entries}
use Rattle.boards.proofs.Laws.{board_laws}
use Rattle.questions.specs.Tiling.{Answer, number_in, table_faults, HandsOver, TilingReply}
use Rattle.questions.proofs.Handed.{handing_whole}
use Rattle.sheet.specs.Bounds.{text_of, in_bounds}
use Rattle.sheet.specs.declared.Sheet.{Sheet}
use Rattle.sheet.proofs.Asked.{content_opens}
use Rattle.rooms.specs.Rooms.{RoomEnough}

module _ (s : Sheet) (w : in_bounds s ≡ true) where
  -- what it holds could be opened
  pub holds : SoundText (text_of s) × SoundLimits s.limits
  holds = sound_opening (text_of s) s.limits (content_opens s w)

  -- its table has at most 1,001 rows of 16 entries
  few_entries : entries (size (text_of s)) s.limits.g ≤ 16016
  few_entries =
      let g : s.limits.g ≤ 15 = holds.1.few in
      let n : size (text_of s) + 1 ≤ 1001 = omega (arith, holds.0.short) in
      let a : entries (size (text_of s)) s.limits.g ≤ 1001 * (s.limits.g + 1) = mul-le-mul_right (s.limits.g + 1) n in omega arith

  -- so no test before the tiling refuses
  no_fault : (lent : ℕ) → 16016 ≤ lent → first_fault (table_faults (text_of s) s.limits lent) ≡ 0
  unfolding table_faults first_fault
  no_fault lent h =
      fault_goes_on (opening_faults (text_of s) s.limits) _ (opening_numbered (text_of s) s.limits) (content_opens s w)
      ∙ simp (le-ltb lent (entries (size (text_of s)) s.limits.g) (omega (arith, few_entries))) refl

  module _ (room room' : List ℕ) (r : Answer) (h : 6000 ≤ length room) where
    -- the tiling given has at most as many parts as letters, 6 bytes each
    handed : HandsOver (text_of s) s.limits room room' r → OneOf (number_in r) (0 ∷ 24 ∷ 10 ∷ [])
    handed (inl a) = inr (inr (inl (ap number_in a.1)))
    handed (inr a) =
        let l : length a.0 ≤ size (text_of s) = (board_laws (text_of s) s.limits).few s.limits.g a.0 a.1.permitted in
        inl (ap number_in (a.2 ∙ ap (λ (y : Answer × List ℕ). y.0) (handing_whole (text_of s) a.0 room (omega (arith, holds.0.short)))))

    replied : (table table' : List ℕ) → 16016 ≤ length table → TilingReply (text_of s) s.limits table table' room room' r → OneOf (number_in r) (0 ∷ 24 ∷ 10 ∷ [])
    replied table table' t (inl f) =
        let z : 0 < first_fault (table_faults (text_of s) s.limits (length table)) = f.fault in absurd (omega (arith, no_fault (length table) t))
    replied table table' t (inr a) = handed a.handed

pub room_enough : RoomEnough
room_enough s table table' room room' r t m (inl p) = inr (inl (ap number_in p.1))
room_enough s table table' room room' r t m (inr p) = replied s p.0 room room' r m table table' t p.1
