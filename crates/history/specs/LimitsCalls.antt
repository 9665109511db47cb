-- What a reader may count on of the two limits calls (02, L6), on any sheet handed in; proved in proofs/.
use Rattle.std.specs.Prelude.{◌≡◌, true, [], ◌∷◌, ℕ}
use Rattle.terms.specs.Refusals.{OneOf}
use Rattle.terms.specs.declared.limits.Limits.{Limits}
use Rattle.changes.specs.declared.Change.TheVariants.{Kind, Lengths}
use Rattle.sheet.specs.Bounds.{text_of, in_bounds}
use Rattle.sheet.specs.Calls.{number_of, kind_call, lengths_call, newest_of, last_taken, take_back_call, put_again_call, open_call}
use Rattle.sheet.specs.declared.Sheet.{Sheet}
use Rattle.sheet.specs.declared.Reply.{Reply}

-- Both have the same m and g; both have the same kind and d.
abbrev pub SameLengths : Limits → Limits → Type 0
SameLengths l l' = (l.m ≡ l'.m) × (l.g ≡ l'.g)

abbrev pub SameKind : Limits → Limits → Type 0
SameKind l l' = (l.kind ≡ l'.kind) × (l.d ≡ l'.d)

-- The limits that a call leaves.
abbrev pub limits_left : Reply → Limits
limits_left r = r.sheet.limits

pub record LimitsLaws (s : Sheet) : Type 0 where
  -- what a call doesn't name is kept,
  pub kind_keeps : (kind d : ℕ) → SameLengths (limits_left (kind_call s kind d)) s.limits
  pub lengths_keep : (m g : ℕ) → SameKind (limits_left (lengths_call s m g)) s.limits
  -- also where its change is taken back or put again
  pub kind_back : (k₀ d₀ kind d : ℕ) → newest_of s ≡ Kind k₀ d₀ kind d → SameLengths (limits_left (take_back_call s)) s.limits
  pub lengths_back : (m₀ g₀ m g : ℕ) → newest_of s ≡ Lengths m₀ g₀ m g → SameKind (limits_left (take_back_call s)) s.limits
  pub kind_again : (k₀ d₀ kind d : ℕ) → last_taken s ≡ Kind k₀ d₀ kind d → SameLengths (limits_left (put_again_call s)) s.limits
  pub lengths_again : (m₀ g₀ m g : ℕ) → last_taken s ≡ Lengths m₀ g₀ m g → SameKind (limits_left (put_again_call s)) s.limits
  -- on a sheet in its bounds neither call can leave limits that an opening, with the sheet's text, would refuse
  pub kind_opens : in_bounds s ≡ true → (kind d : ℕ) → number_of (open_call (text_of s) (limits_left (kind_call s kind d))).said ≡ 0
  pub lengths_open : in_bounds s ≡ true → (m g : ℕ) → number_of (open_call (text_of s) (limits_left (lengths_call s m g))).said ≡ 0
  -- the numbers that each can say
  pub kind_listed : (kind d : ℕ) → OneOf (number_of (kind_call s kind d).said) (0 ∷ 24 ∷ 4 ∷ 5 ∷ 7 ∷ [])
  pub lengths_listed : (m g : ℕ) → OneOf (number_of (lengths_call s m g).said) (0 ∷ 24 ∷ 5 ∷ 7 ∷ [])
