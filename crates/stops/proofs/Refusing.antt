-- The refusals of the question for one centre, and its reply. Assumes nothing.
use mathlib.Core.Path.{◌≡◌, ◌∙◌}
use Prim.Native.Nat.{ℕ, ◌≤◌, ◌<◌}
use native.Mathlib.Omega.{arith}
use borrow.Author.Tests.{lt-leb, leb-false}
use lib.Dec.{leb}
use Rattle.std.specs.Prelude.{Result, Ok, Err, IsErrAnd}
use Rattle.terms.specs.Refusals.{refusal_number, first_fault}
use Rattle.terms.specs.declared.refusal.Refusal.{Refusal}
use Rattle.terms.proofs.Named.{handed_on}
use Rattle.terms.specs.Texts.{Text, size}
use Rattle.terms.specs.Passed.{SoundText}
use Rattle.spans.specs.Palindromes.{centres}
use Rattle.spans.specs.Centres.{walk_faults}
use Rattle.stops.specs.declared.CentreStop.{CentreStop}
use Rattle.spans.proofs.Refusing.{last_passes, more_sound}
use Rattle.stops.specs.Centre.{centre_faults, CentreReply}

module _ (x : Text) (d c : ℕ) where
  pub a_centre : (j : ℕ) → j ≡ first_fault (walk_faults x d) → j ≡ 0 → c < centres (size x) → 0 ≡ first_fault (centre_faults x d c)
  unfolding centre_faults
  a_centre j e z h = last_passes x d 6 (leb (centres (size x)) c) j e z (lt-leb _ _ h)

  -- what an accepted question may count on
  pub centre_sound : (k : ℕ) → k ≡ first_fault (centre_faults x d c) → k ≡ 0 → SoundText x × (d ≤ 15) × (c < centres (size x))
  unfolding centre_faults
  centre_sound k e z = let h = more_sound x d 6 (leb (centres (size x)) c) (omega arith) k e z in (h.0, h.1, leb-false _ _ h.2)

  -- the reply to one that is refused
  pub centre_refused : (r : Result CentreStop Refusal) (e : Refusal) → IsErrAnd r (λ f. f ≡ e) → refusal_number e ≡ first_fault (centre_faults x d c) → CentreReply x d c r
  centre_refused (Ok f) e h q = absurd h
  centre_refused (Err f) e h q = record { number = handed_on {A = CentreStop} (Err f) e h ∙ q; accepted = tt }
