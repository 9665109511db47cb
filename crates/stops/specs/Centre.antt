-- The question for one centre (02, L3): its maximal length, and what stops it.
use Rattle.std.specs.Prelude.{◌≡◌, Bool, List, [], ◌∷◌, ◌++◌, ℕ, Result, Ok, Err, IfOk, leb}
use Rattle.terms.specs.Refusals.{first_fault, fault_of}
use Rattle.terms.specs.declared.refusal.Refusal.{Refusal}
use Rattle.terms.specs.Texts.{Text, size}
use Rattle.spans.specs.Palindromes.{centres, MaximalLength}
use Rattle.spans.specs.Centres.{walk_faults}
use Rattle.spans.specs.Stops.{Stops}
use Rattle.spans.specs.declared.outward.Stop.{Stop}
use Rattle.spans.specs.declared.outward.Stop.TheVariants.{Pair, End, Barred}
use Rattle.stops.specs.declared.CentreStop.{CentreStop}

-- The number of each case, and its values: both places of the pair, zeros else.
abbrev pub stop_number : Stop → ℕ
stop_number (Pair i j) = 1
stop_number End = 2
stop_number Barred = 3

abbrev pub stop_values : Stop → List ℕ
stop_values (Pair i j) = i ∷ j ∷ []
stop_values End = 0 ∷ 0 ∷ []
stop_values Barred = 0 ∷ 0 ∷ []

-- The values of a reply: the length, the case's number and its two values; zeros where it is a refusal.
unfoldable pub reply_values : Result CentreStop Refusal → List ℕ
reply_values (Ok r) = r.length ∷ stop_number r.stop ∷ stop_values r.stop
reply_values (Err e) = 0 ∷ 0 ∷ 0 ∷ 0 ∷ []

-- The fill's refusals but 11, then 6 for a centre not below 2n - 1: every centre where n = 0.
unfoldable pub centre_faults : Text → ℕ → ℕ → List (ℕ × Bool)
centre_faults x d c = walk_faults x d ++ (6, leb (centres (size x)) c) ∷ []

-- The reply: a refusal is its number alone; else the maximal length of the centre, and what stops it.
pub record CentreReply (x : Text) (d c : ℕ) (r : Result CentreStop Refusal) : Type 0 where
  pub number : fault_of r ≡ first_fault (centre_faults x d c)
  pub accepted : IfOk r (λ f. MaximalLength x d c f.length × Stops x d c f.stop)
