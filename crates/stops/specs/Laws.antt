-- What a reader may count on of every reply to the question for one centre; proved in proofs/.
use Rattle.std.specs.Prelude.{◌≡◌, true, [], ◌∷◌, ◌⊎◌, ℕ, ◌+◌, ◌-◌, ◌≤◌, ◌<◌, Result, Ok}
use Rattle.terms.specs.Refusals.{first_fault, fault_of, OneOf}
use Rattle.terms.specs.declared.refusal.Refusal.{Refusal}
use Rattle.terms.specs.Texts.{Text, size, text_faults}
use Rattle.spans.specs.Palindromes.{letter, differs, error_count, centre}
use Rattle.stops.specs.declared.CentreStop.{CentreStop}
use Rattle.spans.specs.declared.outward.Stop.{Stop}
use Rattle.spans.specs.declared.outward.Stop.TheVariants.{Pair, End, Barred}
use Rattle.stops.specs.Centre.{reply_values, CentreReply}

-- The span of L letters from a, at the centre c.
abbrev pub SpanAt : ℕ → ℕ → ℕ → Type 0
SpanAt c L a = (1 ≤ L) × (centre a L ≡ c)

-- The span of L letters at the centre c begins with the first letter, or ends with the last.
abbrev pub Touches : Text → ℕ → ℕ → Type 0
Touches x c L = (a : ℕ) × SpanAt c L a × ((a ≡ 0) ⊎ (a + L ≡ size x))

pub record CentreLaws (x : Text) (d c : ℕ) : Type 0 where
  -- the number answered is always one of these, and two replies to one question are equal
  pub listed : (r : Result CentreStop Refusal) → CentreReply x d c r → OneOf (fault_of r) (0 ∷ 1 ∷ 2 ∷ 3 ∷ 18 ∷ 19 ∷ 5 ∷ 6 ∷ [])
  pub one : (r r' : Result CentreStop Refusal) → CentreReply x d c r → CentreReply x d c r' → r ≡ r'
  -- a refusal says zeros beside its number
  pub zeros : (r : Result CentreStop Refusal) → CentreReply x d c r → (fault_of r ≡ 0 → ⊥) → reply_values r ≡ 0 ∷ 0 ∷ 0 ∷ 0 ∷ []
  -- the length follows from the pair that blocks, and is 0 for a middle letter, where i = j; the span within has all d errors, and the letters of the pair are no partners
  pub pair :
      (r : CentreStop) → CentreReply x d c (Ok r) → (i j : ℕ) → r.stop ≡ Pair i j
      → (r.length ≡ j - i - 1) × (error_count x.letters x.map (i + 1) r.length ≡ d) × (differs x.letters x.map i j ≡ true)
  -- at an end the span touches it
  pub end : (r : CentreStop) → CentreReply x d c (Ok r) → r.stop ≡ End → Touches x c r.length
  -- a barred centre has no palindrome
  pub barred : (r : CentreStop) → CentreReply x d c (Ok r) → r.stop ≡ Barred → r.length ≡ 0

-- p is a place of the pair that blocks.
abbrev pub InPair : Stop → ℕ → Type 0
InPair (Pair i j) p = (p ≡ i) ⊎ (p ≡ j)
InPair End p = ⊥
InPair Barred p = ⊥

-- p is a place of the span of L letters at the centre c.
abbrev pub InSpan : ℕ → ℕ → ℕ → Type 0
InSpan c L p = (a : ℕ) × SpanAt c L a × (a ≤ p) × (p < a + L)

-- p is a place of the span answered, or of the pair that blocks it.
abbrev pub Involved : ℕ → CentreStop → ℕ → Type 0
Involved c r p = InSpan c r.length p ⊎ InPair r.stop p

-- The two texts have one map, one alphabet and as many letters.
abbrev pub Alike : Text → Text → Type 0
Alike x y = (y.map ≡ x.map) × (y.alphabet ≡ x.alphabet) × (size y ≡ size x)

-- A letter outside the span and the blocking pair changes neither length nor stop: what is answered before it is changed is answered after.
abbrev pub LetterOutside : Type 0
LetterOutside =
    (x y : Text) (d c p : ℕ) (r : CentreStop) → Alike x y → ((k : ℕ) → (k ≡ p → ⊥) → letter y.letters k ≡ letter x.letters k) → first_fault (text_faults y) ≡ 0
    → CentreReply x d c (Ok r) → (Involved c r p → ⊥) → CentreReply y d c (Ok r)

-- So do any number of letters there.
abbrev pub LettersOutside : Type 0
LettersOutside =
    (x y : Text) (d c : ℕ) (r : CentreStop) → Alike x y → ((k : ℕ) → Involved c r k → letter y.letters k ≡ letter x.letters k) → first_fault (text_faults y) ≡ 0
    → CentreReply x d c (Ok r) → CentreReply y d c (Ok r)
