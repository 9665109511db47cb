-- Exact palindromes are those with no error; and what a centre's maximal length says of a span. Assumes nothing.
use mathlib.Core.Path.{◌≡◌, refl, sym, ap, ap₂, ◌∙◌, subst₂}
use mathlib.Core.Bool.{Bool, true, false, not, ◌&&◌}
use mathlib.Core.Logic.{⊎_elim}
use mathlib.Core.List.{List}
use Prim.Native.Nat.{ℕ, zero, suc, ◌+◌, ◌-◌, ◌/◌, ◌%◌, ◌≤◌, ◌<◌}
use native.Mathlib.Omega.{arith}
use borrow.Author.Tests.{eq-eqb, eqb-true}
use lib.Dec.{eqb}
use Rattle.terms.specs.Maps.{partner}
use Rattle.terms.specs.Alphabets.{is_in, own_partner}
use Rattle.terms.specs.Texts.{Text, size}
use Rattle.terms.specs.Passed.{SoundText}
use Rattle.terms.proofs.Below.{and_yes, some_yes}
use Rattle.terms.proofs.Passed.{sound_bytes}
use Rattle.spans.specs.Palindromes.{letter, differs, one, error_count, ExactPalindrome, DPalindrome, centre, Maximal, MaximalLength}
use Rattle.spans.proofs.Counting.{from, from_mono, errors_none, errors_one, errors_two}
use Rattle.terms.proofs.Order.{le_or_lt}

-- f(f(b)) = b for every byte b.
abbrev pub Back : List ℕ → Type 0
Back f = (b : ℕ) → b < 256 → partner f (partner f b) ≡ b

-- Every letter is a byte.
abbrev pub Bytes : List ℕ → Type 0
Bytes s = (k : ℕ) → letter s k < 256

pub agree : (s f : List ℕ) (i j : ℕ) → letter s i ≡ partner f (letter s j) → one (differs s f i j) ≡ 0
unfolding one
agree s f i j e = ap (λ (t : Bool). one (not t)) (eq-eqb _ _ e)

pub agrees : (s f : List ℕ) (i j : ℕ) → one (differs s f i j) ≡ 0 → letter s i ≡ partner f (letter s j)
unfolding one
agrees s f i j e = eqb-true (letter s i) (partner f (letter s j)) (go (eqb (letter s i) (partner f (letter s j))) e)
  where
    go : (t : Bool) → one (not t) ≡ 0 → t ≡ true
    go true h = refl
    go false h = absurd (omega arith)

-- Of two partners each is the other's.
turn : (s f : List ℕ) → Back f → Bytes s → (i j : ℕ) → letter s i ≡ partner f (letter s j) → letter s j ≡ partner f (letter s i)
turn s f b y i j e = sym (b (letter s j) (y j)) ∙ ap (partner f) (sym e)

abbrev Same : List ℕ → List ℕ → ℕ → ℕ → Type 0
Same s f a L = (k : ℕ) → k < L → letter s (a + k) ≡ partner f (letter s (a + (L - 1 - k)))

-- the pair (i, j) from the pair (i', j') at equal places
at : (s f : List ℕ) (i j i' j' : ℕ) → i ≡ i' → j ≡ j' → letter s i ≡ partner f (letter s j) → letter s i' ≡ partner f (letter s j')
at s f i j i' j' p q e = ap (letter s) (sym p) ∙ e ∙ ap (λ (k : ℕ). partner f (letter s k)) q

pub same_errors : (s f : List ℕ) (a L : ℕ) → Same s f a L → error_count s f a L ≡ 0
same_errors s f a zero h = errors_none s f a
same_errors s f a (suc zero) h = errors_one s f a ∙ agree s f a a (at s f (a + 0) (a + (1 - 1 - 0)) a a (omega arith) (omega arith) (h 0 (omega arith)))
same_errors s f a (suc (suc L)) h =
    let o : one (differs s f a (a + suc L)) ≡ 0 = agree s f a (a + suc L) (at s f (a + 0) (a + (suc (suc L) - 1 - 0)) a (a + suc L) (omega arith) (omega arith) (h 0 (omega arith))) in
    let k : error_count s f (suc a) L ≡ 0 = same_errors s f (suc a) L (λ j l. at s f (a + suc j) (a + (suc (suc L) - 1 - suc j)) (suc a + j) (suc a + (L - 1 - j)) (omega arith) (omega arith) (h (suc j) (omega arith))) in
    let e : error_count s f a (suc (suc L)) ≡ one (differs s f a (a + suc L)) + error_count s f (suc a) L = errors_two s f a L in
    omega arith

pub errors_same : (s f : List ℕ) → Back f → Bytes s → (a L : ℕ) → error_count s f a L ≡ 0 → Same s f a L
errors_same s f b y a zero e k l = absurd (omega arith)
errors_same s f b y a (suc zero) e k l =
    at s f a a (a + k) (a + (1 - 1 - k)) (omega arith) (omega arith) (agrees s f a a (sym (errors_one s f a) ∙ e))
errors_same s f b y a (suc (suc L)) e zero l =
    let t : error_count s f a (suc (suc L)) ≡ one (differs s f a (a + suc L)) + error_count s f (suc a) L = errors_two s f a L in
    at s f a (a + suc L) (a + 0) (a + (suc (suc L) - 1 - 0)) (omega arith) (omega arith) (agrees s f a (a + suc L) (omega arith))
errors_same s f b y a (suc (suc L)) e (suc k) l =
    let t : error_count s f a (suc (suc L)) ≡ one (differs s f a (a + suc L)) + error_count s f (suc a) L = errors_two s f a L in
    ⊎_elim
    (λ (h : L ≤ k).
    at s f (a + suc L) a (a + suc k) (a + (suc (suc L) - 1 - suc k)) (omega arith) (omega arith)
    (turn s f b y a (a + suc L) (agrees s f a (a + suc L) (omega arith))))
    (λ (h : k < L).
    at s f (suc a + k) (suc a + (L - 1 - k)) (a + suc k) (a + (suc (suc L) - 1 - suc k)) (omega arith) (omega arith)
    (errors_same s f b y (suc a) L (omega arith) k h))
    (le_or_lt L k)

-- The middle letter of an odd exact palindrome is its own partner: the alphabet bars no exact palindrome of its letters.
pub middle_own : (x : Text) → SoundText x → (a L : ℕ) → ExactPalindrome x.letters x.map a L → L % 2 ≡ 1 → own_partner x.map x.alphabet ≡ true
unfolding own_partner
middle_own x sound a L e o =
    let b : ℕ = letter x.letters (a + L / 2) in
    let s : letter x.letters (a + L / 2) ≡ partner x.map (letter x.letters (a + (L - 1 - L / 2))) = e.same (L / 2) (omega arith) in
    let i : a + L ≤ size x = e.inside in
    let m : a + (L - 1 - L / 2) ≡ a + L / 2 = omega arith in
    let q : partner x.map b ≡ b = sym (s ∙ ap (λ (k : ℕ). partner x.map (letter x.letters k)) m) in
    some_yes (λ (k : ℕ). is_in x.alphabet k && eqb (partner x.map k) k) 256 b (sound_bytes x sound (a + L / 2)) (and_yes _ _ (sound.spelt (a + L / 2) (omega arith)) (eq-eqb _ _ q))

pub exact_pal : (x : Text) → SoundText x → (a L : ℕ) → ExactPalindrome x.letters x.map a L → DPalindrome x 0 a L
exact_pal x sound a L e =
    let z : error_count x.letters x.map a L ≡ 0 = same_errors x.letters x.map a L e.same in
    record { some = e.some; inside = e.inside; few = omega arith; odd = middle_own x sound a L e }

pub pal_exact : (x : Text) → Back x.map → Bytes x.letters → (a L : ℕ) → DPalindrome x 0 a L → ExactPalindrome x.letters x.map a L
pal_exact x b y a L p =
    let z : error_count x.letters x.map a L ≤ 0 = p.few in
    record { some = p.some; inside = p.inside; same = errors_same x.letters x.map b y a L (omega arith) }

-- A span of a centre is a d-palindrome where it is no longer than the maximal length, and the maximal one where it is as long.
module _ (x : Text) (d c r a L : ℕ) (m : MaximalLength x d c r) (some : 1 ≤ L) (at_c : centre a L ≡ c) where
  -- the longest one of the centre, from its start b
  Longest : Type 0
  Longest = (b : ℕ) × DPalindrome x d b r × (centre b r ≡ c)

  longest_one : L ≤ r → Longest
  unfolding Longest
  longest_one l = ⊎_elim (λ (z : r ≡ 0). absurd (omega arith)) (λ (w : (b : ℕ) × DPalindrome x d b r × (centre b r ≡ c)). w) m.attained

  pub within : a + L ≤ size x → L ≤ r → DPalindrome x d a L
  unfolding Longest
  within i l =
      let w = longest_one l in
      let b : ℕ = w.0 in
      let e : centre b r ≡ c = w.2 in
      let k : from x.letters x.map c (b + (a - b)) ≤ from x.letters x.map c b = from_mono x.letters x.map c b (a - b) (omega arith) in
      let p : from x.letters x.map c (b + (a - b)) ≡ error_count x.letters x.map a L = ap₂ (error_count x.letters x.map) (omega arith) (omega arith) in
      let q : from x.letters x.map c b ≡ error_count x.letters x.map b r = ap (error_count x.letters x.map b) (omega arith) in
      let f : error_count x.letters x.map b r ≤ d = w.1.few in
      record { some = some; inside = i; few = omega arith; odd = λ h. w.1.odd (omega arith) }

  pub is_maximal : r ≡ L → Maximal x d a L
  unfolding Longest
  is_maximal e =
      let w = longest_one (omega arith) in
      let h : centre w.0 r ≡ c = w.2 in
      let u : w.0 ≡ a = omega arith in
      record {
        is = subst₂ (DPalindrome x d) u e w.1;
        longest = λ b M p s. let k : M ≤ r = m.longest b M p (omega arith) in omega arith;
      }

  pub maximal_is : Maximal x d a L → r ≡ L
  unfolding Longest
  maximal_is p =
      let k : L ≤ r = m.longest a L p.is at_c in
      let w = longest_one k in
      let h : centre w.0 r ≡ c = w.2 in
      let j : r ≤ L = p.longest w.0 r w.1 (omega arith) in omega arith
