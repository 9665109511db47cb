-- The first fault of a list is one number; lists one after the other; a list of tests. Assumes nothing.
use mathlib.Core.Path.{◌≡◌, refl, sym, ap, ◌∙◌}
use mathlib.Core.Bool.{Bool, true, false, cond, ◌||◌}
use mathlib.Core.List.{List, [], ◌∷◌, ◌++◌}
use mathlib.Core.Logic.{inl, inr, ⊎_elim}
use Prim.Native.Nat.{ℕ, ◌<◌}
use native.Mathlib.Omega.{arith}
use borrow.Author.Tests.{eqb-false}
use lib.Dec.{eqb}
use Rattle.terms.proofs.Below.{or_left, or_right}
use Rattle.terms.specs.Refusals.{first_fault, FirstFault, tested, OneOf}
use Rattle.terms.specs.Maps.{map_faults}
use Rattle.terms.specs.Alphabets.{alphabet_faults}
use Rattle.terms.specs.Limits.{wrong_kind, kind_out_of_range, lengths_out_of_range, out_of_range, kind_faults, lengths_faults, limits_faults}
use Rattle.terms.specs.Texts.{Text, too_long, string_faults, text_faults, pair_faults, opening_faults}
use Rattle.terms.specs.declared.limits.Limits.{Limits}

pub fault_unique : (ts : List (ℕ × Type 0)) (j k : ℕ) → FirstFault ts j → FirstFault ts k → j ≡ k
fault_unique [] j k p q = p ∙ sym q
fault_unique (t ∷ ts) j k (inl p) (inl q) = p.1 ∙ sym q.1
fault_unique (t ∷ ts) j k (inl p) (inr q) = absurd (q.0 p.0)
fault_unique (t ∷ ts) j k (inr p) (inl q) = absurd (p.0 q.0)
fault_unique (t ∷ ts) j k (inr p) (inr q) = fault_unique ts j k p.1 q.1

pub false_true : true ≡ false → ⊥
false_true e = let z : ◌≡◌ {A = ℕ} 0 1 = cc in omega arith

-- every number of a list is a refusal's
abbrev pub Numbered : List (ℕ × Bool) → Type 0
Numbered [] = Unit {0}
Numbered (t ∷ ts) = (0 < t.0) × Numbered ts

pub numbered_append : (ts us : List (ℕ × Bool)) → Numbered ts → Numbered us → Numbered (ts ++ us)
numbered_append [] us n m = m
numbered_append (t ∷ ts) us n m = (n.0, numbered_append ts us n.1 m)

-- a fault found stands, whatever list follows
pub fault_stays : (ts us : List (ℕ × Bool)) → 0 < first_fault ts → first_fault (ts ++ us) ≡ first_fault ts
unfolding first_fault
fault_stays [] us h = absurd (omega arith)
fault_stays ((k, true) ∷ ts) us h = refl
fault_stays ((k, false) ∷ ts) us h = fault_stays ts us h

-- where none is found the list that follows is gone through
pub fault_goes_on : (ts us : List (ℕ × Bool)) → Numbered ts → first_fault ts ≡ 0 → first_fault (ts ++ us) ≡ first_fault us
unfolding first_fault
fault_goes_on [] us n h = refl
fault_goes_on ((k, true) ∷ ts) us n h = absurd (omega arith)
fault_goes_on ((k, false) ∷ ts) us n h = fault_goes_on ts us n.1 h

-- the same of a number that was reckoned: what code that tests one list after the other returns
pub fault_first : (ts us : List (ℕ × Bool)) (k : ℕ) → k ≡ first_fault ts → (k ≡ 0 → ⊥) → k ≡ first_fault (ts ++ us)
fault_first ts us k e z = e ∙ sym (fault_stays ts us (omega arith))

pub fault_next : (ts us : List (ℕ × Bool)) → Numbered ts → (j k : ℕ) → j ≡ first_fault ts → j ≡ 0 → k ≡ first_fault us → k ≡ first_fault (ts ++ us)
fault_next ts us n j k e z q = q ∙ sym (fault_goes_on ts us n (omega arith))

-- where the two together find none, neither does
pub fault_none : (ts us : List (ℕ × Bool)) → Numbered ts → first_fault (ts ++ us) ≡ 0 → (first_fault ts ≡ 0) × (first_fault us ≡ 0)
unfolding first_fault
fault_none [] us n h = (refl, h)
fault_none ((k, true) ∷ ts) us n h = absurd (omega arith)
fault_none ((k, false) ∷ ts) us n h = fault_none ts us n.1 h

-- the numbers of a list, and 0: the first fault is one of them
abbrev pub numbers : List (ℕ × Bool) → List ℕ
numbers [] = []
numbers (t ∷ ts) = t.0 ∷ numbers ts

pub fault_listed : (ts : List (ℕ × Bool)) → OneOf (first_fault ts) (0 ∷ numbers ts)
unfolding first_fault
fault_listed [] = inl refl
fault_listed ((k, true) ∷ ts) = inr (inl refl)
fault_listed ((k, false) ∷ ts) = ⊎_elim inl (λ o. inr (inr o)) (fault_listed ts)

pub one_of_append : (k : ℕ) (ns ms : List ℕ) → OneOf k ns → OneOf k (ns ++ ms)
one_of_append k [] ms o = absurd o
one_of_append k (n ∷ ns) ms (inl h) = inl h
one_of_append k (n ∷ ns) ms (inr o) = inr (one_of_append k ns ms o)

-- a number that a computed test finds in no place of a list is none of it
unfoldable pub member : ℕ → List ℕ → Bool
member k [] = false
member k (n ∷ ns) = eqb k n || member k ns

pub absent : (k : ℕ) (ns : List ℕ) → member k ns ≡ false → OneOf k ns → ⊥
unfolding member
absent k [] e o = o
absent k (n ∷ ns) e (inl h) = eqb-false k n (or_left (eqb k n) (member k ns) e) h
absent k (n ∷ ns) e (inr o) = absent k ns (or_right (eqb k n) (member k ns) e) o

-- tests as faults, before other faults: the first that holds is the first of the tests, or else of those
module _ (us : List (ℕ × Type 0)) (k : ℕ) where
  pub tested_first : (ts : List (ℕ × Bool)) → 0 < first_fault ts → k ≡ first_fault ts → FirstFault (tested ts ++ us) k
  unfolding first_fault
  tested_first [] h e = absurd (omega arith)
  tested_first ((n, true) ∷ ts) h e = inl (refl, e)
  tested_first ((n, false) ∷ ts) h e = inr ((λ z. let y : true ≡ false = sym z in false_true y), tested_first ts h e)

  pub tested_next : (ts : List (ℕ × Bool)) → Numbered ts → first_fault ts ≡ 0 → FirstFault us k → FirstFault (tested ts ++ us) k
  unfolding first_fault
  tested_next [] n h f = f
  tested_next ((m, true) ∷ ts) n h f = absurd (omega arith)
  tested_next ((m, false) ∷ ts) n h f = inr ((λ z. let y : true ≡ false = sym z in false_true y), tested_next ts n.1 h f)

-- the opening's list: the text's refusal stands, or else the limits' is the first
pub string_numbered : (s f : List ℕ) → Numbered (string_faults s f)
unfolding string_faults map_faults
string_numbered s f = (omega arith, (omega arith, (omega arith, tt)))

pub text_numbered : (x : Text) → Numbered (text_faults x)
unfolding text_faults string_faults map_faults alphabet_faults
text_numbered x = (omega arith, (omega arith, (omega arith, (omega arith, (omega arith, tt)))))

-- the string's and map's refusal stands, or else the alphabet's is the first
module _ (x : Text) where
  pub string_refuses : (k : ℕ) → k ≡ first_fault (string_faults x.letters x.map) → (k ≡ 0 → ⊥) → k ≡ first_fault (text_faults x)
  unfolding text_faults
  string_refuses = fault_first (string_faults x.letters x.map) (alphabet_faults x.letters x.map x.alphabet)

  pub string_passes : (j k : ℕ) → j ≡ first_fault (string_faults x.letters x.map) → j ≡ 0 → k ≡ first_fault (alphabet_faults x.letters x.map x.alphabet) → k ≡ first_fault (text_faults x)
  unfolding text_faults
  string_passes = fault_next (string_faults x.letters x.map) (alphabet_faults x.letters x.map x.alphabet) (string_numbered x.letters x.map)

-- of two strings: the second too long, or else the first with the map
module _ (s t f : List ℕ) where
  pub pair_long : too_long t ≡ true → 1 ≡ first_fault (pair_faults s t f)
  unfolding first_fault pair_faults
  pair_long e = go (too_long s)
    where
      go : (b : Bool) → 1 ≡ first_fault ((1, b || too_long t) ∷ map_faults f)
      go true = refl
      go false = sym (ap (λ (a : Bool). first_fault ((1, a) ∷ map_faults f)) e)

  pub pair_short : too_long t ≡ false → first_fault (pair_faults s t f) ≡ first_fault (string_faults s f)
  unfolding pair_faults string_faults
  pair_short e = ap (λ (a : Bool). first_fault ((1, a) ∷ map_faults f)) (go (too_long s))
    where
      go : (b : Bool) → (b || too_long t) ≡ b
      go true = refl
      go false = e

pub limits_numbered : (l : Limits) → Numbered (limits_faults l)
unfolding limits_faults
limits_numbered l = (omega arith, (omega arith, tt))

pub kind_numbered : (kind d : ℕ) → Numbered (kind_faults kind d)
unfolding kind_faults
kind_numbered kind d = (omega arith, (omega arith, tt))

pub lengths_numbered : (m g : ℕ) → Numbered (lengths_faults m g)
unfolding lengths_faults
lengths_numbered m g = (omega arith, tt)

-- the limits' list taken apart: its refusal is that of kind and d, or else that of m and g
module _ (l : Limits) where
  abbrev of_kind : List (ℕ × Bool)
  of_kind = kind_faults l.kind l.d

  abbrev of_lengths : List (ℕ × Bool)
  of_lengths = lengths_faults l.m l.g

  pub limits_apart : first_fault (limits_faults l) ≡ first_fault (of_kind ++ of_lengths)
  unfolding first_fault limits_faults out_of_range kind_faults lengths_faults
  limits_apart = go (wrong_kind l.kind) (kind_out_of_range l.kind l.d) (lengths_out_of_range l.m l.g)
    where
      go : (a b c : Bool) → ◌≡◌ {A = ℕ} (cond a 4 (cond (c || b) 5 0)) (cond a 4 (cond b 5 (cond c 5 0)))
      go true b c = refl
      go false true true = refl
      go false true false = refl
      go false false true = refl
      go false false false = refl

  pub kind_refuses : (k : ℕ) → k ≡ first_fault of_kind → (k ≡ 0 → ⊥) → k ≡ first_fault (limits_faults l)
  kind_refuses k e z = fault_first of_kind of_lengths k e z ∙ sym limits_apart

  pub kind_passes : (j k : ℕ) → j ≡ first_fault of_kind → j ≡ 0 → k ≡ first_fault of_lengths → k ≡ first_fault (limits_faults l)
  kind_passes j k e z q = fault_next of_kind of_lengths (kind_numbered l.kind l.d) j k e z q ∙ sym limits_apart

  -- so the limits pass exactly when both parts do
  pub limits_parts : first_fault (limits_faults l) ≡ 0 → (first_fault of_kind ≡ 0) × (first_fault of_lengths ≡ 0)
  limits_parts e = fault_none of_kind of_lengths (kind_numbered l.kind l.d) (sym limits_apart ∙ e)

  pub limits_whole : first_fault of_kind ≡ 0 → first_fault of_lengths ≡ 0 → first_fault (limits_faults l) ≡ 0
  limits_whole k m = sym (kind_passes 0 0 (sym k) refl (sym m))

module _ (x : Text) (l : Limits) where
  pub text_refuses : (k : ℕ) → k ≡ first_fault (text_faults x) → (k ≡ 0 → ⊥) → k ≡ first_fault (opening_faults x l)
  unfolding opening_faults
  text_refuses = fault_first (text_faults x) (limits_faults l)

  pub text_passes : (j k : ℕ) → j ≡ first_fault (text_faults x) → j ≡ 0 → k ≡ first_fault (limits_faults l) → k ≡ first_fault (opening_faults x l)
  unfolding opening_faults
  text_passes = fault_next (text_faults x) (limits_faults l) (text_numbered x)

  -- what an opening that is accepted passes: the text's refusals, and the limits'
  pub opening_parts : first_fault (opening_faults x l) ≡ 0 → (first_fault (text_faults x) ≡ 0) × (first_fault (limits_faults l) ≡ 0)
  unfolding opening_faults
  opening_parts e = fault_none (text_faults x) (limits_faults l) (text_numbered x) e

  pub opening_numbered : Numbered (opening_faults x l)
  unfolding opening_faults
  opening_numbered = numbered_append (text_faults x) (limits_faults l) (text_numbered x) (limits_numbered l)
