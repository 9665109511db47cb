-- Where a walk outward from a centre may stop, what the maximal length then is, and what stops it. Assumes nothing.
use mathlib.Core.Path.{◌≡◌, refl, sym, ap, ap₂, ◌∙◌, subst}
use mathlib.Core.Logic.{◌⊎◌, inl, inr, ⊎_elim}
use mathlib.Core.Bool.{Bool, true, false, not, ◌&&◌}
use mathlib.Core.List.{List}
use Prim.Native.Nat.{ℕ, suc, ◌+◌, ◌-◌, ◌/◌, ◌%◌, ◌≤◌, ◌<◌}
use native.Mathlib.Omega.{arith}
use native.Mathlib.Nat.{le_antisymm}
use borrow.Author.Tests.{eqb-true, eqb-false}
use lib.Dec.{eqb}
use lib.ListN.{length}
use Rattle.terms.proofs.Order.{le_or_lt}
use Rattle.terms.proofs.Refusals.{false_true}
use Rattle.terms.specs.Alphabets.{own_partner}
use Rattle.terms.specs.Texts.{Text, text, size}
use Rattle.terms.specs.Passed.{EverySound}
use Rattle.spans.specs.Palindromes.{error_count, one, differs, DPalindrome, centre, centres, MaximalLength}
use Rattle.spans.specs.Stops.{Bars, Blocks, Stops}
use Rattle.spans.specs.Work.{Own, Unbarred}
use Rattle.spans.specs.declared.outward.Stop.{Stop}
use Rattle.spans.specs.declared.outward.Stop.TheVariants.{Pair, End, Barred}
use Rattle.spans.proofs.Counting.{from, from_mono, from_step, errors_none}

module _ (x : Text) (d c a : ℕ) (mid : a + a ≤ c + 2) (inside : c + 1 ≤ a + size x) (few : from x.letters x.map c a ≤ d)
    (own : c % 2 ≡ 0 → own_partner x.map x.alphabet ≡ true) (stop : (i : ℕ) → suc i ≡ a → (size x ≤ c - i) ⊎ (d < from x.letters x.map c i)) where
  none_past : (b M : ℕ) → b < a → DPalindrome x d b M → centre b M ≡ c → ⊥
  none_past b M l p e = go (a - 1) (omega arith)
    where
      go : (i : ℕ) → suc i ≡ a → ⊥
      go i h =
          let at : error_count x.letters x.map b M ≡ from x.letters x.map c b = ap (error_count x.letters x.map b) (omega arith) in
          let k : from x.letters x.map c (b + (i - b)) ≤ from x.letters x.map c b = from_mono x.letters x.map c b (i - b) (omega arith) in
          let j : from x.letters x.map c (b + (i - b)) ≡ from x.letters x.map c i = ap (from x.letters x.map c) (omega arith) in
          let few' : error_count x.letters x.map b M ≤ d = p.few in
          let in' : b + M ≤ size x = p.inside in
          ⊎_elim (λ (w : size x ≤ c - i). omega arith) (λ (w : d < from x.letters x.map c i). omega arith) (stop i h)

  pub longest_of : MaximalLength x d c (c + 1 - (a + a))
  longest_of =
      record {
        attained =
            ⊎_elim
            (λ (w : a + a ≤ c). inr (a, (record { some = omega arith; inside = omega arith; few = few; odd = λ h. own (omega arith) }), omega arith))
            (λ (w : c < a + a). inl (omega arith))
            (le_or_lt (a + a) c);
        longest = λ b M p e.
            ⊎_elim (λ (w : a ≤ b). omega arith) (λ (w : b < a). absurd (none_past b M w p e)) (le_or_lt a b);
      }

-- A centre has one maximal length.
pub longest_unique : {x : Text} {d c r r' : ℕ} → MaximalLength x d c r → MaximalLength x d c r' → r ≡ r'
longest_unique {x} {d} {c} {r} {r'} p q = le_antisymm (half p q) (half q p)
  where
    half : {u v : ℕ} → MaximalLength x d c u → MaximalLength x d c v → u ≤ v
    half {u} {v} h k =
        ⊎_elim (λ (e : u ≡ 0). omega arith) (λ (w : (a : ℕ) × DPalindrome x d a u × (centre a u ≡ c)). k.longest w.0 u w.1 w.2) h.attained

pub one_le : (b : Bool) → one b ≤ 1
unfolding one
one_le true = omega arith
one_le false = omega arith

pub one_fits : (n : ℕ) (b : Bool) → n ≡ one b → n ≤ 1
one_fits n b e = rw e (one_le b)

-- A centre of odd lengths has none where no letter of the alphabet is its own partner.
pub barred : (x : Text) (d c : ℕ) → c % 2 ≡ 0 → own_partner x.map x.alphabet ≡ false → MaximalLength x d c 0
barred x d c e n = record { attained = inl refl; longest = λ b M p h. absurd (false_true (sym (p.odd (odd_at b M p.some h)) ∙ n)) }
  where
    odd_at : (b M : ℕ) → 1 ≤ M → centre b M ≡ c → M % 2 ≡ 1
    odd_at b M some h = omega arith

-- What is known of a centre that is not barred is known where `own` tells so.
walked_free : (s f : List ℕ) (c : ℕ) (B : Text → Type 0) (own : Bool) → (not own && eqb (c % 2) 0) ≡ false → EverySound s f (Unbarred c) B → EverySound s f (Own own) B
walked_free s f c B true h u = λ z k e. u z k (λ b. sym e)
walked_free s f c B false h u = λ z k e. u z k (λ b. absurd (eqb-false (c % 2) 0 h b))

-- What the walk of a centre answers: where it is barred, and where it is not.
module _ (s f : List ℕ) (d c : ℕ) where
  abbrev Answers : (Text → Type 0) → ℕ → Stop → Type 0
  Answers A r stop = EverySound s f A (λ x. MaximalLength x d c r) × EverySound s f A (λ x. Stops x d c stop)

  pub walked_barred : (own : Bool) → (not own && eqb (c % 2) 0) ≡ true → Answers (Own own) 0 Barred
  walked_barred true h = absurd (false_true (sym h))
  walked_barred false h = let even : c % 2 ≡ 0 = eqb-true (c % 2) 0 h in (λ z k e. barred (text s f z) d c even (sym e), λ z k e. (even, sym e))

  pub walked_out : (own : Bool) → (not own && eqb (c % 2) 0) ≡ false → (r : ℕ) (stop : Stop) → Answers (Unbarred c) r stop → Answers (Own own) r stop
  walked_out own h r stop u = (walked_free s f c (λ x. MaximalLength x d c r) own h u.0, walked_free s f c (λ x. Stops x d c stop) own h u.1)

not_barred : (x : Text) (c : ℕ) → Unbarred c x → Bars x c → ⊥
not_barred x c u b = false_true (sym (u b.0) ∙ b.1)

-- How far a walk outward reached: the maximal length, with every alphabet that does not bar the centre.
abbrev pub Reaches : List ℕ → List ℕ → ℕ → ℕ → ℕ → Type 0
Reaches s f d c r = (z : List ℕ) → Unbarred c (text s f z) → MaximalLength (text s f z) d c r

-- What stops it there.
abbrev StopsAt : List ℕ → List ℕ → ℕ → ℕ → Stop → Type 0
StopsAt s f d c stop = (z : List ℕ) → Unbarred c (text s f z) → Stops (text s f z) d c stop

-- A walk outward: the span from a is inside the string, or has no letter yet, and has e errors, at most d.
pub record Walk (s f : List ℕ) (d c a e : ℕ) : Type 0 where
  pub mid : a + a ≤ c + 2
  pub inside : c + 1 ≤ a + length s
  pub count : from s f c a ≡ e
  pub few : e ≤ d

pub walk_start : (s f : List ℕ) (d c : ℕ) → c < centres (length s) → Walk s f d c (c / 2 + 1) 0
walk_start s f d c h =
    let z : from s f c (c / 2 + 1) ≡ 0 = ap (error_count s f (c / 2 + 1)) (omega arith) ∙ errors_none s f (c / 2 + 1) in
    record { mid = omega arith; inside = omega arith; count = z; few = omega arith }

module _ (s f : List ℕ) (d c a e : ℕ) (w : Walk s f d c a e) where
  -- the pair past a, where there is one
  next : 0 < a → from s f c (a - 1) ≡ one (differs s f (a - 1) (c - (a - 1))) + e
  next p =
      let m : a + a ≤ c + 2 = w.mid in
      let o : from s f c (a - 1) ≡ one (differs s f (a - 1) (c - (a - 1))) + from s f c (suc (a - 1)) = from_step s f c (a - 1) (omega arith) in
      let t : from s f c (suc (a - 1)) ≡ e = ap (from s f c) (omega arith) ∙ w.count in
      omega arith

  pub walk_step : (v : ℕ) → 0 < a → c - (a - 1) < length s → v ≡ one (differs s f (a - 1) (c - (a - 1))) → e + v ≤ d → Walk s f d c (a - 1) (e + v)
  walk_step v p i q l =
      let m : a + a ≤ c + 2 = w.mid in
      let n : from s f c (a - 1) ≡ one (differs s f (a - 1) (c - (a - 1))) + e = next p in
      record { mid = omega arith; inside = omega arith; count = omega arith; few = l }

  stopped : ((i : ℕ) → suc i ≡ a → (length s ≤ c - i) ⊎ (d < from s f c i)) → (r : ℕ) → r ≡ c + 1 - (a + a) → Reaches s f d c r
  stopped st r q =
      let fw : from s f c a ≤ d = rw w.count w.few in
      λ z o. subst (λ (k : ℕ). MaximalLength (text s f z) d c k) (sym q) (longest_of (text s f z) d c a w.mid w.inside fw o st)

  -- the string's start, its end, and too many errors
  pub stop_start : a ≤ 0 → (r : ℕ) → r ≡ c + 1 - (a + a) → Reaches s f d c r
  stop_start z = stopped (λ i h. absurd (omega arith))

  pub stop_end : 0 < a → length s ≤ c - (a - 1) → (r : ℕ) → r ≡ c + 1 - (a + a) → Reaches s f d c r
  stop_end p l = stopped (λ i h. inl (let g : i ≡ a - 1 = omega arith in rw g l))

  pub stop_over : (v : ℕ) → 0 < a → v ≡ one (differs s f (a - 1) (c - (a - 1))) → d < e + v → (r : ℕ) → r ≡ c + 1 - (a + a) → Reaches s f d c r
  stop_over v p q l =
      stopped
      (λ i h. inr
      (let g : i ≡ a - 1 = omega arith in
      let n : from s f c (a - 1) ≡ one (differs s f (a - 1) (c - (a - 1))) + e = next p in
      let k : d < from s f c (a - 1) = omega arith in
      subst (λ (j : ℕ). d < from s f c j) (sym g) k))

  -- every span of the centre from a on has at most d errors
  few_within : (b M : ℕ) → 1 ≤ M → centre b M ≡ c → a ≤ b → error_count s f b M ≤ d
  few_within b M some at l =
      let fw : from s f c a ≤ d = rw w.count w.few in
      let k : from s f c (a + (b - a)) ≤ from s f c a = from_mono s f c a (b - a) (omega arith) in
      let p : from s f c (a + (b - a)) ≡ error_count s f b M = ap₂ (error_count s f) (omega arith) (omega arith) in
      omega arith

  -- what stops the walk there: an end, where every span inside the string begins at a or later, and the pair past a
  ends : ((b M : ℕ) → 1 ≤ M → b + M ≤ length s → centre b M ≡ c → a ≤ b) → (stop : Stop) → stop ≡ End → StopsAt s f d c stop
  ends h stop q = λ z u. subst (Stops (text s f z) d c) (sym q) (not_barred (text s f z) c u, λ b M some i at. few_within b M some at (h b M some i at))

  pub ends_start : a ≤ 0 → (stop : Stop) → stop ≡ End → StopsAt s f d c stop
  ends_start h = ends (λ b M some i at. omega arith)

  pub ends_end : 0 < a → length s ≤ c - (a - 1) → (stop : Stop) → stop ≡ End → StopsAt s f d c stop
  ends_end p l = let m : a + a ≤ c + 2 = w.mid in ends (λ b M some i at. omega arith)

  pub blocks_over : (v : ℕ) → 0 < a → c - (a - 1) < length s → v ≡ one (differs s f (a - 1) (c - (a - 1))) → d < e + v → (stop : Stop) → stop ≡ Pair (a - 1) (c - (a - 1)) → StopsAt s f d c stop
  blocks_over v p i q l stop r =
      let m : a + a ≤ c + 2 = w.mid in
      let n : from s f c (a - 1) ≡ one (differs s f (a - 1) (c - (a - 1))) + e = next p in
      let k : d < from s f c (a - 1) = omega arith in
      let j : c + 1 - (a - 1 + (a - 1)) ≡ c - (a - 1) + 1 - (a - 1) = omega arith in
      let b : (z : List ℕ) → Blocks (text s f z) d c (a - 1) (c - (a - 1)) = λ z.
      record {
        pair = omega arith;
        order = omega arith;
        inside = i;
        over = subst (λ (L : ℕ). d < error_count s f (a - 1) L) j k;
        first = λ b M some at g. few_within b M some at (omega arith);
      }
      in
      λ z u. subst (Stops (text s f z) d c) (sym r) (not_barred (text s f z) c u, b z)
