-- The laws for a reader of the question for one centre. Assumes nothing.
use mathlib.Core.Path.{◌≡◌, refl, sym, ap, ◌∙◌, subst, subst₂}
use mathlib.Core.Bool.{true}
use mathlib.Core.List.{List, [], ◌∷◌}
use Prim.Native.Nat.{ℕ, ◌+◌, ◌-◌, ◌<◌}
use Rattle.std.specs.Prelude.{Result, Ok, Err}
use Rattle.terms.specs.Refusals.{fault_of, first_fault, OneOf}
use Rattle.terms.specs.declared.refusal.Refusal.{Refusal}
use Rattle.terms.specs.Maps.{map_faults}
use Rattle.terms.specs.Alphabets.{alphabet_faults}
use Rattle.terms.specs.Texts.{Text, text, size, string_faults, text_faults}
use Rattle.terms.proofs.Refusals.{fault_listed}
use Rattle.terms.proofs.Named.{not_zero, same_refusal}
use Rattle.spans.specs.Palindromes.{differs, error_count, centres, MaximalLength}
use Rattle.spans.specs.Centres.{walk_faults}
use Rattle.spans.specs.Stops.{Stops}
use Rattle.stops.specs.declared.CentreStop.{CentreStop}
use Rattle.spans.specs.declared.outward.Stop.{Stop}
use Rattle.spans.specs.declared.outward.Stop.TheVariants.{Pair, End, Barred}
use Rattle.spans.proofs.Refusing.{errors_pass}
use Rattle.spans.proofs.Walking.{longest_unique, barred}
use Rattle.stops.specs.Centre.{reply_values, centre_faults, CentreReply}
use Rattle.stops.specs.Laws.{Touches, CentreLaws, Involved, Alike, LetterOutside, LettersOutside}
use Rattle.stops.proofs.Refusing.{a_centre, centre_sound}
use Rattle.stops.proofs.Lengths.{pair_length, pair_errors, pair_differs, end_length, end_touches, one_stop}
use Rattle.stops.proofs.Local.{stays}

module _ (x : Text) (d c : ℕ) where
  centre_listed : OneOf (first_fault (centre_faults x d c)) (0 ∷ 1 ∷ 2 ∷ 3 ∷ 18 ∷ 19 ∷ 5 ∷ 6 ∷ [])
  unfolding centre_faults walk_faults text_faults string_faults map_faults alphabet_faults
  centre_listed = fault_listed (centre_faults x d c)

  one_reply : (r r' : Result CentreStop Refusal) → CentreReply x d c r → CentreReply x d c r' → r ≡ r'
  one_reply (Ok f) (Ok f') p q =
      let s : f.stop ≡ f'.stop = one_stop x d c f.stop f'.stop p.accepted.1 q.accepted.1 in
      λ i. Ok (record { length = longest_unique p.accepted.0 q.accepted.0 i; stop = s i })
  one_reply (Ok f) (Err e) p q = absurd (not_zero e (q.number ∙ sym p.number))
  one_reply (Err e) (Ok f) p q = absurd (not_zero e (p.number ∙ sym q.number))
  one_reply (Err e) (Err e') p q = ap Err (same_refusal e e' (p.number ∙ sym q.number))

  refused_values : (r : Result CentreStop Refusal) → (fault_of r ≡ 0 → ⊥) → reply_values r ≡ 0 ∷ 0 ∷ 0 ∷ 0 ∷ []
  unfolding reply_values
  refused_values (Ok f) n = absurd (n refl)
  refused_values (Err e) n = refl

  -- an accepted reply, its stop known
  module _ (r : CentreStop) (p : CentreReply x d c (Ok r)) where
    at_stop : (stop : Stop) → r.stop ≡ stop → Stops x d c stop
    at_stop stop e = subst (Stops x d c) e p.accepted.1

    as_long : (L : ℕ) → MaximalLength x d c L → r.length ≡ L
    as_long L m = longest_unique p.accepted.0 m

    at_pair : (i j : ℕ) → r.stop ≡ Pair i j → (r.length ≡ j - i - 1) × (error_count x.letters x.map (i + 1) r.length ≡ d) × (differs x.letters x.map i j ≡ true)
    at_pair i j e =
        let w = at_stop (Pair i j) e in
        let l : r.length ≡ j - i - 1 = as_long _ (pair_length x d c i j w.1 w.0) in
        (l, ap (error_count x.letters x.map (i + 1)) l ∙ pair_errors x d c i j w.1, pair_differs x d c i j w.1)

    at_end : r.stop ≡ End → Touches x c r.length
    at_end e =
        let w = at_stop End e in
        let s = (centre_sound x d c 0 p.number refl).2 in
        subst (Touches x c) (sym (as_long _ (end_length x d c w.0 w.1 s))) (end_touches x d c w.0 w.1 s)

    at_bar : r.stop ≡ Barred → r.length ≡ 0
    at_bar e = let w = at_stop Barred e in as_long 0 (barred x d c w.0 w.1)

  pub centre_laws : CentreLaws x d c
  centre_laws =
      record {
        listed = λ r p. rw p.number centre_listed;
        one = one_reply;
        zeros = λ r p n. refused_values r n;
        pair = at_pair;
        end = at_end;
        barred = at_bar;
      }

-- A text with one map and alphabet written as the other's.
letters_of : (x y : Text) → Alike x y → (P : Text → Type 0) → P (text y.letters x.map x.alphabet) → P y
letters_of x y a P h = subst₂ (λ (f z : List ℕ). P (text y.letters f z)) (sym a.0) (sym a.1) h

pub letters_outside : LettersOutside
letters_outside x y d c r a h e p =
    let s = centre_sound x d c 0 p.number refl in
    let n : c < centres (size y) = subst (λ (k : ℕ). c < centres k) (sym a.2) s.2 in
    let w = stays x.letters y.letters x.map x.alphabet a.2 d c s.2 r.length r.stop p.accepted.0 p.accepted.1 h in
    record {
      number = a_centre y d c 0 (errors_pass y d 0 (sym e) refl s.1) refl n;
      accepted = letters_of x y a (λ t. MaximalLength t d c r.length × Stops t d c r.stop) w;
    }

pub letter_outside : LetterOutside
letter_outside x y d c p r a h e q o = letters_outside x y d c r a (λ k i. h k (λ s. o (subst (Involved c r) s i))) e q
