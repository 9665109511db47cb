-- What holds of each kind of edit: the only file that goes by the kinds. Assumes nothing.
use mathlib.Core.Path.{◌≡◌, refl, sym, ap, ap₂, ◌∙◌}
use mathlib.Core.Bool.{true}
use mathlib.Core.List.{List, ◌∷◌, ◌++◌}
use Prim.Native.Nat.{ℕ, suc, ◌+◌, ◌-◌, ◌≤◌, ◌<◌}
use native.Mathlib.Numerals.{add-one}
use native.Mathlib.Omega.{arith}
use lib.ListN.{get_or, set, length, take, drop, length-set, take-append-drop}
use lib.Seq.{get_or-set_same, set-set, set-get_or, length-take-le, get_or_at, split_at, take_at, drop_at, drop-drop}
use Rattle.std.specs.Prelude.{Ok}
use Rattle.terms.specs.Refusals.{first_fault}
use Rattle.terms.specs.Alphabets.{is_in}
use Rattle.terms.specs.Limits.{limits_faults, with_kind, with_lengths}
use Rattle.terms.specs.Texts.{text, size, opening_faults}
use Rattle.terms.specs.declared.limits.Limits.{Limits}
use Rattle.terms.proofs.Refusals.{opening_parts}
use Rattle.changes.specs.Changes.{done_of, back_of, length_by, limits_by, accepts}
use Rattle.changes.specs.Work.{fits}
use Rattle.changes.specs.declared.Change.{Change}
use Rattle.changes.specs.declared.Edit.{Edit}
use Rattle.changes.specs.declared.Edit.TheVariants.{Letter, Kind, Lengths, PutIn, TakeOut}
use Rattle.changes.proofs.Accepting.{letter_in, put_in_letter, letter_accepted, put_in_accepted, take_out_accepted, kind_accepted, lengths_accepted, limits_pass, accepts_fits, fits_letter, fits_in, fits_out}
use Rattle.shifts.specs.Shifts.{put_in, take_out, places_put_in, places_take_out, replacing}
use Rattle.places.specs.Places.{padded}
use Rattle.sheet.specs.Calls.{applied}
use Rattle.sheet.specs.declared.Said.TheVariants.{Kind as SaidKind, Lengths as SaidLengths}
use Rattle.sheet.specs.declared.Sheet.{Sheet}
use Rattle.history.specs.History.{Content, make, back, say_back}
use Rattle.history.proofs.Spelling.{spells_set, spells_in, spells_out}
use Rattle.history.proofs.Padding.{padded_set, length_in, length_out, padded_in, padded_out, Holds, letter_at}
use Rattle.history.proofs.Writing.{limits_open, letters_open}

-- a letter put in and taken out, or taken out and put in, leaves the string
out_in : (x : List ℕ) (p b : ℕ) → p ≤ length x → take_out (put_in x p b) p ≡ x
out_in x p b h =
    let k : length (take p x) ≡ p = length-take-le p x h in
    let d : drop (suc p) (put_in x p b) ≡ drop p x
    = sym (ap (λ (j : ℕ). drop j (put_in x p b)) (add-one p)) ∙ sym (drop-drop 1 p (put_in x p b)) ∙ ap (drop 1) (drop_at (take p x) (b ∷ drop p x) p k) in
    ap₂ ◌++◌ (take_at (take p x) (b ∷ drop p x) p k) d ∙ take-append-drop p x

in_out : (x : List ℕ) (p : ℕ) → p < length x → put_in (take_out x p) p (get_or x p 0) ≡ x
in_out x p h =
    let k : length (take p x) ≡ p = length-take-le p x (omega arith) in
    ap₂ (λ (y z : List ℕ). y ++ get_or x p 0 ∷ z) (take_at (take p x) (drop (suc p) x) p k) (drop_at (take p x) (drop (suc p) x) p k) ∙ sym (split_at x p 0 h)

-- the content with other letters
abbrev holding : Content → List ℕ → Content
holding c x = record { text = text x c.text.map c.text.alphabet; limits = c.limits }

-- an edit made, and the edit that takes it back
pub make_back : (c : Content) (e : Edit) → fits (size c.text) e ≡ true → make (back c e) (make e c) ≡ c
make_back c (Letter p b) f =
    ap (holding c) (set-set c.text.letters p b (get_or c.text.letters p 0) ∙ set-get_or c.text.letters p 0)
make_back c (Kind k d) f = refl
make_back c (Lengths m g) f = refl
make_back c (PutIn p b) f = ap (holding c) (out_in c.text.letters p b (fits_in _ p b f).0)
make_back c (TakeOut p) f = ap (holding c) (in_out c.text.letters p (fits_out _ p f))

-- an edit touches neither map nor alphabet
pub make_keeps : (e : Edit) (c : Content) → ((make e c).text.map ≡ c.text.map) × ((make e c).text.alphabet ≡ c.text.alphabet)
make_keeps (Letter p b) c = (refl, refl)
make_keeps (Kind k d) c = (refl, refl)
make_keeps (Lengths m g) c = (refl, refl)
make_keeps (PutIn p b) c = (refl, refl)
make_keeps (TakeOut p) c = (refl, refl)

-- the first refusal of an opening with a content; an edit that its call would accept leaves none where there was none
abbrev pub fault_of : Content → ℕ
fault_of c = first_fault (opening_faults c.text c.limits)

other_limits : (c : Content) (e : Edit) → accepts (size c.text) c.text.alphabet e ≡ true → fault_of c ≡ 0 → first_fault (opening_faults c.text (limits_by e c.limits)) ≡ 0
other_limits c e a o =
    limits_open c.text c.limits (limits_by e c.limits) o
    (limits_pass (size c.text) c.text.alphabet c.limits (opening_parts c.text c.limits o).1 e a)

pub make_opens : (c : Content) (e : Edit) → size c.text ≤ 1000 → accepts (size c.text) c.text.alphabet e ≡ true → fault_of c ≡ 0 → fault_of (make e c) ≡ 0
make_opens c (Letter p b) few a =
    let n : length (set c.text.letters p b) ≡ size c.text = length-set c.text.letters p b in
    letters_open c.text c.limits _ (omega arith) (spells_set c.text.alphabet c.text.letters p b (letter_in _ _ p b a))
make_opens c (Kind k d) few a = other_limits c (Kind k d) a
make_opens c (Lengths m g) few a = other_limits c (Lengths m g) a
make_opens c (PutIn p b) few a =
    let h = fits_in _ p b (accepts_fits _ _ (PutIn p b) a) in
    let n : length (put_in c.text.letters p b) ≡ size c.text + 1 = length_in c.text.letters p b h.0 in
    letters_open c.text c.limits _ (omega arith) (spells_in c.text.alphabet c.text.letters p b h.0 (put_in_letter _ _ p b a))
make_opens c (TakeOut p) few a =
    let h = fits_out _ p (accepts_fits _ _ (TakeOut p) a) in
    let n : length (take_out c.text.letters p) ≡ size c.text - 1 = length_out c.text.letters p h in
    letters_open c.text c.limits _ (omega arith) (spells_out c.text.alphabet c.text.letters p h)

-- on a sheet that holds a content: an edit made of the one is made of the other, what is said is so, and what takes it back is kept
module _ {s : Sheet} {c : Content} (H : Holds s c) where
  -- the sheet with other letters, n of them, holds the content with them
  letters_hold : (a x : List ℕ) (n : ℕ) (ks : List Change) (st tk : ℕ) → a ≡ padded x → n ≡ length x
      → Holds (record { letters = a; n = n; map = s.map; alphabet = s.alphabet; limits = s.limits; kept = ks; standing = st; taken = tk }) (holding c x)
  letters_hold a x n ks st tk p q = record { letters = p; n = q; map = H.map; alphabet = H.alphabet; limits = H.limits }

  -- the sheet with other limits, reckoned from its own, holds the content with them
  limits_hold : (f : Limits → Limits) (st tk : ℕ)
      → Holds (record { letters = s.letters; n = s.n; map = s.map; alphabet = s.alphabet; limits = f s.limits; kept = s.kept; standing = st; taken = tk }) (record { text = c.text; limits = f c.limits })
  limits_hold f st tk = record { letters = H.letters; n = H.n; map = H.map; alphabet = H.alphabet; limits = ap f H.limits }

  pub applied_holds : (e : Edit) (st tk : ℕ) → s.n ≤ 1000 → fits s.n e ≡ true → Holds (applied s e st tk).sheet (make e c)
  unfolding applied
  applied_holds (Letter p b) st tk few f =
      let h : p < s.n = fits_letter s.n p b f in
      let n : s.n ≡ size c.text = H.n in
      letters_hold _ _ _ _ st tk (ap (λ (x : List ℕ). set x p b) H.letters ∙ padded_set c.text.letters p (omega arith) b) (n ∙ sym (length-set c.text.letters p b))
  applied_holds (Kind k d) st tk few f = limits_hold (λ l. with_kind l k d) st tk
  applied_holds (Lengths m g) st tk few f = limits_hold (λ l. with_lengths l m g) st tk
  applied_holds (PutIn p b) st tk few f =
      let h = fits_in s.n p b f in
      let n : s.n ≡ size c.text = H.n in
      letters_hold _ _ _ _ st tk (ap₂ (λ (x : List ℕ) (k : ℕ). places_put_in x k p b) H.letters n ∙ padded_in c.text.letters p b (omega arith) (omega arith))
      (ap (λ (k : ℕ). k + 1) n ∙ sym (length_in c.text.letters p b (omega arith)))
  applied_holds (TakeOut p) st tk few f =
      let h : p < s.n = fits_out s.n p f in
      let n : s.n ≡ size c.text = H.n in
      letters_hold _ _ _ _ st tk (ap₂ (λ (x : List ℕ) (k : ℕ). places_take_out x k p) H.letters n ∙ padded_out c.text.letters p (omega arith) (omega arith))
      (ap (λ (k : ℕ). k - 1) n ∙ sym (length_out c.text.letters p (omega arith)))

  pub applied_says : (e : Edit) (st tk : ℕ) → fits s.n e ≡ true → (applied s e st tk).said ≡ Ok (say_back e c (make e c) st)
  unfolding applied replacing
  applied_says (Letter p b) st tk f =
      let h : p < s.n = fits_letter s.n p b f in
      let n : s.n ≡ size c.text = H.n in
      let old : get_or s.letters p 0 ≡ get_or c.text.letters p 0 = letter_at H p h in
      let new : get_or (set c.text.letters p b) p 0 ≡ b = get_or-set_same c.text.letters p b 0 (omega arith) in
      cc
  applied_says (Kind k d) st tk f = ap (λ (l : Limits). Ok (SaidKind (with_kind l k d) st)) H.limits
  applied_says (Lengths m g) st tk f = ap (λ (l : Limits). Ok (SaidLengths (with_lengths l m g) st)) H.limits
  applied_says (PutIn p b) st tk f =
      let h = fits_in s.n p b f in
      let n : s.n ≡ size c.text = H.n in
      let k : length (take p c.text.letters) ≡ p = length-take-le p c.text.letters (omega arith) in
      let new : get_or (put_in c.text.letters p b) p 0 ≡ b = get_or_at (take p c.text.letters) b (drop p c.text.letters) 0 p k in
      let m : s.n + 1 ≡ length (put_in c.text.letters p b) = ap (λ (j : ℕ). j + 1) n ∙ sym (length_in c.text.letters p b (omega arith)) in
      cc
  applied_says (TakeOut p) st tk f =
      let h : p < s.n = fits_out s.n p f in
      let n : s.n ≡ size c.text = H.n in
      let old : get_or s.letters p 0 ≡ get_or c.text.letters p 0 = letter_at H p h in
      let m : s.n - 1 ≡ length (take_out c.text.letters p) = ap (λ (j : ℕ). j - 1) n ∙ sym (length_out c.text.letters p (omega arith)) in
      cc

  pub replacing_back : (e : Edit) → fits s.n e ≡ true → back_of (replacing e s.letters s.limits) ≡ back c e
  unfolding replacing
  replacing_back (Letter p b) f = ap (Letter p) (letter_at H p (fits_letter s.n p b f))
  replacing_back (Kind k d) f = ap (λ (l : Limits). Kind l.kind l.d) H.limits
  replacing_back (Lengths m g) f = ap (λ (l : Limits). Lengths l.m l.g) H.limits
  replacing_back (PutIn p b) f = refl
  replacing_back (TakeOut p) f = ap (PutIn p) (letter_at H p (fits_out s.n p f))

pub replacing_done : (s : Sheet) (e : Edit) → done_of (replacing e s.letters s.limits) ≡ e
unfolding replacing
replacing_done s (Letter p b) = refl
replacing_done s (Kind k d) = refl
replacing_done s (Lengths m g) = refl
replacing_done s (PutIn p b) = refl
replacing_done s (TakeOut p) = refl

-- on a sheet with sound limits and letters of its alphabet: after an edit, its call would accept what takes the change back
pub back_accepted : (s : Sheet) → first_fault (limits_faults s.limits) ≡ 0 → s.n ≤ 1000 → ((p : ℕ) → p < s.n → is_in s.alphabet (get_or s.letters p 0) ≡ true)
    → (e : Edit) → fits s.n e ≡ true → accepts (length_by e s.n) s.alphabet (back_of (replacing e s.letters s.limits)) ≡ true
unfolding replacing
back_accepted s l few old (Letter p b) f = let h : p < s.n = fits_letter s.n p b f in letter_accepted s.n s.alphabet p _ h (old p h)
back_accepted s l few old (Kind k d) f = kind_accepted s.n s.alphabet s.limits l
back_accepted s l few old (Lengths m g) f = lengths_accepted s.n s.alphabet s.limits l
back_accepted s l few old (PutIn p b) f = let h = fits_in s.n p b f in take_out_accepted (s.n + 1) s.alphabet p (omega arith)
back_accepted s l few old (TakeOut p) f =
    let h : p < s.n = fits_out s.n p f in put_in_accepted (s.n - 1) s.alphabet p _ (omega arith) (omega arith) (old p h)
