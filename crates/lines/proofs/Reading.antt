-- A line is read as what it asks, and no two readings of a line differ. Assumes nothing.
use mathlib.Core.Path.{◌≡◌, refl, sym, ap, ◌∙◌, subst}
use mathlib.Core.Bool.{Bool, true, false}
use mathlib.Core.List.{List, [], ◌∷◌, ◌++◌, append-nil}
use Prim.Native.Nat.{ℕ, suc, ◌+◌, ◌-◌, ◌≤◌, ◌<◌}
use native.Mathlib.Omega.{arith}
use borrow.Author.Tests.{leb-true, eqb-true, lt-ltb, eq-eqb, le-leb}
use lib.Dec.{leb, eqb}
use lib.ListN.{length, drop, drop_of_length-le, length-drop}
use Rattle.terms.specs.declared.limits.Limits.{Limits}
use Rattle.changes.specs.declared.Edit.TheVariants.{Letter, Kind, Lengths, PutIn, TakeOut}
use Rattle.printing.specs.Printing.{fields}
use Rattle.lines.specs.declared.Line.{Line}
use Rattle.lines.specs.declared.Line.TheVariants.{Open, Change, TakeBack, PutAgain, Question}
use Rattle.std.specs.Prelude.{Option, Some, None}
use Rattle.lines.specs.Lines.{Asked, opening, change, take_back, put_again, question, limits_numbers, map_letter, most_bytes, Asks, Reads, OneReading}
use Rattle.lines.specs.Work.{stands, ending, two_of, placed_of, letter_line, in_line, out_line, kind_line, lengths_line, string_after, open_line, line_of}
use Rattle.lines.proofs.Standing.{by_test, both_lem, stands_in, stands_drop, stands_yes, stands_no}
use Rattle.lines.proofs.Numerals.{on}
use Rattle.lines.proofs.Numbers.{no_digit, nothing_digit, Stand, none_stand, one_stands, Fours, going, four_sound, after_complete, four_complete}

module _ (xs : List ℕ) (short : length xs ≤ most_bytes) where
  -- a line that was understood asks what was read; of one that was not nothing is said yet
  abbrev Sounds : Option Line → Type 0
  Sounds None = Unit {0}
  Sounds (Some line) = Reads xs (Some line)

  -- a first byte, and numbers up to the end
  whole : (b : ℕ) (ns : List ℕ) (e : ℕ) → stands xs 0 b ≡ true → Stand xs 1 ns e → e ≡ length xs → xs ≡ b ∷ fields ns
  whole b ns e h p q =
      stands_drop xs 0 b h
      ∙ ap (λ (z : List ℕ). b ∷ z) (p.text ∙ ap (λ (z : List ℕ). fields ns ++ z) (drop_of_length-le xs {i = e} (omega arith)) ∙ append-nil (fields ns))

  -- one letter and nothing else
  lone : (b : ℕ) (line : Line) → ((xs ≡ b ∷ []) → Sounds (Some line)) → stands xs 0 b ≡ true → Sounds (ending xs 1 line)
  lone b line then h =
      by_test Sounds (eqb 1 (length xs)) _ _ (λ q. then (whole b [] 1 h (none_stand xs 1 (omega (arith, stands_in xs 0 b h))) (eqb-true 1 (length xs) q))) (λ _. tt)

  -- two numbers behind the line's letter
  abbrev Twos : Option (ℕ × ℕ) → Type 0
  Twos None = Unit {0}
  Twos (Some p) = (p.0 < 10000) × (p.1 < 10000) × ((lead : ℕ) → stands xs 0 lead ≡ true → xs ≡ lead ∷ fields (p.0 ∷ p.1 ∷ []))

  two_sound : Twos (two_of xs)
  unfolding two_of
  two_sound =
      going xs Twos 1 _ tt (λ a i h₁ l₁ e₁.
      going xs Twos i _ tt (λ b e h₂ l₂ e₂.
      by_test Twos (eqb e (length xs)) _ _ (λ q. (
        h₁,
        h₂,
        λ lead h. whole lead (a ∷ b ∷ []) e h (one_stands xs 1 a i e _ h₁ e₁ (one_stands xs i b e e _ h₂ e₂ (none_stand xs e l₂))) (eqb-true e (length xs) q),
      )) (λ _. tt)))

  kind_sound : stands xs 0 75 ≡ true → Sounds (kind_line xs)
  unfolding kind_line
  kind_sound h = both_lem Twos Sounds _ _ two_sound tt (λ k d p. record { short = short; proper = (p.0, (p.1, tt)); form = p.2 75 h })

  lengths_sound : stands xs 0 77 ≡ true → Sounds (lengths_line xs)
  unfolding lengths_line
  lengths_sound h = both_lem Twos Sounds _ _ two_sound tt (λ m g p. record { short = short; proper = (p.0, (p.1, tt)); form = p.2 77 h })

  -- a place and a byte behind the line's letter
  abbrev Places : Option (ℕ × ℕ) → Type 0
  Places None = Unit {0}
  Places (Some p) = (p.0 < 10000) × (p.1 ≤ 255) × ((lead : ℕ) → stands xs 0 lead ≡ true → xs ≡ lead ∷ fields (p.0 ∷ p.1 ∷ []))

  placed_sound : Places (placed_of xs)
  unfolding placed_of
  placed_sound = both_lem Twos Places _ _ two_sound tt (λ p b h. by_test Places (leb b 255) _ _ (λ k. (h.0, leb-true b 255 k, h.2)) (λ _. tt))

  letter_sound : stands xs 0 76 ≡ true → Sounds (letter_line xs)
  unfolding letter_line
  letter_sound h = both_lem Places Sounds _ _ placed_sound tt (λ p b q. record { short = short; proper = (q.0, q.1); form = q.2 76 h })

  in_sound : stands xs 0 73 ≡ true → Sounds (in_line xs)
  unfolding in_line
  in_sound h = both_lem Places Sounds _ _ placed_sound tt (λ p b q. record { short = short; proper = (q.0, q.1); form = q.2 73 h })

  out_sound : stands xs 0 88 ≡ true → Sounds (out_line xs)
  unfolding out_line
  out_sound h =
      going xs Sounds 1 _ tt (λ p e h₁ l₁ e₁.
      by_test Sounds (eqb e (length xs)) _ _ (λ q.
      record { short = short; proper = h₁; form = whole 88 (p ∷ []) e h (one_stands xs 1 p e e _ h₁ e₁ (none_stand xs e l₁)) (eqb-true e (length xs) q) }) (λ _. tt))

  -- an opening, by the letter of its map
  opened : (l : Limits) (i : ℕ) (c : Bool) → stands xs 0 79 ≡ true → Stand xs 1 (limits_numbers l) i → stands xs i 32 ≡ true → stands xs (i + 1) (map_letter c) ≡ true
      → stands xs (i + 2) 32 ≡ true → Sounds (Some (Open l c (i + 3)))
  opened l i c h p s t u =
      let e : i + 1 + 1 ≡ i + 2 = omega arith in
      let f : i + 2 + 1 ≡ i + 3 = omega arith in
      let tail : drop (i + 2) xs ≡ 32 ∷ drop (i + 3) xs = stands_drop xs (i + 2) 32 u ∙ ap (λ (k : ℕ). 32 ∷ drop k xs) f in
      let middle : drop (i + 1) xs ≡ map_letter c ∷ 32 ∷ drop (i + 3) xs = stands_drop xs (i + 1) (map_letter c) t ∙ ap (λ (k : ℕ). map_letter c ∷ drop k xs) e ∙ ap (λ (z : List ℕ). map_letter c ∷ z) tail in (
        record {
          short = short;
          proper = p.small;
          form = stands_drop xs 0 79 h ∙ ap (λ (z : List ℕ). 79 ∷ z) (p.text ∙ ap (λ (z : List ℕ). fields (limits_numbers l) ++ z) (stands_drop xs i 32 s ∙ ap (λ (z : List ℕ). 32 ∷ z) middle));
        },
        omega (arith, stands_in xs (i + 2) 32 u),
      )

  open_sound : stands xs 0 79 ≡ true → Sounds (open_line xs)
  unfolding open_line
  open_sound h =
      both_lem (Fours xs 1) Sounds _ _ (four_sound xs 1) tt (λ l i p.
      by_test Sounds (stands xs i 32) _ _ (λ s.
      by_test Sounds (stands xs (i + 2) 32) _ _ (λ u.
      by_test Sounds (stands xs (i + 1) 73) _ _ (λ t. opened l i false h p s t u) (λ _.
      by_test Sounds (stands xs (i + 1) 67) _ _ (λ t. opened l i true h p s t u) (λ _. tt))) (λ _. tt)) (λ _. tt))

  line_sound : Sounds (line_of xs)
  unfolding line_of
  line_sound =
      by_test Sounds (stands xs 0 79) _ _ open_sound (λ _.
      by_test Sounds (stands xs 0 76) _ _ letter_sound (λ _.
      by_test Sounds (stands xs 0 73) _ _ in_sound (λ _.
      by_test Sounds (stands xs 0 88) _ _ out_sound (λ _.
      by_test Sounds (stands xs 0 75) _ _ kind_sound (λ _.
      by_test Sounds (stands xs 0 77) _ _ lengths_sound (λ _.
      by_test Sounds (stands xs 0 66) _ _ (lone 66 TakeBack (λ e. record { short = short; proper = tt; form = e })) (λ _.
      by_test Sounds (stands xs 0 65) _ _ (lone 65 PutAgain (λ e. record { short = short; proper = tt; form = e })) (λ _.
      by_test Sounds (stands xs 0 81) _ _ (lone 81 Question (λ e. record { short = short; proper = tt; form = e })) (λ _. tt)))))))))

module _ (xs : List ℕ) where
  -- the place where nothing is left is the end
  at_end : (i : ℕ) → i ≤ length xs → drop i xs ≡ [] → i ≡ length xs
  at_end i h e = let l : length xs - i ≡ 0 = sym (length-drop i xs) ∙ ap length e in omega arith

  -- two places in the line with the same left of it are one
  same_place : (i j : ℕ) → i ≤ length xs → j ≤ length xs → drop i xs ≡ drop j xs → i ≡ j
  same_place i j h k e = let l : length xs - i ≡ length xs - j = sym (length-drop i xs) ∙ ap length e ∙ length-drop j xs in omega arith

  two_read : (a b : ℕ) → a < 10000 → b < 10000 → drop 1 xs ≡ fields (a ∷ b ∷ []) → two_of xs ≡ Some (a, b)
  unfolding two_of
  two_read a b h k q =
      let f₁ = after_complete xs 1 a (b ∷ []) [] h (q ∙ sym (append-nil (fields (a ∷ b ∷ [])))) (no_digit 32 _ (omega arith)) in
      let f₂ = after_complete xs f₁.place b [] [] k f₁.left nothing_digit in
      simp (f₁.read, f₂.read, eq-eqb _ _ (at_end f₂.place f₂.inside f₂.left))

  placed_read : (p b : ℕ) → p < 10000 → b ≤ 255 → drop 1 xs ≡ fields (p ∷ b ∷ []) → placed_of xs ≡ Some (p, b)
  unfolding placed_of
  placed_read p b h k q = let l : b < 10000 = omega arith in simp (two_read p b h l q, le-leb _ _ k)

  letter_read : (p b : ℕ) → Asks xs (change (Letter p b)) → letter_line xs ≡ Some (Change (Letter p b))
  unfolding letter_line
  letter_read p b q = rw (placed_read p b q.proper.0 q.proper.1 (ap (drop 1) q.form))

  in_read : (p b : ℕ) → Asks xs (change (PutIn p b)) → in_line xs ≡ Some (Change (PutIn p b))
  unfolding in_line
  in_read p b q = rw (placed_read p b q.proper.0 q.proper.1 (ap (drop 1) q.form))

  out_read : (p : ℕ) → Asks xs (change (TakeOut p)) → out_line xs ≡ Some (Change (TakeOut p))
  unfolding out_line
  out_read p q =
      let f = after_complete xs 1 p [] [] q.proper (ap (drop 1) q.form ∙ sym (append-nil (fields (p ∷ [])))) nothing_digit in
      simp (f.read, eq-eqb _ _ (at_end f.place f.inside f.left))

  kind_read : (k d : ℕ) → Asks xs (change (Kind k d)) → kind_line xs ≡ Some (Change (Kind k d))
  unfolding kind_line
  kind_read k d q = rw (two_read k d q.proper.0 q.proper.1.0 (ap (drop 1) q.form))

  lengths_read : (m g : ℕ) → Asks xs (change (Lengths m g)) → lengths_line xs ≡ Some (Change (Lengths m g))
  unfolding lengths_line
  lengths_read m g q = rw (two_read m g q.proper.0 q.proper.1.0 (ap (drop 1) q.form))

  -- a space, the map's letter, a space and the string
  string_read : (l : Limits) (c : Bool) (i from : ℕ) → drop i xs ≡ 32 ∷ map_letter c ∷ 32 ∷ drop from xs → from ≤ length xs → string_after xs l i ≡ Some (Open l c from)
  string_read l c i from e h = go c e₁
    where
      e₁ : drop (i + 1) xs ≡ map_letter c ∷ 32 ∷ drop from xs
      e₁ = on xs i (i + 1) _ _ e refl

      e₂ : drop (i + 2) xs ≡ 32 ∷ drop from xs
      e₂ = on xs (i + 1) (i + 2) _ _ e₁ (omega arith)

      last : stands xs (i + 2) 32 ≡ true
      last = stands_yes xs (i + 2) 32 32 _ e₂ refl

      place : i + 3 ≡ from
      place = same_place (i + 3) from (omega (arith, stands_in xs (i + 2) 32 last)) h (on xs (i + 2) (i + 3) _ _ e₂ (omega arith))

      go : (t : Bool) → drop (i + 1) xs ≡ map_letter t ∷ 32 ∷ drop from xs → string_after xs l i ≡ Some (Open l t from)
      go false q = simp (stands_yes xs i 32 32 _ e refl, last, stands_yes xs (i + 1) 73 73 _ q refl, place)
      go true q = simp (stands_yes xs i 32 32 _ e refl, last, stands_no xs (i + 1) 73 67 _ q (λ z. omega arith), stands_yes xs (i + 1) 67 67 _ q refl, place)

  open_read : (l : Limits) (c : Bool) (from : ℕ) → Asks xs (opening l c (drop from xs)) → from ≤ length xs → open_line xs ≡ Some (Open l c from)
  unfolding open_line
  open_read l c from q h =
      let f = four_complete xs 1 l (32 ∷ map_letter c ∷ 32 ∷ drop from xs) q.proper (ap (drop 1) q.form) (no_digit 32 _ (omega arith)) in
      rw f.read (string_read l c f.place from f.left h)

  -- the first byte decides every test of it
  lead : (c : ℕ) (ys : List ℕ) → xs ≡ c ∷ ys → (b : ℕ) → stands xs 0 b ≡ eqb c b
  unfolding stands
  lead c ys e b = rw (e, lt-ltb 0 (suc (length ys)) (omega arith))

  -- a line of one byte ends behind it
  lone_ends : (c : ℕ) (line : Line) → xs ≡ c ∷ [] → ending xs 1 line ≡ Some line
  lone_ends c line e = rw (eq-eqb 1 (length xs) (sym (ap length e)))

  -- a line that asks something is read so
  known : (line : Line) → Reads xs (Some line) → line_of xs ≡ Some line
  unfolding line_of
  known (Open l c from) q = simp (lead 79 _ q.0.form, open_read l c from q.0 q.1)
  known (Change (Letter p b)) q = simp (lead 76 _ q.form, letter_read p b q)
  known (Change (PutIn p b)) q = simp (lead 73 _ q.form, in_read p b q)
  known (Change (TakeOut p)) q = simp (lead 88 _ q.form, out_read p q)
  known (Change (Kind k d)) q = simp (lead 75 _ q.form, kind_read k d q)
  known (Change (Lengths m g)) q = simp (lead 77 _ q.form, lengths_read m g q)
  known TakeBack q = simp (lead 66 _ q.form, lone_ends 66 TakeBack q.form)
  known PutAgain q = simp (lead 65 _ q.form, lone_ends 65 PutAgain q.form)
  known Question q = simp (lead 81 _ q.form, lone_ends 81 Question q.form)

  -- a line that asks something is understood
  understood : (a : Asked) → Asks xs a → line_of xs ≡ None → ⊥
  understood (opening l c string) q n =
      let f = four_complete xs 1 l (32 ∷ map_letter c ∷ 32 ∷ string) q.proper (ap (drop 1) q.form) (no_digit 32 _ (omega arith)) in
      let i : ℕ = f.place in
      let e₂ : drop (i + 2) xs ≡ 32 ∷ string = on xs (i + 1) (i + 2) _ _ (on xs i (i + 1) _ _ f.left refl) (omega arith) in
      let e₃ : drop (i + 3) xs ≡ string = on xs (i + 2) (i + 3) _ _ e₂ (omega arith) in
      let h : i + 2 < length xs = stands_in xs (i + 2) 32 (stands_yes xs (i + 2) 32 32 _ e₂ refl) in
      let k = known (Open l c (i + 3)) (subst (λ (z : List ℕ). Asks xs (opening l c z)) (sym e₃) q, omega arith) in
      cc
  understood (change e) q n = let k = known (Change e) q in cc
  understood take_back q n = let k = known TakeBack q in cc
  understood put_again q n = let k = known PutAgain q in cc
  understood question q n = let k = known Question q in cc

  -- what `line_of` reads is what the line asks
  pub line_reads : (r : Option Line) → r ≡ line_of xs → length xs ≤ most_bytes → Reads xs r
  line_reads None e short = λ a q. understood a q (sym e)
  line_reads (Some line) e short = subst (Sounds xs short) (sym e) (line_sound xs short)

  -- a line too long asks nothing
  pub too_long : most_bytes < length xs → Reads xs None
  too_long h a q = omega (arith, q.short)

  -- a line that is understood asks something
  clash : (line : Line) → Reads xs (Some line) → Reads xs None → ⊥
  clash (Open l c from) q n = n _ q.0
  clash (Change e) q n = n _ q
  clash TakeBack q n = n _ q
  clash PutAgain q n = n _ q
  clash Question q n = n _ q

pub one_reading : OneReading
one_reading xs None None p q = refl
one_reading xs None (Some line) p q = absurd (clash xs line q p)
one_reading xs (Some line) None p q = absurd (clash xs line p q)
one_reading xs (Some line) (Some line') p q = sym (known xs line p) ∙ known xs line' q
