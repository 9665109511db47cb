-- A sheet that came from an opening by calls: what holds of it, and that each move keeps it and says what the history says. Assumes nothing.
use mathlib.Core.Path.{◌≡◌, sym, ap, ap₂, subst, ◌∙◌}
use mathlib.Core.Bool.{true}
use mathlib.Core.List.{List, [], ◌∷◌}
use Prim.Native.Nat.{ℕ, suc, ◌+◌, ◌≤◌, ◌<◌}
use native.Mathlib.Numerals.{add-one}
use native.Mathlib.Omega.{arith}
use lib.ListN.{length, get_or, take, length-set}
use lib.Seq.{get_or-take}
use Rattle.std.specs.Prelude.{Result, Ok}
use Rattle.terms.specs.Alphabets.{is_in}
use Rattle.terms.specs.Texts.{size}
use Rattle.terms.specs.declared.refusal.Refusal.{Refusal}
use Rattle.terms.proofs.Passed.{sound_opening}
use Rattle.changes.specs.Changes.{done_of, back_of, length_by, accepts}
use Rattle.changes.specs.Work.{fits}
use Rattle.changes.specs.declared.Change.{Change}
use Rattle.changes.specs.declared.Edit.{Edit}
use Rattle.changes.proofs.Accepting.{accepts_fits}
use Rattle.shifts.specs.Shifts.{replacing}
use Rattle.kept.specs.Lists.{kept_at, kept_accepted}
use Rattle.sheet.specs.Bounds.{text_of, in_bounds}
use Rattle.sheet.specs.Calls.{applied, changed}
use Rattle.sheet.specs.declared.Reply.{Reply}
use Rattle.sheet.specs.declared.Said.{Said}
use Rattle.sheet.specs.declared.Sheet.{Sheet}
use Rattle.sheet.proofs.Within.{opening, bounds}
use Rattle.history.specs.History.{Content, History, make, back, made, say_back, current, moved, accept}
use Rattle.history.specs.Runs.{standing_from, taken_from, standing_of, taken_of}
use Rattle.history.proofs.Lists.{standing_length, standing_below, standing_new, all_new}
use Rattle.history.proofs.Padding.{Holds, letters_are, content_is, holds_same}
use Rattle.history.proofs.Edits.{fault_of, make_opens, applied_holds, applied_says, replacing_back, replacing_done}
use Rattle.history.proofs.Bounded.{applied_bounds, changed_bounds}

-- the change c had its place in what the edits es, made of the opening, left there, and what takes it back is what was there
pub record Restores (o : Content) (c : Change) (es : List Edit) : Type 0 where
  pub fitted : fits (size (made o es).text) (done_of c) ≡ true
  pub old : back_of c ≡ back (made o es) (done_of c)

-- the history of a sheet: its opening, and its two lists
abbrev pub history_of : Content → Sheet → History
history_of o s = record { opening = o; standing = standing_of s; taken = taken_of s }

pub record Invariant (o : Content) (s : Sheet) : Type 0 where
  pub bounds : in_bounds s ≡ true
  pub room : length s.kept ≡ 64
  pub holds : Holds s (made o (standing_of s))
  pub restores : (i : ℕ) → i < s.standing + s.taken → Restores o (kept_at s.kept i) (standing_from s.kept i)

-- two such sheets with the same changes kept are one
pub invariant_same : (o : Content) (s t : Sheet) → Invariant o s → Invariant o t → s.kept ≡ t.kept → s.standing ≡ t.standing → s.taken ≡ t.taken → s ≡ t
invariant_same o s t S T ks st tk =
    holds_same S.holds (subst (λ (es : List Edit). Holds t (made o es)) (sym (ap₂ standing_from ks st)) T.holds) ks st tk

-- the reply of a call and the history's answer agree, and the sheet stays as it must
abbrev pub Agrees : Content → Reply → History × Result Said Refusal → Type 0
Agrees o r x = Invariant o r.sheet × (x ≡ (history_of o r.sheet, r.said))

module _ {o : Content} {s : Sheet} (S : Invariant o s) where
  -- every letter is of the alphabet
  spelt_at : (p : ℕ) → p < s.n → is_in s.alphabet (get_or s.letters p 0) ≡ true
  spelt_at p h =
      let q : length (take s.n s.letters) ≡ size (made o (standing_of s)).text = ap length (letters_are S.holds) in
      let n : s.n ≡ size (made o (standing_of s)).text = S.holds.n in
      let e : get_or (take s.n s.letters) p 0 ≡ get_or s.letters p 0 = get_or-take s.n s.letters p 0 h in
      ap (is_in s.alphabet) (sym e) ∙ (sound_opening (text_of s) s.limits (bounds s S.bounds).opens).0.spelt p (omega arith)

  -- what holds the content with an accepted edit made could be opened
  still_opens : (e : Edit) → accepts s.n s.alphabet e ≡ true → (t : Sheet) → Holds t (make e (made o (standing_of s))) → opening t ≡ 0
  still_opens e a t H =
      let c : Content = made o (standing_of s) in
      let n : s.n ≡ size c.text = S.holds.n in
      let few : s.n ≤ 1000 = (bounds s S.bounds).letters in
      ap fault_of (content_is H)
      ∙ make_opens c e (omega arith) ((λ i. accepts (sym n i) (sym S.holds.alphabet i) e) ∙ a)
      (sym (ap fault_of (content_is S.holds)) ∙ (bounds s S.bounds).opens)

  -- the edit e moves the counts to st and tk, over the same kept changes
  module _ (e : Edit) (a : accepts s.n s.alphabet e ≡ true) (st tk : ℕ) where
    abbrev reached : History
    reached = record { opening = o; standing = standing_from s.kept st; taken = taken_from s.kept st tk }

    pub moved_agrees : kept_accepted (length_by e s.n) s.alphabet s.kept st tk ≡ true → st + tk ≡ s.standing + s.taken
        → make e (current (history_of o s)) ≡ current reached → Agrees o (applied s e st tk) (moved (history_of o s) e reached)
    unfolding applied
    moved_agrees sound q m =
        let c : Content = current (history_of o s) in
        let f : fits s.n e ≡ true = accepts_fits s.n s.alphabet e a in
        let G : Holds (applied s e st tk).sheet (make e c) = applied_holds S.holds e st tk (bounds s S.bounds).letters f in
        let k : length (standing_from s.kept st) ≡ st = standing_length s.kept st in
        let says : (applied s e st tk).said ≡ Ok (say_back e c (make e c) st) = applied_says S.holds e st tk f in (
          record {
            bounds = applied_bounds s S.bounds e a st tk (still_opens e a (applied s e st tk).sheet G) sound;
            room = S.room;
            holds = subst (Holds (applied s e st tk).sheet) m G;
            restores = λ i h. S.restores i (omega arith);
          },
          ap (λ (w : Result Said Refusal). (reached, w)) (ap₂ (λ (d : Content) (j : ℕ). Ok (say_back e c d j)) (sym m) k ∙ sym says),
        )

  -- the edit e is made and kept as the newest change
  pub changed_agrees : (e : Edit) → accepts s.n s.alphabet e ≡ true → s.standing < 64 → Agrees o (changed s e) (accept (history_of o s) e)
  unfolding changed applied
  changed_agrees e a few =
      let room : length s.kept ≡ 64 = S.room in
      let l : s.standing < length s.kept = omega arith in
      let x : Change = replacing e s.letters s.limits in
      let d : done_of (replacing e s.letters s.limits) ≡ e = replacing_done s e in
      let c : Content = current (history_of o s) in
      let f : fits s.n e ≡ true = accepts_fits s.n s.alphabet e a in
      let H : Holds (applied s e (s.standing + 1) 0).sheet (make e c) = applied_holds S.holds e (s.standing + 1) 0 (bounds s S.bounds).letters f in
      let G : Holds (changed s e).sheet (make e c) = record { letters = H.letters; n = H.n; map = H.map; alphabet = H.alphabet; limits = H.limits } in
      let says : (applied s e (s.standing + 1) 0).said ≡ Ok (say_back e c (make e c) (s.standing + 1)) = applied_says S.holds e (s.standing + 1) 0 f in
      let k : suc (length (standing_of s)) ≡ s.standing + 1 = rw (standing_length, add-one) in
      let is : e ∷ standing_of s ≡ standing_of (changed s e).sheet = rw (add-one, standing_new s.kept s.standing x l, d) in (
        record {
          bounds = changed_bounds s S.bounds e a (still_opens e a (changed s e).sheet G) spelt_at room few;
          room = length-set s.kept s.standing x ∙ room;
          holds = subst (λ (es : List Edit). Holds (changed s e).sheet (made o es)) is G;
          restores =
              λ i h.
              let b : i ≤ s.standing = omega arith in
              rw (standing_below s.kept s.standing x i b)
              (all_new s.kept s.standing x l (λ j y. Restores o y (standing_from s.kept j)) (λ j g. S.restores j (omega arith))
              (record { fitted = (λ i. fits (sym S.holds.n i) (d i)) ∙ f; old = replacing_back S.holds e f ∙ ap (back c) (sym d) }) i (omega arith));
        },
        ap₂ (λ (es : List Edit) (w : Result Said Refusal). (record { opening = o; standing = es; taken = [] }, w)) is (ap (λ (j : ℕ). Ok (say_back e c (make e c) j)) k ∙ sym says),
      )
