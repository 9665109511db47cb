-- The two loops that judge the kept changes: back through those that stand, then forth through those taken back. Assumes nothing.
use mathlib.Core.Path.{◌≡◌, refl, sym, ap, ap₂, ◌∙◌}
use mathlib.Core.Bool.{Bool, true, false, ◌&&◌, and_assoc}
use mathlib.Core.List.{List, [], ◌∷◌, ◌++◌}
use Prim.Native.Nat.{ℕ, suc, ◌+◌, ◌-◌, ◌≤◌, ◌<◌}
use native.Mathlib.Numerals.{add-one}
use native.Mathlib.Omega.{arith}
use borrow.Author.Tests.{le-leb}
use lib.ListN.{length, get_or, take, drop, get_or-append}
use lib.Seq.{length-take-le, get_or-take, get_or-drop}
use Rattle.std.proofs.lemmas.List.{length_push, get_or_push}
use Rattle.changes.specs.Changes.{done_of, back_of, length_by, accepts_then}
use Rattle.changes.specs.declared.Change.{Change}
use Rattle.changes.specs.declared.Edit.{Edit}
use Rattle.kept.specs.Lists.{no_change, kept_at, steps_back, steps_forth, can_go, kept_accepted}

-- What is left to judge on the way back over k changes, where the step before ends with m letters, and the whole way forth.
abbrev pub left_back : ℕ → List ℕ → List Change → ℕ → ℕ → ℕ → ℕ → Bool
left_back n z ks st tk m k = can_go m z (steps_back ks k) && can_go n z (steps_forth ks st tk)

-- On the way back the changes still to go over are the first of those kept, and what is left to judge decides.
pub record Back (n : ℕ) (z : List ℕ) (ks : List Change) (st tk m : ℕ) (rest : List Change) : Type 0 where
  pub front : (k : ℕ) → k < length rest → get_or rest k no_change ≡ kept_at ks k
  pub left : kept_accepted n z ks st tk ≡ left_back n z ks st tk m (length rest)

-- On the way forth what is left from the i-th of those taken back on decides.
abbrev pub Forth : ℕ → List ℕ → List Change → ℕ → ℕ → ℕ → ℕ → Type 0
Forth n z ks st tk m i = kept_accepted n z ks st tk ≡ can_go m z (steps_forth ks (st + i) (tk - i))

-- The i-th of those taken back.
pub taken_at : (ks : List Change) (st tk i : ℕ) → i < tk → get_or (take (st + tk - st) (drop st ks)) i no_change ≡ kept_at ks (st + i)
taken_at ks st tk i h = get_or-take (st + tk - st) (drop st ks) i no_change (omega arith) ∙ get_or-drop st ks i no_change

module _ (n : ℕ) (z : List ℕ) (ks : List Change) (st tk : ℕ) where
  pub back_start : st + tk ≤ 64 → st ≤ length ks → Back n z ks st tk n (take st ks)
  unfolding kept_accepted
  back_start h l =
      let t : length (take st ks) ≡ st = length-take-le st ks l in
      record { front = λ k i. get_or-take st ks k no_change (omega arith); left = simp (le-leb _ _ h) (ap (left_back n z ks st tk n) (sym t)) }

  -- a turn of the way back: the change c, judged from m letters
  module _ (m : ℕ) (rest us : List Change) (c : Change) (there again : Edit) (b : Back n z ks st tk m rest) (cut : rest ≡ us ++ c ∷ []) (is : there ≡ back_of c) (if : again ≡ done_of c) where
    long : length rest ≡ suc (length us)
    long = ap (λ (x : List Change). length x) cut ∙ length_push us c ∙ add-one (length us)

    last : kept_at ks (length us) ≡ c
    last = sym (b.front (length us) (omega (arith, long))) ∙ ap (λ (x : List Change). get_or x (length us) no_change) cut ∙ get_or_push us c no_change (length us) refl

    back_turn : kept_accepted n z ks st tk ≡ (accepts_then m z there again && left_back n z ks st tk (length_by there m) (length us))
    unfolding can_go
    back_turn =
        let k : Change = kept_at ks (length us) in
        b.left
        ∙ ap (left_back n z ks st tk m) long
        ∙ and_assoc (accepts_then m z (back_of k) (done_of k)) (can_go (length_by (back_of k) m) z (steps_back ks (length us))) (can_go n z (steps_forth ks st tk))
        ∙ ap (λ (x : Change). accepts_then m z (back_of x) (done_of x) && left_back n z ks st tk (length_by (back_of x) m) (length us)) last
        ∙ ap₂ (λ (e f : Edit). accepts_then m z e f && left_back n z ks st tk (length_by e m) (length us)) (sym is) (sym if)

    pub back_stop : accepts_then m z there again ≡ false → kept_accepted n z ks st tk ≡ false
    back_stop h = back_turn ∙ ap (λ (a : Bool). a && left_back n z ks st tk (length_by there m) (length us)) h

    pub back_on : (j : ℕ) → accepts_then m z there again ≡ true → j ≡ length_by there m → Back n z ks st tk j us
    back_on j h e =
        record {
          front = λ k i. sym (get_or-append us (c ∷ []) no_change k i) ∙ sym (ap (λ (x : List Change). get_or x k no_change) cut) ∙ b.front k (omega (arith, long));
          left = back_turn ∙ ap (λ (a : Bool). a && left_back n z ks st tk (length_by there m) (length us)) h ∙ ap (λ (x : ℕ). left_back n z ks st tk x (length us)) (sym e);
        }

  pub forth_start : (m : ℕ) (rest : List Change) → length rest ≡ 0 → Back n z ks st tk m rest → Forth n z ks st tk n 0
  unfolding can_go
  forth_start m rest h b =
      let s : st ≡ st + 0 = omega arith in
      let t : tk ≡ tk - 0 = omega arith in
      b.left ∙ ap (left_back n z ks st tk m) h ∙ ap₂ (λ (i k : ℕ). can_go n z (steps_forth ks i k)) s t

  -- a turn of the way forth: the change c, judged from m letters
  module _ (m i : ℕ) (c : Change) (there again : Edit) (l : i < tk) (f : Forth n z ks st tk m i) (at : c ≡ kept_at ks (st + i)) (is : there ≡ done_of c) (if : again ≡ back_of c) where
    forth_turn : kept_accepted n z ks st tk ≡ (accepts_then m z there again && can_go (length_by there m) z (steps_forth ks (st + (i + 1)) (tk - (i + 1))))
    unfolding can_go
    forth_turn =
        let q : tk - i ≡ suc (tk - (i + 1)) = omega arith in
        let p : suc (st + i) ≡ st + (i + 1) = omega arith in
        let t : ℕ = tk - (i + 1) in
        f
        ∙ ap (λ (k : ℕ). can_go m z (steps_forth ks (st + i) k)) q
        ∙ ap (λ (x : Change). accepts_then m z (done_of x) (back_of x) && can_go (length_by (done_of x) m) z (steps_forth ks (suc (st + i)) t)) (sym at)
        ∙ ap₂ (λ (x y : Edit). accepts_then m z x y && can_go (length_by x m) z (steps_forth ks (suc (st + i)) t)) (sym is) (sym if)
        ∙ ap (λ (k : ℕ). accepts_then m z there again && can_go (length_by there m) z (steps_forth ks k t)) p

    pub forth_stop : accepts_then m z there again ≡ false → kept_accepted n z ks st tk ≡ false
    forth_stop h = forth_turn ∙ ap (λ (a : Bool). a && can_go (length_by there m) z (steps_forth ks (st + (i + 1)) (tk - (i + 1)))) h

    pub forth_on : (j : ℕ) → accepts_then m z there again ≡ true → j ≡ length_by there m → Forth n z ks st tk j (i + 1)
    forth_on j h e =
        forth_turn
        ∙ ap (λ (a : Bool). a && can_go (length_by there m) z (steps_forth ks (st + (i + 1)) (tk - (i + 1)))) h
        ∙ ap (λ (x : ℕ). can_go x z (steps_forth ks (st + (i + 1)) (tk - (i + 1)))) (sym e)

  pub forth_end : (m i : ℕ) → tk ≤ i → Forth n z ks st tk m i → kept_accepted n z ks st tk ≡ true
  unfolding can_go
  forth_end m i h f = let q : tk - i ≡ 0 = omega arith in f ∙ ap (λ (k : ℕ). can_go m z (steps_forth ks (st + i) k)) q
