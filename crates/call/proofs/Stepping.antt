-- A step, and a whole piece. Assumes nothing.
use mathlib.Core.Path.{◌≡◌, refl, sym, ap, ◌∙◌, subst}
use mathlib.Core.Bool.{Bool, true, false}
use mathlib.Core.List.{List, [], ◌∷◌, ◌++◌, append_assoc, append-nil}
use Prim.Native.Nat.{ℕ, ◌≤◌}
use native.Mathlib.Omega.{arith}
use native.Mathlib.Decide.{dec_le}
use borrow.Author.Tests.{ltb-false}
use lib.Dec.{T}
use lib.ListN.{length, take, drop, length-drop, drop_of_length-le}
use lib.Seq.{take_all, take-nil, length-take-le}
use Rattle.std.specs.Prelude.{Option, None}
use Rattle.lines.specs.declared.Line.{Line}
use Rattle.lines.proofs.Reading.{too_long, one_reading}
use Rattle.feed.specs.Lines.{whole_lines, last_line, Kept}
use Rattle.feed.specs.Feeding.{up_to_end, ends, TakesOn}
use Rattle.feed.specs.declared.Fed.{Fed}
use Rattle.feed.proofs.Pieces.{feeding}
use Rattle.desk.specs.Desk.{Does, DeskReply}
use Rattle.desk.specs.declared.Desk.{Desk}
use Rattle.desk.specs.declared.Turn.{Turn}
use Rattle.call.specs.declared.Progress.{Progress}
use Rattle.call.specs.Steps.{State, state, Answered, Answers, Finishing}
use Rattle.call.specs.Work.{line_now, Stepping}

pub kept_none : (room : List ℕ) → Kept room 0 []
kept_none room = record { many = omega arith; bytes = sym (take-nil (length room)) }

-- a line is answered as what is kept of it: where it is too long, so is that
pub whole_line : (d : Desk) (room : List ℕ) (at : ℕ) (line : List ℕ) → length room ≡ 1041 → Kept room at line → {table table' work work' out out' : List ℕ} {r : Turn}
    → DeskReply d (take at room) table table' work work' out out' r → DeskReply d line table table' work work' out out' r
whole_line d room at line long k {table} {table'} {work} {work'} {out} {out'} {r} p =
    elim (dec_le (length line) 1040) [
      | yes h ↦ subst (λ (z : List ℕ). DeskReply d z table table' work work' out out' r) (k.bytes ∙ take_all (length room) line (omega arith)) p
      | no h ↦
          let l : length (take at room) ≡ at = length-take-le at room (omega (arith, k.many)) in
          let u : p.line ≡ None = one_reading (take at room) p.line None p.reads (too_long (take at room) (omega (arith, k.many))) in
          record {
            line = None;
            reads = too_long line (omega arith);
            text = p.text;
            does = subst (λ (z : Option Line). Does d (take at room) z table table' work work' (r.desk, p.text)) u p.does;
            puts = p.puts;
          }
    ]

module _ (bytes bytes' : List ℕ) (at : ℕ) (piece : List ℕ) (from : ℕ) (fed : Fed) (f : TakesOn bytes at piece from bytes' fed) where
  module _ (d : Desk) {table room out : List ℕ} where
    pub step_ended : length bytes' ≡ 1041 → fed.whole ≡ true → {table' room' out' : List ℕ} {turn : Turn} → DeskReply d (take fed.at bytes') table table' room room' out out' turn
        → Stepping d bytes bytes' at 0 piece from table table' room room' out out' (record { desk = turn.desk; from = fed.from; written = turn.written })
    step_ended long w q line k =
        let p = f line k in
        record {
          ended = λ e. record { first = (feeding.ended line piece from bytes' fed p w).0; last = (feeding.ended line piece from bytes' fed p w).1; reply = whole_line d bytes' fed.at _ long p.kept q; kept = kept_none bytes' };
          unended = λ e. absurd (subst T (sym w ∙ p.whole ∙ e) tt);
        }

    pub step_unended : fed.whole ≡ false → from ≤ length piece → Stepping d bytes bytes' at fed.at piece from table table room room out out (record { desk = d; from = fed.from; written = 0 })
    step_unended w h line k =
        let p = f line k in
        let e : ends (drop from piece) ≡ false = sym p.whole ∙ w in
        let n = rw e at p.next in
        record {
          ended = λ t. absurd (subst T (sym t ∙ e) tt);
          unended = λ t.
              record {
                none = (feeding.unended line piece from bytes' fed p w).0;
                last = (feeding.unended line piece from bytes' fed p w).1;
                done = drop_of_length-le piece {i = fed.from} (omega (arith, n, ltb-false (length (up_to_end (drop from piece))) (length (drop from piece)) e, length-drop from piece));
                desk = refl;
                silent = refl;
                stays = (refl, refl, refl);
                kept = p.kept;
              };
        }

-- one line more
answers_more : (a b c : State) (lines : List (List ℕ)) (line : List ℕ) → Answers a lines b → Answered b line c → Answers a (lines ++ (line ∷ [])) c
answers_more a b c [] line e p = (c, subst (λ (z : State). Answered z line c) e p, refl)
answers_more a b c (l ∷ lines) line q p = (q.0, q.1, answers_more q.0 b c lines line q.2 p)

-- So far in a piece: whatever line the bytes kept at its start are of, some lines are answered, and those kept now are of one with the same lines left.
pub record Sofar (s₀ : State) (piece bytes : List ℕ) (at from : ℕ) (s : State) (line : List ℕ) : Type 0 where
  pub now : List ℕ
  pub kept : Kept bytes at now
  pub last : last_line now (drop from piece) ≡ last_line line piece
  pub done : List (List ℕ)
  pub answers : Answers s₀ done s
  pub lines : done ++ whole_lines now (drop from piece) ≡ whole_lines line piece

abbrev pub Onward : State → List ℕ → ℕ → List ℕ → List ℕ → ℕ → ℕ → State → Type 0
Onward s₀ bytes₀ at₀ piece bytes at from s = (line : List ℕ) → Kept bytes₀ at₀ line → Sofar s₀ piece bytes at from s line

pub onward_start : (s : State) (bytes : List ℕ) (at : ℕ) (piece : List ℕ) → Onward s bytes at piece bytes at 0 s
onward_start s bytes at piece line k = record { now = line; kept = k; last = refl; done = []; answers = refl; lines = refl }

pub onward_next : (s₀ : State) (desk : Desk) (bytes₀ : List ℕ) (at₀ : ℕ) (piece bytes : List ℕ) (at from : ℕ) (bytes' : List ℕ) (at' : ℕ) (table table' room room' out out' : List ℕ) (r : Progress)
    → Onward s₀ bytes₀ at₀ piece bytes at from (state desk table room out) → Stepping desk bytes bytes' at at' piece from table table' room room' out out' r
    → Onward s₀ bytes₀ at₀ piece bytes' at' r.from (state r.desk table' room' out')
onward_next s₀ desk bytes₀ at₀ piece bytes at from bytes' at' table table' room room' out out' r o s line k = go (ends (drop from piece)) refl
  where
    before : State
    before = state desk table room out

    after : State
    after = state r.desk table' room' out'

    was : Sofar s₀ piece bytes at from before line
    was = o line k

    this : List ℕ
    this = line_now was.now piece from

    go : (t : Bool) → ends (drop from piece) ≡ t → Sofar s₀ piece bytes' at' r.from after line
    go true e =
        let q = (s was.now was.kept).ended e in
        record {
          now = [];
          kept = q.kept;
          last = sym q.last ∙ was.last;
          done = was.done ++ (this ∷ []);
          answers = answers_more s₀ before after was.done this was.answers (record { written = r.written; reply = q.reply });
          lines = append_assoc was.done (this ∷ []) (whole_lines [] (drop r.from piece)) ∙ ap (λ (z : List (List ℕ)). was.done ++ z) (sym q.first) ∙ was.lines;
        }
    go false e =
        let q = (s was.now was.kept).unended e in
        let same : before ≡ after = rw (q.desk, q.stays.0, q.stays.1, q.stays.2) refl in
        record {
          now = this;
          kept = q.kept;
          last = ap (last_line this) q.done ∙ sym q.last ∙ was.last;
          done = was.done;
          answers = subst (Answers s₀ was.done) same was.answers;
          lines = ap (λ (z : List ℕ). was.done ++ whole_lines this z) q.done ∙ ap (λ (z : List (List ℕ)). was.done ++ z) (sym q.none) ∙ was.lines;
        }

pub onward_end : (s₀ s : State) (bytes₀ : List ℕ) (at₀ : ℕ) (piece bytes : List ℕ) (at from : ℕ) → Onward s₀ bytes₀ at₀ piece bytes at from s → length piece ≤ from
    → (line : List ℕ) → Kept bytes₀ at₀ line → Kept bytes at (last_line line piece) × Answers s₀ (whole_lines line piece) s
onward_end s₀ s bytes₀ at₀ piece bytes at from o h line k =
    let q = o line k in
    let e : drop from piece ≡ [] = drop_of_length-le piece {i = from} h in
    let all : q.done ≡ whole_lines line piece = sym (append-nil q.done) ∙ ap (λ (z : List ℕ). q.done ++ whole_lines q.now z) (sym e) ∙ q.lines in
    (subst (Kept bytes at) (ap (last_line q.now) (sym e) ∙ q.last) q.kept, subst (λ (z : List (List ℕ)). Answers s₀ z s) all q.answers)

-- a line of which no byte is kept is empty
no_bytes : (room : List ℕ) (line : List ℕ) → length room ≡ 1041 → Kept room 0 line → line ≡ []
no_bytes room [] long k = refl
no_bytes room (b ∷ line) long k = absurd (omega (arith, k.many))

module _ (d : Desk) (bytes : List ℕ) (at : ℕ) (long : length bytes ≡ 1041) {table room out : List ℕ} where
  pub finished_empty : at ≡ 0 → Finishing d bytes at table table room room out out (record { desk = d; written = 0 })
  finished_empty z line k =
      record { empty = λ e. (refl, refl, refl, refl); some = λ n. absurd (n (no_bytes bytes line long (subst (λ (i : ℕ). Kept bytes i line) z k))) }

  pub finished_some : {table' room' out' : List ℕ} {r : Turn} → (at ≡ 0 → ⊥) → DeskReply d (take at bytes) table table' room room' out out' r → Finishing d bytes at table table' room room' out out' r
  finished_some n p line k =
      record { empty = λ e. absurd (n (let z : length line ≡ 0 = ap length e in omega (arith, k.many))); some = λ h. whole_line d bytes at line long k p }
