-- What the room keeps of a line that is taken on. Assumes nothing.
use mathlib.Core.Path.{◌≡◌, sym, ◌∙◌}
use mathlib.Core.Bool.{Bool, true, false, cond}
use mathlib.Core.List.{List, [], ◌∷◌, ◌++◌, append-nil}
use Prim.Native.Nat.{ℕ, suc, ◌+◌, ◌-◌, ◌≤◌, ◌<◌}
use native.Mathlib.Omega.{arith}
use native.Mathlib.Decide.{dec_le}
use lib.ListN.{length, take, drop, set, length-set, length-append, length-take, length-drop}
use lib.Seq.{take_all, take-suc-set, take-append-le, append_snoc}
use borrow.Author.Tests.{lt-ltb, le-ltb}
use Rattle.printing.specs.Printing.{Put}
use Rattle.printing.proofs.Laws.{sets_past}
use Rattle.feed.specs.Lines.{Kept}
use Rattle.feed.specs.Feeding.{up_to_end, ends, TakesOn}
use Rattle.std.specs.Prelude.{Option, Some, None, unwrap_or}
use Rattle.feed.proofs.Ends.{end_in, end_some, end_none, line_is}

-- the first bytes of a room are a line that it keeps
pub kept_self : (room : List ℕ) (at : ℕ) → at ≤ length room → Kept room at (take at room)
kept_self room at h =
    let l = length-take at room in
    record { many = omega arith; bytes = sym (take_all (length room) (take at room) (omega arith)) }

-- one byte more, where there is a place for it
kept_byte : {room : List ℕ} {at : ℕ} {line : List ℕ} (x : ℕ) → at < length room → Kept room at line → Kept (set room at x) (suc at) (line ++ (x ∷ []))
kept_byte {room} {at} {line} x h k =
    let e : take at room ≡ line = k.bytes ∙ take_all (length room) line (omega arith) in
    let s = length-set room at x in
    let a = length-append line (x ∷ []) in
    record {
      many = omega arith;
      bytes = rw (take-suc-set room at x h, e) (sym (take_all (length (set room at x)) (line ++ (x ∷ [])) (omega arith)));
    }

-- as many bytes more as there are places for
pub kept_on : {room : List ℕ} {at : ℕ} {line : List ℕ} (part : List ℕ) {r : ℕ} {room' : List ℕ} → Kept room at line → Put room at part r room'
    → Kept room' r (line ++ part)
kept_on {room} {at} {line} [] {r} k p =
    let e : r ≡ at = omega arith in
    rw (append-nil, p.now, e) k
kept_on {room} {at} {line} (x ∷ part) {r} k p =
    elim (dec_le (suc at) (length room)) [
      | yes h ↦
          rw (← append_snoc line x part)
          (kept_on part (kept_byte x h k) (record { next = omega (arith, length-set room at x); now = p.now }))
      | no h ↦
          let a = length-append line (x ∷ part) in
          let e : r ≡ at = omega arith in
          let l : length room ≤ length line = omega arith in
          rw (p.now, sets_past room at (x ∷ part) (omega arith), e)
          (record { many = omega arith; bytes = rw (take-append-le (length room) line (x ∷ part)) k.bytes })
    ]

-- what is left of a piece
pub left : (piece : List ℕ) (from : ℕ) → take (length piece - from) (drop from piece) ≡ drop from piece
left piece from = take_all (length piece - from) (drop from piece) (omega (arith, length-drop from piece))

-- the bytes put of it are those up to its line end
pub line_put : (piece : List ℕ) (from : ℕ) {room : List ℕ} {at n kept : ℕ} {room' : List ℕ} (o : Option ℕ)
    → o ≡ end_in (take (length piece - from) (drop from piece)) → n ≡ unwrap_or o (length (take (length piece - from) (drop from piece)))
    → Put room at (take n (take (length piece - from) (drop from piece))) kept room' → Put room at (up_to_end (drop from piece)) kept room'
line_put piece from o e n p = rw (n, e, left piece from, line_is (drop from piece)) at p

-- a feed, where the bytes of the piece up to its line end were put: there the line ends, or the piece
module _ {room : List ℕ} {at : ℕ} {piece : List ℕ} {from kept : ℕ} {room' : List ℕ} (p : Put room at (up_to_end (drop from piece)) kept room') where
  feeds : (w : Bool) (next : ℕ) → ends (drop from piece) ≡ w → next ≡ from + length (up_to_end (drop from piece)) + cond w 1 0 → TakesOn room at piece from room' (record { at = kept; from = next; whole = w })
  feeds w next h n line k = record { kept = kept_on (up_to_end (drop from piece)) k p; whole = sym h; next = rw h n }

  pub line_ends : (k : ℕ) → end_in (drop from piece) ≡ Some k → TakesOn room at piece from room' (record { at = kept; from = from + k + 1; whole = true })
  line_ends k e =
      let s = end_some (drop from piece) k e in
      feeds true (from + k + 1) (lt-ltb (length (up_to_end (drop from piece))) (length (drop from piece)) (omega arith)) (omega arith)

  pub piece_ends : from ≤ length piece → end_in (drop from piece) ≡ None → TakesOn room at piece from room' (record { at = kept; from = length piece; whole = false })
  piece_ends h e =
      let n = end_none (drop from piece) e in
      feeds false (length piece) (le-ltb (length (up_to_end (drop from piece))) (length (drop from piece)) (omega arith)) (omega (arith, length-drop from piece))
