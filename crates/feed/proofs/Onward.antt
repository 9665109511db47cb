-- What a feed tells of where it stops. Assumes nothing.
use mathlib.Core.Path.{◌≡◌}
use mathlib.Core.List.{List}
use Prim.Native.Nat.{ℕ, ◌-◌, ◌≤◌, ◌<◌}
use native.Mathlib.Omega.{arith}
use native.Mathlib.Decide.{dec_le}
use borrow.Author.Tests.{lt-ltb, le-ltb}
use lib.ListN.{length, take, drop, length-drop}
use Rattle.feed.specs.Feeding.{up_to_end, Feeds, TakesOn}
use Rattle.feed.specs.declared.Fed.{Fed}
use Rattle.feed.proofs.Ends.{within}
use Rattle.feed.proofs.Keeping.{kept_self}

module _ (room : List ℕ) (at : ℕ) (piece : List ℕ) (from : ℕ) (room' : List ℕ) (r : Fed) (f : TakesOn room at piece from room' r) (h : at ≤ length room) where
  fed : Feeds (take at room) piece from room' r
  fed = f (take at room) (kept_self room at h)

  pub goes_on : from < length piece → (from < r.from) × (r.from ≤ length piece)
  goes_on inside =
      let bs : List ℕ = drop from piece in
      let l : length bs ≡ length piece - from = length-drop from piece in
      let w : length (up_to_end bs) ≤ length bs = within bs in
      elim (dec_le (length bs) (length (up_to_end bs))) [
        | yes e ↦ let n = rw (le-ltb (length (up_to_end bs)) (length bs) e) at fed.next in (omega arith, omega arith)
        | no e ↦ let n = rw (lt-ltb (length (up_to_end bs)) (length bs) (omega arith)) at fed.next in (omega arith, omega arith)
      ]
