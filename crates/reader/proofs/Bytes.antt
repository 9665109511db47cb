-- Six bytes, and what they say of a part. Assumes nothing.
use mathlib.Core.Path.{◌≡◌, sym, ap, ◌∙◌}
use mathlib.Core.List.{List, [], ◌∷◌}
use Prim.Native.Nat.{ℕ, suc, ◌+◌, ◌*◌, ◌/◌, ◌%◌, ◌≤◌, ◌<◌}
use native.Mathlib.Omega.{arith}
use native.Mathlib.Numerals.{towards_suc}
use lib.ListN.{length, get_or, take}
use lib.Seq.{drop-cons}
use Rattle.terms.specs.Texts.{Text}
use Rattle.spans.proofs.Exactness.{Bytes}
use Rattle.tilings.specs.Tilings.{Part}
use Rattle.tilings.specs.Laws.{length_of}
use Rattle.records.specs.Records.{tag_of, errors_of, record_of}
use Rattle.reader.specs.Reader.{record_bytes, record_at}
use Rattle.reader.specs.Laws.{saying_of}
use Rattle.reader.specs.declared.Record.{Record}

-- The six bytes from a place, one by one.
six : (file : List ℕ) (at : ℕ) → at + 6 ≤ length file
    → record_bytes file at ≡ get_or file at 0 ∷ get_or file (at + 1) 0 ∷ get_or file (at + 2) 0 ∷ get_or file (at + 3) 0 ∷ get_or file (at + 4) 0 ∷ get_or file (at + 5) 0 ∷ []
six file at h =
    simp towards_suc
    (ap (take 6)
    (drop-cons file at 0 (omega arith)
    ∙ ap (λ (z : List ℕ). get_or file at 0 ∷ z) (drop-cons file (suc at) 0 (omega arith)
    ∙ ap (λ (z : List ℕ). get_or file (suc at) 0 ∷ z) (drop-cons file (suc (suc at)) 0 (omega arith)
    ∙ ap (λ (z : List ℕ). get_or file (suc (suc at)) 0 ∷ z) (drop-cons file (suc (suc (suc at))) 0 (omega arith)
    ∙ ap (λ (z : List ℕ). get_or file (suc (suc (suc at))) 0 ∷ z) (drop-cons file (suc (suc (suc (suc at)))) 0 (omega arith)
    ∙ ap (λ (z : List ℕ). get_or file (suc (suc (suc (suc at)))) 0 ∷ z) (drop-cons file (suc (suc (suc (suc (suc at))))) 0 (omega arith))))))))

-- What is read of six bytes is small.
pub read_small : (file : List ℕ) (at : ℕ) → Bytes file → (r : Record) → r ≡ record_at file at → (r.start < 65536) × (r.length < 65536)
read_small file at bytes r e =
    let a : r.start ≡ (record_at file at).start = ap (λ (z : Record). z.start) e in
    let b : r.length ≡ (record_at file at).length = ap (λ (z : Record). z.length) e in
    (omega (arith, bytes (at + 2), bytes (at + 3)), omega (arith, bytes (at + 4), bytes (at + 5)))

-- They are a part's record exactly when they say what it says.
module _ (x : Text) (file : List ℕ) (at : ℕ) (whole : at + 6 ≤ length file) (i : ℕ) (p : Part) where
  pub says : record_bytes file at ≡ record_of x i p → record_at file at ≡ saying_of x i p
  says e =
      let w = sym (six file at whole) ∙ e in
      let a : get_or file at 0 ≡ tag_of p = cc in
      let b : get_or file (at + 1) 0 ≡ errors_of x i p = cc in
      let c : get_or file (at + 2) 0 ≡ i / 256 = cc in
      let d : get_or file (at + 3) 0 ≡ i % 256 = cc in
      let f : get_or file (at + 4) 0 ≡ length_of p / 256 = cc in
      let g : get_or file (at + 5) 0 ≡ length_of p % 256 = cc in
      let start : get_or file (at + 2) 0 * 256 + get_or file (at + 3) 0 ≡ i = omega arith in
      let long : get_or file (at + 4) 0 * 256 + get_or file (at + 5) 0 ≡ length_of p = omega arith in
      cc

  pub written : Bytes file → record_at file at ≡ saying_of x i p → record_bytes file at ≡ record_of x i p
  written bytes s =
      let a : get_or file at 0 ≡ tag_of p = ap (λ (r : Record). r.tag) s in
      let b : get_or file (at + 1) 0 ≡ errors_of x i p = ap (λ (r : Record). r.errors) s in
      let start : get_or file (at + 2) 0 * 256 + get_or file (at + 3) 0 ≡ i = ap (λ (r : Record). r.start) s in
      let long : get_or file (at + 4) 0 * 256 + get_or file (at + 5) 0 ≡ length_of p = ap (λ (r : Record). r.length) s in
      let c : get_or file (at + 2) 0 ≡ i / 256 = omega (arith, bytes (at + 3)) in
      let d : get_or file (at + 3) 0 ≡ i % 256 = omega (arith, bytes (at + 3)) in
      let f : get_or file (at + 4) 0 ≡ length_of p / 256 = omega (arith, bytes (at + 5)) in
      let g : get_or file (at + 5) 0 ≡ length_of p % 256 = omega (arith, bytes (at + 5)) in
      let w = six file at whole in
      cc
