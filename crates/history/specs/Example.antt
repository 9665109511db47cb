-- The document's example (01, "The call program"): TACCATG with the plain map, kind 1, m 2, g 2, d 0, and the six calls on its sheet. Its two questions are run and compared.
use Rattle.std.specs.Prelude.{◌≡◌, List, [], ◌∷◌, Result, Ok, Err}
use Rattle.terms.specs.Maps.{plain_map}
use Rattle.terms.specs.Texts.{Text, text_all}
use Rattle.terms.specs.declared.limits.Limits.{Limits}
use Rattle.terms.specs.declared.refusal.Refusal.{Refusal}
use Rattle.terms.specs.declared.refusal.Refusal.TheVariants.{NoneStands, NoSuchPlace}
use Rattle.changes.specs.declared.Edit.TheVariants.{Letter}
use Rattle.sheet.specs.Calls.{open_call}
use Rattle.sheet.specs.declared.Said.{Said}
use Rattle.sheet.specs.declared.Said.TheVariants.{Letter as SaidLetter, Opened}
use Rattle.sheet.specs.declared.Sheet.{Sheet}
use Rattle.history.specs.History.{change, take_back, put_again}
use Rattle.history.specs.Runs.{Exchange, requested, Run}

abbrev pub example_text : Text
example_text = text_all (84 ∷ 65 ∷ 67 ∷ 67 ∷ 65 ∷ 84 ∷ 71 ∷ []) plain_map

abbrev pub example_limits : Limits
example_limits = record { kind = 1; m = 2; g = 2; d = 0 }

-- The opening is accepted.
abbrev pub ExampleOpens : Type 0
ExampleOpens = (open_call example_text example_limits).said ≡ Ok (Opened 7)

-- T at place 6, take-back, put-again, take-back, take-back once too often, T at a place past the end; with what is said to each.
abbrev pub example_calls : (a b c d e f : Result Said Refusal) → List Exchange
example_calls a b c d e f =
    requested (change (Letter 6 84)) a
    ∷ requested take_back b
    ∷ requested put_again c
    ∷ requested take_back d
    ∷ requested take_back e
    ∷ requested (change (Letter 7 84)) f
    ∷ []

-- Every run of these calls says place, letter replaced, letter now there and number standing, four times; then refusals 8 and 6.
abbrev pub ExampleRuns : Type 0
ExampleRuns =
    (a b c d e f : Result Said Refusal) (s : Sheet)
    → Run (open_call example_text example_limits).sheet (example_calls a b c d e f) s
    → (a ≡ Ok (SaidLetter 6 71 84 1))
    × (b ≡ Ok (SaidLetter 6 84 71 0))
    × (c ≡ Ok (SaidLetter 6 71 84 1))
    × (d ≡ Ok (SaidLetter 6 84 71 0))
    × (e ≡ Err NoneStands)
    × (f ≡ Err NoSuchPlace)
