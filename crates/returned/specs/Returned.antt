-- Whether returned records still agree with a string, its map, its limits and its alphabet (02, L1).
use Rattle.std.specs.Prelude.{◌≡◌, Bool, not, List, [], ◌∷◌, ◌++◌, ℕ, ◌*◌, ◌%◌, ◌<◌, eqb, length}
use Rattle.terms.specs.Refusals.{FirstFault, tested}
use Rattle.terms.specs.Texts.{Text, opening_faults}
use Rattle.terms.specs.declared.limits.Limits.{Limits}
use Rattle.tilings.specs.Tilings.{Part, Permitted}
use Rattle.boards.specs.Pieces.{board}
use Rattle.records.specs.Records.{record_size, records_from}
use Rattle.reader.specs.Reader.{record_bytes}
use Rattle.judged.specs.Judged.{Right}

-- Some record is no right part.
pub record SomeWrong (x : Text) (l : Limits) (file : List ℕ) : Type 0 where
  pub number : ℕ
  pub inside : record_size * number < length file
  pub wrong : Right x l (record_bytes file (record_size * number)) → ⊥

-- The records are a permitted tiling with at most g gaps.
pub record Agrees (x : Text) (l : Limits) (file : List ℕ) : Type 0 where
  pub parts : List Part
  pub permitted : Permitted (board x l) 0 l.g parts
  pub written : file ≡ records_from x 0 parts

-- The opening's refusals, then 15 where the length is not a multiple of 6.
unfoldable pub file_faults : Text → Limits → List ℕ → List (ℕ × Bool)
file_faults x l file = opening_faults x l ++ (15, not (eqb (length file % record_size) 0)) ∷ []

-- The whole list in testing order: 16 any record that is no right part, 17 records that don't tile or have too many gaps.
abbrev pub agree_faults : Text → Limits → List ℕ → List (ℕ × Type 0)
agree_faults x l file = tested (file_faults x l file) ++ (16, SomeWrong x l file) ∷ (17, (Agrees x l file → ⊥)) ∷ []

-- The answer: the number of the first fault that holds; 0 says yes, and then the records are a permitted tiling.
pub record AgreeReply (x : Text) (l : Limits) (file : List ℕ) (k : ℕ) : Type 0 where
  pub number : FirstFault (agree_faults x l file) k
  pub yes : k ≡ 0 → Agrees x l file
