-- The word of parities. Working notions: no promise to a caller rests on reading them.
use Rattle.std.specs.Prelude.{◌≡◌, List, ℕ, ◌+◌, ◌%◌}
use Rattle.std.specs.Int.{bit_at}
use Rattle.shuffled.specs.Shuffled.{occurs}

-- w is the word of parities of the L letters from a: bit 0 is 1 where A occurs an odd number of times, bit 1 where B does, and so on.
abbrev pub ParityWord : List ℕ → ℕ → ℕ → ℕ → Type 0
ParityWord s a L w = (c : ℕ) → bit_at w c ≡ occurs s a L (65 + c) % 2
