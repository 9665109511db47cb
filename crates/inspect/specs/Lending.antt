-- What the program lends to a call: the map and the alphabet that a line names, and slices set to what they hold before. Working notions: no promise to a caller rests on reading them.
use Rattle.std.specs.Prelude.{◌≡◌, ◌≢◌, Result, MatchResult, List, ℕ, ◌+◌, ◌-◌, ◌*◌, ◌%◌, set, replicate}
use Rattle.terms.specs.Maps.{values_from, plain_map, complement_map}
use Rattle.terms.specs.Alphabets.{all_bytes}
use Rattle.inspect.specs.declared.alphabets.Alphabet.{Alphabet}
use Rattle.inspect.specs.declared.alphabets.Alphabet.TheVariants.{All, Bases, BasesAndN, Open, Short as ShortFlags, Empty}
use Rattle.inspect.specs.declared.named.Unnamed.{Unnamed}
use Rattle.inspect.specs.declared.lent.Lent.{Lent}
use Rattle.inspect.specs.declared.maps.Map.{Map}
use Rattle.inspect.specs.declared.maps.Map.TheVariants.{Plain, Complement, Short, Shifted, Paired}

-- The letters that name the maps in a line: I, C, S, X and Y.
abbrev pub map_letter : Map → ℕ
map_letter Plain = 73
map_letter Complement = 67
map_letter Short = 83
map_letter Shifted = 88
map_letter Paired = 89

-- The map with this letter, or no map has it.
abbrev pub NamesMap : ℕ → Result Map Unnamed → Type 0
NamesMap letter r = MatchResult r (λ map. map_letter map ≡ letter) (λ _. (map : Map) → map_letter map ≢ letter)

-- Byte x goes to x + 1, and 255 to 0.
unfoldable pub shifted_map : List ℕ
shifted_map = values_from 0 256 (λ x. (x + 1) % 256)

-- Byte x goes to x xor 1.
unfoldable pub paired_map : List ℕ
paired_map = values_from 0 256 (λ x. x + 1 - 2 * (x % 2))

-- The bytes of a map.
abbrev pub map_bytes : Map → List ℕ
map_bytes Plain = plain_map
map_bytes Complement = complement_map
map_bytes Short = plain_map
map_bytes Shifted = shifted_map
map_bytes Paired = paired_map

-- How many of them are lent: a short map lacks the last.
abbrev pub map_size : Map → ℕ
map_size Plain = 256
map_size Complement = 256
map_size Short = 255
map_size Shifted = 256
map_size Paired = 256

-- A map as it is lent.
abbrev pub LendsMap : Map → Lent → Type 0
LendsMap map lent = (lent.bytes ≡ map_bytes map) × (lent.size ≡ map_size map)

-- The letters that name the alphabets: *, D, N, O, S and E.
abbrev pub alphabet_letter : Alphabet → ℕ
alphabet_letter All = 42
alphabet_letter Bases = 68
alphabet_letter BasesAndN = 78
alphabet_letter Open = 79
alphabet_letter ShortFlags = 83
alphabet_letter Empty = 69

-- The alphabet with this letter, or no alphabet has it.
abbrev pub NamesAlphabet : ℕ → Result Alphabet Unnamed → Type 0
NamesAlphabet letter r = MatchResult r (λ alphabet. alphabet_letter alphabet ≡ letter) (λ _. (alphabet : Alphabet) → alphabet_letter alphabet ≢ letter)

-- No byte; A, C and G; with T; with N too.
unfoldable pub no_byte : List ℕ
no_byte = replicate 256 0

unfoldable pub three_bases : List ℕ
three_bases = set (set (set no_byte 65 1) 67 1) 71 1

unfoldable pub four_bases : List ℕ
four_bases = set three_bases 84 1

unfoldable pub bases_and_n : List ℕ
bases_and_n = set four_bases 78 255

-- The flags of an alphabet.
abbrev pub flag_bytes : Alphabet → List ℕ
flag_bytes All = all_bytes
flag_bytes Bases = four_bases
flag_bytes BasesAndN = bases_and_n
flag_bytes Open = three_bases
flag_bytes ShortFlags = all_bytes
flag_bytes Empty = no_byte

-- How many of them are lent: short flags lack the last.
abbrev pub flag_count : Alphabet → ℕ
flag_count All = 256
flag_count Bases = 256
flag_count BasesAndN = 256
flag_count Open = 256
flag_count ShortFlags = 255
flag_count Empty = 256

-- An alphabet as it is lent.
abbrev pub LendsFlags : Alphabet → Lent → Type 0
LendsFlags alphabet lent = (lent.bytes ≡ flag_bytes alphabet) × (lent.size ≡ flag_count alphabet)
