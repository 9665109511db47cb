-- Working notions: which centres the table looks at for a start. No promise to a caller rests on reading them.
use Rattle.std.specs.Prelude.{◌≡◌, List, ℕ, ◌+◌, ◌-◌, ◌*◌, ◌≤◌, ◌<◌, length, get_or}
use Rattle.ways.specs.declared.Spans.{Spans}
use Rattle.ways.specs.Spans.{PieceOf}

-- More than any centre of 1,000 letters.
abbrev pub nowhere : ℕ
nowhere = 2000

-- A list of nothing but nowhere.
abbrev pub Nowhere : List ℕ → Type 0
Nowhere l = (k : ℕ) → k < length l → get_or l k 0 ≡ nowhere

-- All is said over the maximal lengths of the centres, the number of letters, the kind and the shortest length.
module _ (s : Spans) where
  -- The centre c is on the way of the start a: for kind 2 where its maximal palindrome starts there and is long enough.
  abbrev pub On : ℕ → ℕ → Type 0
  On a c = s.kind ≡ 2 → (s.m ≤ get_or s.lens.now c 0) × (a + a + get_or s.lens.now c 0 ≡ c + 1)

  -- From the centre y to z, for all starts up to i: z is on the ways that y is on, and no piece's centre is passed over.
  pub record Step (i y z : ℕ) : Type 0 where
    pub on : (a : ℕ) → a ≤ i → On a y → z < s.n + a → On a z
    pub skips : (a L : ℕ) → a ≤ i → On a y → PieceOf s a L → y < a + a + L - 1 → z ≤ a + a + L - 1

  -- Each centre leads to a later one by such a step.
  pub record Next (i : ℕ) (next : List ℕ) : Type 0 where
    pub long : 2 * s.n ≤ length next + 1
    pub later : (y : ℕ) → y + 1 < 2 * s.n → y < get_or next y 0
    pub step : (y : ℕ) → y + 1 < 2 * s.n → Step i y (get_or next y 0)

  -- The first centre of the way of the start a: it is on the way, and no piece of a has an earlier one.
  pub record First (a c : ℕ) : Type 0 where
    pub on : c < s.n + a → On a c
    pub skips : (L : ℕ) → PieceOf s a L → c ≤ a + a + L - 1
    pub low : c < s.n + a → a + a + s.m ≤ c + 1

  -- The ways of all starts; for kind 2 with a list of their firsts.
  pub record Laid (first next : List ℕ) : Type 0 where
    pub steps : Next s.n next
    pub firsts : s.kind ≡ 2 → (a : ℕ) → a < s.n → First a (get_or first a 0)

  -- The centres from c on are entered for kind 2: a start's first of them is on its way, and each leads on.
  pub record Entered (c : ℕ) (first next : List ℕ) : Type 0 where
    pub wide : s.n ≤ length first
    pub long : 2 * s.n ≤ length next + 1
    pub later : (y : ℕ) → y + 1 < 2 * s.n → y < get_or next y 0
    pub step : (y : ℕ) → c ≤ y → y + 1 < 2 * s.n → Step s.n y (get_or next y 0)
    pub past : (a : ℕ) → a < s.n → c ≤ get_or first a 0
    pub on : (a : ℕ) → a < s.n → get_or first a 0 < s.n + a → On a (get_or first a 0)
    pub skips : (a L : ℕ) → PieceOf s a L → c ≤ a + a + L - 1 → get_or first a 0 ≤ a + a + L - 1

-- Each centre leads to the one behind it.
pub record EachNext (n : ℕ) (before after : List ℕ) : Type 0 where
  pub long : length after ≡ length before
  pub each : (y : ℕ) → y + 1 < 2 * n → get_or after y 0 ≡ y + 1
