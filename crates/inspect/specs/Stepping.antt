-- A step through a piece of the input: it goes on in the piece, and stays within the buffers. Working notions: no promise to a caller rests on reading them.
use Rattle.std.specs.Prelude.{ℕ, ◌≤◌, ◌<◌}
use Rattle.inspect.specs.declared.Stepped.{Stepped}

-- From a place of a piece, with buffers for a line and for a reply, given by their lengths; `at` bytes are kept of the line.
pub record Steps (line at piece from reply : ℕ) (r : Stepped) : Type 0 where
  pub kept : at ≤ line
  pub on : from < r.from
  pub inside : r.from ≤ piece
  pub written : r.written ≤ reply
