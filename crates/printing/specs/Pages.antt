-- What is put on a page: a lent room, and the place behind what is put.
use Rattle.std.specs.Prelude.{◌≡◌, List, ℕ}
use Rattle.printing.specs.declared.Page.{Page}
use Rattle.printing.specs.Printing.{Put}

-- A text put into a page's room at its place, which is then the place after it. The page keeps its room.
pub record PutOn (page : Page) (text : List ℕ) (page' : Page) : Type 0 where
  pub same_room : page'.room.ghost_name ≡ page.room.ghost_name
  pub put : Put page.room.now page.at text page'.at page'.room.now
