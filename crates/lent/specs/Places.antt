-- Places for boards, of which so many hold one.
use Rattle.boards.specs.declared.Board.{Board}

-- what stands in a place that holds none: it could be a board's, so how many hold one is said beside it
abbrev pub no_board : Board
no_board = record { identity = 0; address = 0 }
