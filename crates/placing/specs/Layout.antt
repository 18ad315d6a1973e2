-- The board that is asked for, chip by chip, and the one that the bench program plays when nobody asks for another (paper, "The transcript").
use Rattle.std.specs.Prelude.{ℕ, ◌+◌, cond, [], ◌∷◌, eqb, leb, replicate, set}
use Rattle.base.specs.Least.{least}
use Rattle.board.specs.declared.Place.{Place}
use Rattle.board.specs.Place.{nowhere, placed}
use Rattle.board.specs.Shares.{array_start, security_start}
use Rattle.placing.specs.declared.layout.Board.{Board}

abbrev pub bare : Board
bare = record { count = 0; places = replicate 4 nowhere }

-- a board that is full stays as it is
abbrev pub with_chip : Board → Place → Board
with_chip board place = cond (leb 4 board.count) board (record { count = board.count + 1; places = set board.places board.count place })

abbrev pub at_24cs32 : ℕ → Place
at_24cs32 strap = record { part = 2; strap = strap }

-- three 24CS32 at straps 0, 1, 2
abbrev pub paper_board : Board
paper_board = record { count = 3; places = at_24cs32 0 ∷ at_24cs32 1 ∷ at_24cs32 2 ∷ nowhere ∷ [] }

-- a board without chips stands for the paper's
abbrev pub or_paper : Board → Board
or_paper board = cond (eqb board.count 0) paper_board board

-- where its arrays, and its security registers, end in a memory: no later than the memory does
abbrev pub array_end : Board → ℕ → ℕ
array_end board most = least (array_start board.places (placed board.count)) most

abbrev pub security_end : Board → ℕ → ℕ
security_end board most = least (security_start board.places (placed board.count)) most
