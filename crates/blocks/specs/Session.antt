-- A transcript that comes in blocks: what is left of a block is kept, and heard again with the next one behind it.
use Rattle.std.specs.Prelude.{ℕ, Bool, false, cond, List, [], ◌∷◌, ◌++◌, length, drop}
use Rattle.bus.specs.declared.Bus.{Bus}
use Rattle.conversation.specs.Talk.{Talk, hear}

-- the bus and both stores, all that was said, the text that is kept, and whether a malformed line has ended the run
pub record Session : Type 0 where
  pub bus : Bus
  pub array : List ℕ
  pub security : List ℕ
  pub said : List ℕ
  pub kept : List ℕ
  pub over : Bool

abbrev pub begun : Bus → List ℕ → List ℕ → Session
begun bus array security = record { bus = bus; array = array; security = security; said = []; kept = []; over = false }

-- at the start of a text
abbrev pub at_text : Session → Talk
at_text s = record { bus = s.bus; array = s.array; security = s.security; said = s.said; at = 0; over = false }

-- where a talk over a text has come to
abbrev pub came_to : List ℕ → Talk → Session
came_to text talk =
    record { bus = talk.bus; array = talk.array; security = talk.security; said = talk.said; kept = drop talk.at text; over = talk.over }

-- a text is heard as far as it has lines
unfoldable pub heard_out : List ℕ → Session → Session
heard_out text s = came_to text (hear text (length text) (at_text s))

-- the next block, behind what was kept; after a malformed line nothing is heard
abbrev pub block : List ℕ → Session → Session
block new s = cond s.over s (heard_out (s.kept ++ new) s)

-- one block after the other
unfoldable pub all_blocks : List (List ℕ) → Session → Session
all_blocks [] s = s
all_blocks (new ∷ more) s = all_blocks more (block new s)

-- all of them as one text
unfoldable pub joined : List (List ℕ) → List ℕ
joined [] = []
joined (new ∷ more) = new ++ joined more
