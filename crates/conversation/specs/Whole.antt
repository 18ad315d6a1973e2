-- A whole transcript: its lines are answered, and then it ends (paper, "The transcript").
use Rattle.std.specs.Prelude.{ℕ, List}
use Rattle.bus.specs.declared.Bus.{Bus}
use Rattle.conversation.specs.declared.Heard.{Heard}
use Rattle.conversation.specs.Talk.{Left, converse}
use Rattle.conversation.specs.Pending.{finished}

abbrev pub finished_by : List ℕ → Left → Heard × List ℕ × List ℕ × List ℕ
finished_by text left = ((finished text left.0 left.4).0, left.2, left.3, (finished text left.0 left.4).1)

-- what is told, both stores, and the answers in the buffer, as far as it has room
unfoldable pub answer_all : List ℕ → Bus → List ℕ → List ℕ → List ℕ → Heard × List ℕ × List ℕ × List ℕ
answer_all text bus array security buffer = finished_by text (converse text bus array security buffer)
