-- The 16 serial bytes of chip k are all 10h + k (paper, "The transcript"); they stand at the start of its security register (sheets,
-- section 10.1).
use Rattle.std.specs.Prelude.{ℕ, ◌+◌, cond, List, set}
use Rattle.base.specs.Fold.{up_to}
use Rattle.board.specs.declared.Place.{Place}
use Rattle.board.specs.Place.{placed}
use Rattle.board.specs.Shares.{figures_at, security_start}

-- sixteen bytes from a place are this byte
unfoldable pub marked : ℕ → ℕ → List ℕ → List ℕ
marked byte at store = up_to (λ (i : ℕ) (so_far : List ℕ). set so_far (at + i) byte) 16 store

abbrev pub serial_byte : ℕ → ℕ
serial_byte k = 16 + k

-- a chip without registers has none (request E7)
abbrev pub serial : List Place → ℕ → List ℕ → List ℕ
serial places k store = cond (figures_at places k).registers (marked (serial_byte k) (security_start places k) store) store

abbrev pub serials : ℕ → List Place → List ℕ → List ℕ
serials count places store = up_to (serial places) (placed count) store
