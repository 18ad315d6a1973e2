-- What a word address sets a counter to: A16 and 16 bits, or the value modulo the region's size (paper, "Write").
use Rattle.std.specs.Prelude.{ℕ, ◌+◌, ◌%◌, Bool, cond}
use Rattle.base.specs.Word.{word_of}

-- A16, then the two word-address bytes, high first
abbrev pub word_address : Bool → ℕ → ℕ → ℕ
word_address a16 high low = cond a16 (65536 + word_of high low) (word_of high low)

abbrev pub counter_in : ℕ → Bool → ℕ → ℕ → ℕ
counter_in size a16 high low = word_address a16 high low % size
