-- A word of two bytes, high first, and the two bytes of a word.
use Rattle.std.specs.Prelude.{ℕ, ◌+◌, ◌*◌, ◌/◌, ◌%◌}

abbrev pub word_of : ℕ → ℕ → ℕ
word_of high low = high * 256 + low

abbrev pub high_of : ℕ → ℕ
high_of word = word / 256

abbrev pub low_of : ℕ → ℕ
low_of word = word % 256
