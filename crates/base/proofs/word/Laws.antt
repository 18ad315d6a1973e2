-- A word and its two bytes are the same thing.
use Prim.Native.Nat.{ℕ, ◌<◌}
use native.Mathlib.Omega.{arith}
use mathlib.Core.Path.{◌≡◌}
use Rattle.base.specs.Word.{word_of, high_of, low_of}

pub word_of_bytes : (word : ℕ) → word_of (high_of word) (low_of word) ≡ word
word_of_bytes word = omega arith

pub high_of_word : (high low : ℕ) → low < 256 → high_of (word_of high low) ≡ high
high_of_word high low byte = omega arith

pub low_of_word : (high low : ℕ) → low < 256 → low_of (word_of high low) ≡ low
low_of_word high low byte = omega arith
