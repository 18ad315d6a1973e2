-- How many bytes of a file stand in the buffer that it was read into: all, or none that count.
use Rattle.std.specs.Prelude.{ℕ, Result, Ok, Err}
use Rattle.files.specs.declared.Unread.{Unread}

abbrev pub size_of : Result ℕ Unread → ℕ
size_of (Ok size) = size
size_of (Err unread) = 0
