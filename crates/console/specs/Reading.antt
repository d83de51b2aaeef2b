-- What a reading gives.
use Rattle.std.specs.Prelude.{ℕ, Result, Ok, Err}
use Rattle.console.specs.declared.ReadError.{ReadError}

-- How many bytes were read, up to the input's end or before a read failed.
abbrev pub bytes_read : Result ℕ ReadError → ℕ
bytes_read (Ok n) = n
bytes_read (Err e) = e.bytes
