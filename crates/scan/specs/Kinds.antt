-- The kinds as they are numbered (T5).
use Rattle.std.specs.Prelude.{ℕ}
use Rattle.scan.specs.declared.kinds.Kind.{Kind}
use Rattle.scan.specs.declared.kinds.Kind.TheVariants.{Digit, SmallLetter, Bracket, Sign, Space, LineEnd, Other}

-- T5: "digit .., small letter .., bracket .., sign .., space .., line end .. or other": 0 to 6 in this order.
abbrev pub kind_number : Kind → ℕ
kind_number Digit = 0
kind_number SmallLetter = 1
kind_number Bracket = 2
kind_number Sign = 3
kind_number Space = 4
kind_number LineEnd = 5
kind_number Other = 6
