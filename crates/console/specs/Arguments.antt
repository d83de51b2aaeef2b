-- What a program's argument asks for, and what is printed then.
use Rattle.std.specs.Prelude.{ℕ, List, ◌++◌, cond, Option, None, Some}
use Rattle.std.specs.Str.{bytes_eq}
use Rattle.text.specs.Words.{bytes}
use Rattle.console.specs.declared.Request.{Request}
use Rattle.console.specs.declared.Request.TheVariants.{Help, Version}

-- The two words that an argument may be.
abbrev pub request : List ℕ → Option Request
request argument = cond (bytes_eq argument (bytes "--help")) (Some Help) (cond (bytes_eq argument (bytes "--version")) (Some Version) None)

-- The help, or the program's name and version.
abbrev pub told : Request → List ℕ → List ℕ → List ℕ
told Help name help = help
told Version name help = name ++ bytes " 0.5\n"
