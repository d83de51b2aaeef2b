-- Nothing in this file has to be believed: how an atom begins in bytes, the bracket, its word and a space, the kinds of atoms numbered.
-- `head_of` and `head_other` (proofs/Heads) say that the head tells the kind.
use Rattle.std.specs.Prelude.{ℕ, List, [], ◌∷◌, get_or}
use Rattle.logic.specs.declared.Link.{Link}
use Rattle.logic.specs.declared.Link.TheVariants.{Eq, Mem, Sub}
use Rattle.logic.specs.declared.Arrow.{Arrow}
use Rattle.logic.specs.declared.Arrow.TheVariants.{Sv, Si, Mv, Mi, St, Mt}
use Rattle.logic.specs.Syntax.{arrow_of, only, also, Atom, link, obj, arrows}
use Rattle.text.specs.Words.{bytes}

abbrev pub heads : List (List ℕ)
heads =
    bytes "(eq "
    ∷ bytes "(mem "
    ∷ bytes "(sub "
    ∷ bytes "(obj "
    ∷ bytes "(sv "
    ∷ bytes "(si "
    ∷ bytes "(mv "
    ∷ bytes "(mi "
    ∷ bytes "(st "
    ∷ bytes "(mt "
    ∷ bytes "(mol "
    ∷ []

abbrev pub link_kind : Link → ℕ
link_kind Eq = 0
link_kind Mem = 1
link_kind Sub = 2

abbrev pub arrow_kind : Arrow → ℕ
arrow_kind Sv = 4
arrow_kind Si = 5
arrow_kind Mv = 6
arrow_kind Mi = 7
arrow_kind St = 8
arrow_kind Mt = 9

-- The kind of an atom: the number of its head.
unfoldable pub kind_number : Atom → ℕ
kind_number (link l t u) = link_kind l
kind_number (obj t) = 3
kind_number (arrows o (only p)) = arrow_kind (arrow_of p)
kind_number (arrows o (also p ps)) = 10

abbrev pub head : ℕ → List ℕ
head n = get_or heads n []
