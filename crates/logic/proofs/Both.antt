-- Two tests in a row.
use mathlib.Core.Bool.{Bool, true, false, ◌&&◌}
use lib.Dec.{T}

pub left : (a b : Bool) → T (a && b) → T a
left true b h = tt
left false b h = h

pub right : (a b : Bool) → T (a && b) → T b
right true b h = h
right false b h = absurd h

pub both : (a b : Bool) → T a → T b → T (a && b)
both true b h k = k
both false b h k = h
