use Rattle.expected.specs.Claims.{arrow_claimed}
use Rattle.expected.proofs.claims.arrow_word.Goals as goal

pub returns-in-Sv : goal.returns-in-Sv
unfolding arrow_claimed
returns-in-Sv c = rw c.in-Sv.is c.word.ensures.value

pub returns-in-Si : goal.returns-in-Si
unfolding arrow_claimed
returns-in-Si c = rw c.in-Si.is c.word-in-Si.ensures.value

pub returns-in-Mv : goal.returns-in-Mv
unfolding arrow_claimed
returns-in-Mv c = rw c.in-Mv.is c.word-in-Mv.ensures.value

pub returns-in-Mi : goal.returns-in-Mi
unfolding arrow_claimed
returns-in-Mi c = rw c.in-Mi.is c.word-in-Mi.ensures.value

pub returns-in-St : goal.returns-in-St
unfolding arrow_claimed
returns-in-St c = rw c.in-St.is c.word-in-St.ensures.value

pub returns-in-Mt : goal.returns-in-Mt
unfolding arrow_claimed
returns-in-Mt c = rw c.in-Mt.is c.word-in-Mt.ensures.value
