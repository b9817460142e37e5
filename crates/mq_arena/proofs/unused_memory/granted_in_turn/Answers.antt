use Rattle.mq_arena.proofs.InTurn.{granted-enough, enough-granted}
use Rattle.mq_arena.proofs.unused_memory.granted_in_turn.Goals as goal

pub returns : goal.returns
returns c = λ units rs. (granted-enough units rs, λ e. enough-granted units rs e.0 e.1)
