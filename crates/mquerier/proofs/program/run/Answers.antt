use Rattle.mquerier.proofs.Telling.{request_told}
use Rattle.mquerier.proofs.program.run.Goals as goal

pub returns-in-Ok-clause-told : goal.returns-in-Ok-clause-told
returns-in-Ok-clause-told g c = λ refused. let why = c.perform.ensures.performs.refused refused in request_told _ c.in-Ok.request _ why.2 why.4
