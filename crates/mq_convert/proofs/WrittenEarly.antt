-- Text that is written before a read that may wait.
use Rattle.mq_convert.proofs.Common.{ℕ, List, [], ◌++◌, Option, Result, append-nil, Passes, Puts, put_as, then_put}

-- a text passed, and then nothing more was put
pub then_nothing : (T E : Type 0) (a b c : Option (List ℕ)) (held mid left text : List ℕ) (r : Result T E) → Passes a b held mid text →
    Puts b c mid left [] r → Puts a c held left text r
then_nothing T E a b c held mid left text r passed put =
    put_as a c held left (text ++ []) text r (append-nil text) (then_put a b c held mid left text [] r passed put)
