-- A packet of a check, in the terms of a walk.
use Rattle.mq_check.proofs.Common.{◌≡◌, ◌||◌, [], Result, Ok, Err, IfOk, is_err, Family, LinkValue, OutputState, Puts, Checked, Outcome, Comes, checked_in}
use Rattle.mq_check.proofs.Common.{FindingWriterState, WantingValue}
use Rattle.mq_check.proofs.{Tellings.broken_as, WrittenEarly.then_nothing}

still_checked : {T E : Type 0} (checked : Checked) (outcome : Outcome) (r : Result T E) → checked ≡ outcome.checked → IfOk r (λ _. checked ≡ outcome.checked)
still_checked checked outcome (Ok x) is = is
still_checked checked outcome (Err e) is = tt

-- a step of a check, and then no more findings
pub comes_then : (T E : Type 0) (family : Family) (o : Outcome) (link link' : LinkValue) (queries : WantingValue) (old mid new : FindingWriterState)
    (a b c : OutputState) (x : T) (r : Result T E)
    → Comes {T = T} {E = E} family o link link' queries old mid a b (Ok x) → Puts b.held c.held mid.held new.held [] r →
    new.additions ≡ mid.additions → new.last ≡ mid.last → new.count ≡ mid.count → c.failed ≡ (b.failed || is_err r)
    → Comes {T = T} {E = E} family o link link' queries old new a c r
comes_then T E family o link link' queries old mid new a b c x r comes put additions last count failed = record {
  same_config = comes.same_config;
  checked = still_checked (checked_in link' queries) o r comes.checked;
  tells = then_nothing T E family o.found old mid new a b c x r comes.tells put additions last count failed;
}

-- the same with another result
pub comes_well : {E : Type 0} (family : Family) (o : Outcome) (link link' : LinkValue) (queries : WantingValue) (old new : FindingWriterState)
    (a b : OutputState)
    → Comes {T = Unit} {E = E} family o link link' queries old new a b (Ok tt) → Comes {T = Unit} {E = Unit} family o link link' queries old new a b (Ok tt)
comes_well family o link link' queries old new a b comes = record {
  same_config = comes.same_config;
  checked = comes.checked;
  tells = record {
    additions = comes.tells.additions;
    last = comes.tells.last;
    count = comes.tells.count;
    text = comes.tells.text;
    failed = comes.tells.failed;
  };
}

pub comes_broken : {T E : Type 0} (family : Family) (o : Outcome) (link link' : LinkValue) (queries : WantingValue) (old new : FindingWriterState)
    (a b : OutputState) (e : E)
    → Comes {T = T} family o link link' queries old new a b (Err e) → Comes {T = Unit} {E = Unit} family o link link' queries old new a b (Err tt)
comes_broken family o link link' queries old new a b e comes = record {
  same_config = comes.same_config;
  checked = tt;
  tells = broken_as family o.found old new a b e tt comes.tells;
}
