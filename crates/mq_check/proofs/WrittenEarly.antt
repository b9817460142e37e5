-- Findings that are written before a read that may wait.
use Rattle.mq_check.proofs.Common.{◌≡◌, ℕ, Bool, ◌||◌, List, [], ◌++◌, Result, Ok, Err, IfOk, is_err, append-nil, ap, ◌∙◌, or-false, Family, OutputState, Puts}
use Rattle.mq_check.proofs.Common.{put_as, then_put, Finding, finding_lines, LastDifferences, FindingCounts, with_findings, FindingWriterState, Tells}
use Rattle.mq_check.proofs.Common.{counted_by, reported_by}

still_counted : {T E : Type 0} (xs : List (Finding ℕ)) (old mid new : FindingCounts) (r : Result T E) → mid ≡ counted_by xs old → new ≡ mid →
    IfOk r (λ _. new ≡ counted_by xs old)
still_counted xs old mid new (Ok x) counted same = same ∙ counted
still_counted xs old mid new (Err e) counted same = tt

still_noted : {T E : Type 0} (xs : List (Finding ℕ)) (old mid new : LastDifferences) (r : Result T E) → mid ≡ with_findings xs old → new ≡ mid →
    IfOk r (λ _. new ≡ with_findings xs old)
still_noted xs old mid new (Ok x) noted same = same ∙ noted
still_noted xs old mid new (Err e) noted same = tt

-- some findings are reported, and then nothing more is put
pub then_nothing : (T E : Type 0) (family : Family) (xs : List (Finding ℕ)) (old mid new : FindingWriterState) (a b c : OutputState) (x : T) (r : Result T E)
    → Tells {T = T} {E = E} family xs old mid a b (Ok x) → Puts b.held c.held mid.held new.held [] r → new.additions ≡ mid.additions →
    new.last ≡ mid.last → new.count ≡ mid.count → c.failed ≡ (b.failed || is_err r)
    → Tells {T = T} {E = E} family xs old new a c r
then_nothing T E family xs old mid new a b c x r tells put additions last count failed =
    let text = finding_lines family old.additions (reported_by old xs) in
    record {
      additions = additions ∙ tells.additions;
      last = still_noted xs old.last mid.last new.last r tells.last last;
      count = still_counted (reported_by old xs) old.count mid.count new.count r tells.count count;
      text = put_as a.held c.held old.held new.held (text ++ []) text r (append-nil text)
          (then_put a.held b.held c.held old.held mid.held new.held text [] r tells.text put);
      failed = failed ∙ ap (λ (f : Bool). f || is_err r) (tells.failed ∙ or-false a.failed);
    }
