-- The counters that a datagram raises, and the outlet's answers, which change nothing else.
use Rattle.mq_laws.proofs.Common.{◌≡◌, ℕ, ◌+◌, Bool, true, false, cond, not, refl, List, [], ◌∷◌, length, suc, Option, None, Some, Result, Ok, Err, ap, ◌∙◌}
use Rattle.mq_laws.proofs.Common.{arith, count_by, Message, QueryMessage, OldReport, LeaveMessage, ReportMessage, WireFault, RecordView, Configuration}
use Rattle.mq_laws.proofs.Common.{Counters, counted_at, kind_number, Verdict, Applied, Denied, Ignored, Refused, count_dropped, count_verdict, count_verdicts}
use Rattle.mq_laws.proofs.Common.{is_applied, is_ignored, is_refused, kind_of, Envelope, Receipt, with_outcomes, setting_of, count_read, counting_read}
use Rattle.mq_laws.proofs.Common.{taken_or_dropped, reason_of_fault, Setting, OlderJoin, OlderLeave, Outcomes, stated_alone, seen_after, judged, all_judged}
use Rattle.mq_laws.proofs.Common.{alone, Groups, Step, DropReason, CountsDropped, CountsTaken, CountsAnswer, records_in, CountsRecords, sum_by-cons, counted_on}
use Rattle.mq_laws.proofs.Common.{taken_in, Dropped}
use Rattle.mq_link.specs.{Record.Seen, declared.answers.Received.Received}
use Rattle.std.specs.FinMap as map

-- counts of verdicts; they leave the other counters
verdicts_kept : (vs : List Verdict) (c : Counters) → ((count_verdicts vs c).received ≡ c.received) × ((count_verdicts vs c).spelled ≡ c.spelled)
verdicts_kept [] c = (refl, refl)
verdicts_kept (Applied ∷ vs) c = verdicts_kept vs (count_verdict Applied c)
verdicts_kept (Ignored ∷ vs) c = verdicts_kept vs (count_verdict Ignored c)
verdicts_kept (Denied ∷ vs) c = verdicts_kept vs (count_verdict Denied c)
verdicts_kept (Refused name ∷ vs) c = verdicts_kept vs (count_verdict (Refused name) c)

-- one verdict, and then others
counted_one : (p : Verdict → Bool) (v : Verdict) (vs : List Verdict) → count_by p (v ∷ vs) ≡ cond (p v) 1 0 + count_by p vs
counted_one p v vs = sum_by-cons (λ x. cond (p x) 1 0) v vs

one_counted : (v : Verdict) (c : Counters) → CountsTaken (cond (is_applied v) 1 0) (cond (is_ignored v) 1 0) (cond (is_refused v) 1 0) c (count_verdict v c)
one_counted v c = record { dropped = grind arith; by_reason = grind arith; applied = grind arith; ignored = grind arith; refused = grind arith }

both_counted : (p : Verdict → Bool) (v : Verdict) (vs : List Verdict) (old mid new : ℕ)
    → mid ≡ counted_on old (cond (p v) 1 0) → new ≡ counted_on mid (count_by p vs) → new ≡ counted_on old (count_by p (v ∷ vs))
both_counted p v vs old mid new first rest = let sum = counted_one p v vs in omega arith

pub verdicts_counted : (vs : List Verdict) (c : Counters)
    → CountsTaken (count_by is_applied vs) (count_by is_ignored vs) (count_by is_refused vs) c (count_verdicts vs c)
verdicts_counted [] c = record { dropped = refl; by_reason = refl; applied = omega arith; ignored = omega arith; refused = omega arith }
verdicts_counted (v ∷ vs) c =
    let one = one_counted v c in
    let rest = verdicts_counted vs (count_verdict v c) in
    record {
      dropped = rest.dropped ∙ one.dropped;
      by_reason = rest.by_reason ∙ one.by_reason;
      applied = both_counted is_applied v vs _ _ _ one.applied rest.applied;
      ignored = both_counted is_ignored v vs _ _ _ one.ignored rest.ignored;
      refused = both_counted is_refused v vs _ _ _ one.refused rest.refused;
    }

-- each verdict is one of the three
one_each : (v : Verdict) → cond (is_applied v) 1 0 + cond (is_ignored v) 1 0 + cond (is_refused v) 1 0 ≡ 1
one_each v = grind arith

pub three_counts : (vs : List Verdict) → count_by is_applied vs + count_by is_ignored vs + count_by is_refused vs ≡ length vs
three_counts [] = refl
three_counts (v ∷ vs) =
    let a = counted_one is_applied v vs in
    let b = counted_one is_ignored v vs in
    let c = counted_one is_refused v vs in
    let here = one_each v in
    let rest = three_counts vs in
    omega arith

all_verdicts : (at : Setting) (seen : Seen) (rs : List (RecordView ℕ)) (groups : Groups) → length (all_judged at seen rs groups).verdicts ≡ length rs
all_verdicts at seen [] groups = refl
all_verdicts at seen (r ∷ rs) groups = ap (λ n. suc n) (all_verdicts at (seen_after at.config r groups seen) rs (judged at seen r groups).groups)

-- The counters that a taken message raises. Its answer counts its records.
record CountsAll (message : Message ℕ) (step : Step) (receipt : Receipt) : Type 0 where
  records : CountsRecords (records_in message) receipt.answer
  counted : CountsAnswer receipt.answer step.state.counters receipt.step.state.counters
  received : receipt.step.state.counters.received ≡ step.state.counters.received
  spelled : receipt.step.state.counters.spelled ≡ step.state.counters.spelled

outcomes_counted : (message : Message ℕ) (step : Step) (outcomes : Outcomes) → length outcomes.verdicts ≡ records_in message
    → CountsAll message step (with_outcomes step outcomes)
outcomes_counted message step outcomes size = record {
  records = three_counts outcomes.verdicts ∙ size;
  counted = verdicts_counted outcomes.verdicts step.state.counters;
  received = (verdicts_kept outcomes.verdicts step.state.counters).0;
  spelled = (verdicts_kept outcomes.verdicts step.state.counters).1;
}

taken_counted : (config : Configuration) (envelope : Envelope) (message : Message ℕ) (step : Step)
    → CountsAll message step (taken_in config envelope message step)
unfolding taken_in
taken_counted config envelope (QueryMessage query) step =
    record { records = refl; counted = verdicts_counted [] step.state.counters; received = refl; spelled = refl }
taken_counted config envelope (OldReport version group) step =
    outcomes_counted _ step (alone (stated_alone (setting_of config step.state) group (OlderJoin version) step.state.groups)) refl
taken_counted config envelope (LeaveMessage group) step =
    outcomes_counted _ step (alone (stated_alone (setting_of config step.state) group OlderLeave step.state.groups)) refl
taken_counted config envelope (ReportMessage records) step =
    outcomes_counted _ step (all_judged (setting_of config step.state) map.empty records step.state.groups)
    (all_verdicts (setting_of config step.state) map.empty records step.state.groups)

pub decided_records : (config : Configuration) (envelope : Envelope) (step : Step) (message : Message ℕ) (reason : Option DropReason)
    → CountsRecords (records_in message) (taken_or_dropped config envelope step (Ok message) reason).answer
decided_records config envelope step message (Some reason) = tt
decided_records config envelope step message None = (taken_counted config envelope message (counting_read (Ok message) step)).records

-- the counters after a datagram
dropped_counted : (reason : DropReason) (c : Counters) → CountsDropped reason c (count_dropped reason c)
dropped_counted reason c = record { dropped = refl; by_reason = refl; applied = refl; ignored = refl; refused = refl; by_name = refl }

-- a read message changes no other counters
as_read : (read : Result (Message ℕ) WireFault) (answer : Received) (c after : Counters) → CountsAnswer answer (count_read read c) after
    → CountsAnswer answer c after
as_read read answer c after h1 = grind arith

pub decided_counted : (config : Configuration) (envelope : Envelope) (step : Step) (read : Result (Message ℕ) WireFault) (by : Option DropReason)
    → CountsAnswer (taken_or_dropped config envelope step read by).answer step.state.counters
    (taken_or_dropped config envelope step read by).step.state.counters
decided_counted config envelope step read (Some reason) =
    as_read read (Dropped reason) step.state.counters (count_dropped reason (count_read read step.state.counters))
    (dropped_counted reason (count_read read step.state.counters))
decided_counted config envelope step (Err fault) None = as_read (Err fault) (Dropped (reason_of_fault fault)) step.state.counters
    (count_dropped (reason_of_fault fault) (count_read (Err fault) step.state.counters))
    (dropped_counted (reason_of_fault fault) (count_read (Err fault) step.state.counters))
decided_counted config envelope step (Ok message) None =
    as_read (Ok message) (taken_in config envelope message (counting_read (Ok message) step)).answer step.state.counters
    (taken_in config envelope message (counting_read (Ok message) step)).step.state.counters
    (taken_counted config envelope message (counting_read (Ok message) step)).counted

pub decided_received : (config : Configuration) (envelope : Envelope) (step : Step) (read : Result (Message ℕ) WireFault) (by : Option DropReason)
    → (taken_or_dropped config envelope step read by).step.state.counters.received ≡ counted_on step.state.counters.received 1
decided_received config envelope step (Ok message) None = (taken_counted config envelope message (counting_read (Ok message) step)).received
decided_received config envelope step (Ok message) (Some reason) = refl
decided_received config envelope step (Err fault) None = refl
decided_received config envelope step (Err fault) (Some reason) = refl

-- the outlet answers each query with one of two
pub two_answers : (answers : List Bool) → count_by (λ b. b) answers + count_by not answers ≡ length answers
two_answers [] = refl
two_answers (b ∷ answers) =
    let a = sum_by-cons (λ x. cond x 1 0) b answers in
    let c = sum_by-cons (λ x. cond (not x) 1 0) b answers in
    let here = one_or_other b in
    let rest = two_answers answers in
    omega arith
  where
    one_or_other : (b : Bool) → cond b 1 0 + cond (not b) 1 0 ≡ 1
    one_or_other true = refl
    one_or_other false = refl

pub decided_spelled : (config : Configuration) (envelope : Envelope) (step : Step) (message : Message ℕ) (by : Option DropReason)
    → (taken_or_dropped config envelope step (Ok message) by).step.state.counters.spelled
    ≡ counted_at kind_number (kind_of message) 1 step.state.counters.spelled
decided_spelled config envelope step message (Some reason) = refl
decided_spelled config envelope step message None = (taken_counted config envelope message (counting_read (Ok message) step)).spelled
