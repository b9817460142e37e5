-- The receipt of a datagram at a link whose groups are known one by one, for the worked examples.
use Rattle.mq_examples.proofs.Common.{◌≡◌, ℕ, refl, [], ◌∷◌, ◌++◌, Option, None, Some, Result, Ok, Err, ap, ◌∙◌, QueryMessage, OldReport, LeaveMessage}
use Rattle.mq_examples.proofs.Common.{ReportMessage, Dropped, Configuration, tick_of, Setting, alone, count_dropped, count_verdicts, Envelope, Receipt, taken}
use Rattle.mq_examples.proofs.Common.{with_outcomes, with_state, count_read, reason_of_fault, taken_or_dropped, drop_reason, receipt_after, Message, WireFault}
use Rattle.mq_examples.proofs.Common.{DropReason, Received}
use Rattle.mq_link.specs.Receive.{taken_in}
use Rattle.mq_examples.proofs.KnownLinks.{KnownLink, as_link, KnownStep, as_step, tick_in, tick-known}
use Rattle.mq_examples.proofs.KnownRecords.{Join, Leave, KnownOutcome, stated_alone_known, stated_alone-known, KnownOutcomes, all_judged_known}
use Rattle.mq_examples.proofs.KnownRecords.{all_judged-known, heard_in, heard-known}

pub record KnownReceipt : Type 0 where
  pub step : KnownStep
  pub answer : Received

abbrev pub as_receipt : KnownReceipt → Receipt
as_receipt r = record { step = as_step r.step; answer = r.answer }

abbrev pub with_known_outcomes : KnownStep → KnownOutcomes → KnownReceipt
with_known_outcomes s o =
    let l = s.link in
    record {
      step = record {
        link = record { groups = o.groups; election = l.election; last = l.last; counters = count_verdicts o.verdicts l.counters };
        queries = s.queries ++ o.queries;
        timing = s.timing;
      };
      answer = taken o.verdicts;
    }

abbrev pub with_known_link : KnownStep → KnownLink → Received → KnownReceipt
with_known_link s l answer = record { step = record { link = l; queries = s.queries; timing = s.timing }; answer = answer }

abbrev pub known_alone : KnownOutcome → KnownOutcomes
known_alone o = record { verdicts = o.verdict ∷ []; groups = o.groups; queries = o.queries }

abbrev pub setting_in : Configuration → KnownLink → Setting
setting_in config l = record { config = config; election = l.election; now = l.last }

abbrev pub taken_known : Configuration → Envelope → Message ℕ → KnownStep → KnownReceipt
taken_known config envelope (QueryMessage query) s = with_known_link s (heard_in config s.link.last envelope.source query s.link) (taken [])
taken_known config envelope (OldReport version group) s =
    with_known_outcomes s (known_alone (stated_alone_known (setting_in config s.link) group (Join version) s.link.groups))
taken_known config envelope (LeaveMessage group) s =
    with_known_outcomes s (known_alone (stated_alone_known (setting_in config s.link) group Leave s.link.groups))
taken_known config envelope (ReportMessage records) s = with_known_outcomes s (all_judged_known (setting_in config s.link) [] records s.link.groups)

taken-known : (config : Configuration) (envelope : Envelope) (message : Message ℕ) (s : KnownStep) → taken_in config envelope message (as_step s)
    ≡ as_receipt (taken_known config envelope message s)
unfolding taken_in
taken-known config envelope (QueryMessage query) s = ap (λ state. with_state (as_step s) state (taken []))
    (heard-known config s.link.last envelope.source query s.link)
taken-known config envelope (OldReport version group) s = ap (λ o. with_outcomes (as_step s) (alone o))
    (stated_alone-known (setting_in config s.link) group (Join version) s.link.groups)
taken-known config envelope (LeaveMessage group) s = ap (λ o. with_outcomes (as_step s) (alone o))
    (stated_alone-known (setting_in config s.link) group Leave s.link.groups)
taken-known config envelope (ReportMessage records) s = ap (with_outcomes (as_step s)) (all_judged-known (setting_in config s.link) [] records s.link.groups)

abbrev pub dropped_known : DropReason → KnownStep → KnownReceipt
dropped_known reason s =
    let l = s.link in
    with_known_link s (record { groups = l.groups; election = l.election; last = l.last; counters = count_dropped reason l.counters }) (Dropped reason)

abbrev pub counting_known : Result (Message ℕ) WireFault → KnownStep → KnownStep
counting_known read s =
    let l = s.link in
    record {
      link = record { groups = l.groups; election = l.election; last = l.last; counters = count_read read l.counters };
      queries = s.queries;
      timing = s.timing;
    }

abbrev pub taken_or_dropped_known : Configuration → Envelope → KnownStep → Result (Message ℕ) WireFault → Option DropReason → KnownReceipt
taken_or_dropped_known config envelope s read (Some reason) = dropped_known reason (counting_known read s)
taken_or_dropped_known config envelope s (Err fault) None = dropped_known (reason_of_fault fault) (counting_known (Err fault) s)
taken_or_dropped_known config envelope s (Ok message) None = taken_known config envelope message (counting_known (Ok message) s)

taken_or_dropped-known : (config : Configuration) (envelope : Envelope) (s : KnownStep) (read : Result (Message ℕ) WireFault)
    (reason : Option DropReason) → taken_or_dropped config envelope (as_step s) read reason ≡ as_receipt (taken_or_dropped_known config envelope s read reason)
taken_or_dropped-known config envelope s read (Some reason) = refl
taken_or_dropped-known config envelope s (Err fault) None = refl
taken_or_dropped-known config envelope s (Ok message) None = taken-known config envelope message (counting_known (Ok message) s)

abbrev pub receipt_known : Configuration → Envelope → Result (Message ℕ) WireFault → ℕ → KnownLink → KnownReceipt
receipt_known config envelope read now l = taken_or_dropped_known config envelope (tick_in config now l) read (drop_reason config envelope read)

-- The receipt of a read message at a known link.
pub receipt-known : (config : Configuration) (envelope : Envelope) (read : Result (Message ℕ) WireFault) (now : ℕ) (l : KnownLink) →
    receipt_after config envelope read (tick_of config now (as_link l)) ≡ as_receipt (receipt_known config envelope read now l)
receipt-known config envelope read now l =
    ap (receipt_after config envelope read) (tick-known config now l)
    ∙ taken_or_dropped-known config envelope (tick_in config now l) read (drop_reason config envelope read)
