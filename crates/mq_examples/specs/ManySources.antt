-- The terms of the worked examples of sendings in several messages. They are many sources, Reports as they are read,
-- and sent messages, with their octets and their number.
use Rattle.std.specs.Prelude.{◌≡◌, ℕ, zero, suc, ◌+◌, true, List, [], ◌∷◌, length, replicate, map as list_map, Ok}
use Rattle.mq_wire.specs.declared.message.Message.TheVariants.{Report as ReportMessage}
use Rattle.mq_wire.specs.declared.records.RecordView.{RecordView}
use Rattle.mq_table.specs.declared.timers.SourceTimer.{SourceTimer}
use Rattle.mq_sched.specs.Sending.{SentQuery}
use Rattle.mq_link.specs.declared.answers.Received.{Received}
use Rattle.mq_link.specs.Configuration.{Configuration}
use Rattle.mq_link.specs.Counters.{no_counts, count_answers}
use Rattle.mq_link.specs.Tick.{Step, tick_of}
use Rattle.mq_link.specs.Receive.{Envelope, Receipt, receipt_after}
use Rattle.mq_link.specs.Sent.{outgoing_of}
use Rattle.mq_examples.specs.Links.{ListedLink, as_link, Leaves}

-- `count` sources, from this one upwards
abbrev pub sources_from : (first count : ℕ) → List ℕ
sources_from first zero = []
sources_from first (suc count) = first ∷ sources_from (first + 1) count

-- each of these sources with this timer
abbrev pub each_as : SourceTimer → List ℕ → List (ℕ × SourceTimer)
each_as timer sources = list_map (λ (s : ℕ). (s, timer)) sources

-- a link that has sent `count` queries, and counted nothing else
abbrev pub having_sent : ℕ → ListedLink → ListedLink
having_sent count l = record l { counters = record no_counts { sent = count } }

-- the octets of each message of a step, and the number of sent queries afterwards if the outlet takes them all
abbrev pub lengths_of : Configuration → Step → List ℕ
lengths_of config step = list_map (λ message. length message.bytes) (outgoing_of config step)

abbrev pub sent_then : Step → ℕ
sent_then step = (count_answers (replicate (length step.queries) true) step.state.counters).sent

-- A step leaves this link, and sends these queries in messages of these octets; `sent` queries have been sent then.
pub record HandsAll (config : Configuration) (step : Step) (queries : List SentQuery) (lengths : List ℕ) (sent : ℕ)
    (after : ListedLink) : Type 0 where
  pub leaves : Leaves step queries after
  pub lengths_are : lengths_of config step ≡ lengths
  pub sent_is : sent_then step ≡ sent

abbrev pub TicksSending : Configuration → (now : ℕ) → ListedLink → List SentQuery → (lengths : List ℕ) → (sent : ℕ) → ListedLink → Type 0
TicksSending config now before queries lengths sent after =
    HandsAll config (tick_of config now (as_link before)) queries lengths sent after

-- the result of a Report of these records
abbrev pub report_received : Configuration → Envelope → List (RecordView ℕ) → (now : ℕ) → ListedLink → Receipt
report_received config envelope records now before =
    receipt_after config envelope (Ok (ReportMessage records)) (tick_of config now (as_link before))

-- a Report has these effects, and this answer
pub record Reports (config : Configuration) (envelope : Envelope) (records : List (RecordView ℕ)) (now : ℕ)
    (before : ListedLink) (answer : Received) (queries : List SentQuery) (lengths : List ℕ) (sent : ℕ)
    (after : ListedLink) : Type 0 where
  pub answer_is : (report_received config envelope records now before).answer ≡ answer
  pub hands : HandsAll config (report_received config envelope records now before).step queries lengths sent after
