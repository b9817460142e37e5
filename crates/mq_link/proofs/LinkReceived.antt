-- A link after a datagram.
use Rattle.mq_link.proofs.Common.{◌≡◌, ℕ, Bool, refl, List, [], ◌++◌, append-nil, Option, None, Some, Result, Ok, Err, sym, ap, ◌∙◌, subst, Family, Message}
use Rattle.mq_link.proofs.Common.{QueryMessage, OldReport, LeaveMessage, ReportMessage, WireFault, Timing, Sends-append, AllFit, SentQuery, Sends, DropReason}
use Rattle.mq_link.proofs.Common.{Received, Dropped, Sender, Configuration, count_dropped, per_query, HasReceived, Envelope, Receipt, count_read, taken_in}
use Rattle.mq_link.proofs.Common.{taken_or_dropped, drop_reason, receipt_after, receipt_of, read_of, pseudo_of, counting_read, HasReceipt, HasStep, RouterValue}
use Rattle.mq_link.proofs.Common.{link_of, silent_step, state_of, TakesQuery, begun, Outgoing, LinkState, Step, tick_of}
use Rattle.mq_link.proofs.{AllFits.fits-receipt_of, HandedOut.IsHanded, HandedOut.is_handed, HandedOut.with_answers, LinkTicked.with_answers_in}

-- a receipt after some queries, beside that of the same datagram after none
pub record Continues (queries : List SentQuery) (timing : Timing) (whole rest : Receipt) : Type 0 where
  pub state : whole.step.state ≡ rest.step.state
  pub queries_are : whole.step.queries ≡ queries ++ rest.step.queries
  pub timing_is : whole.step.timing ≡ timing
  pub answer : whole.answer ≡ rest.answer

abbrev step_with : LinkState → List SentQuery → Timing → Step
step_with state queries timing = record { state = state; queries = queries; timing = timing }

taken_continues : (config : Configuration) (envelope : Envelope) (message : Message ℕ) (state : LinkState) (queries : List SentQuery)
    (timing other : Timing) → Continues queries timing (taken_in config envelope message (step_with state queries timing))
    (taken_in config envelope message (step_with state [] other))
unfolding taken_in
taken_continues config envelope (QueryMessage query) state queries timing other =
    record { state = refl; queries_are = sym (append-nil queries); timing_is = refl; answer = refl }
taken_continues config envelope (OldReport version group) state queries timing other =
    record { state = refl; queries_are = refl; timing_is = refl; answer = refl }
taken_continues config envelope (LeaveMessage group) state queries timing other = record { state = refl; queries_are = refl; timing_is = refl; answer = refl }
taken_continues config envelope (ReportMessage records) state queries timing other =
    record { state = refl; queries_are = refl; timing_is = refl; answer = refl }

decided_continues : (config : Configuration) (envelope : Envelope) (read : Result (Message ℕ) WireFault) (reason : Option DropReason)
    (state : LinkState) (queries : List SentQuery) (timing other : Timing) →
    Continues queries timing (taken_or_dropped config envelope (step_with state queries timing) read reason)
    (taken_or_dropped config envelope (step_with state [] other) read reason)
decided_continues config envelope read (Some reason) state queries timing other =
    record { state = refl; queries_are = sym (append-nil queries); timing_is = refl; answer = refl }
decided_continues config envelope (Err fault) None state queries timing other =
    record { state = refl; queries_are = sym (append-nil queries); timing_is = refl; answer = refl }
decided_continues config envelope (Ok message) None state queries timing other =
    taken_continues config envelope message (counting_read (Ok message) (step_with state queries timing)).state queries timing other

pub continues : (config : Configuration) (envelope : Envelope) (read : Result (Message ℕ) WireFault) (state : LinkState) (queries : List SentQuery)
    (timing other : Timing) → Continues queries timing (receipt_after config envelope read (step_with state queries timing))
    (receipt_after config envelope read (step_with state [] other))
continues config envelope read state queries timing other = decided_continues config envelope read (drop_reason config envelope read) state queries timing other

abbrev pub read_in : Family → Envelope → List ℕ → Result (Message ℕ) WireFault
read_in family envelope bytes = read_of family (pseudo_of family envelope bytes) bytes

abbrev FitsReceipt : Configuration → Envelope → Result (Message ℕ) WireFault → Step → Type 0
FitsReceipt config envelope read at = AllFit (per_query config.family) (receipt_after config envelope read at).step.queries

abbrev IsAnswered : {O : Type 0} → (takes : O → Outgoing → Bool → O → Type 0) → Configuration → (after : LinkState) → (old new : O) → Received →
    Receipt → Type 0
IsAnswered takes config after old new answer receipt = (answer ≡ receipt.answer) × IsHanded takes config receipt.step after old new

-- a datagram that is dropped is counted, and no more
pub is_dropped : {S : Type 0} (takes : S → SentQuery → S → Type 0) (sink : S) (envelope : Envelope) (read : Result (Message ℕ) WireFault)
    (reason : DropReason) (old between new : RouterValue)
    → drop_reason old.at.config envelope read ≡ Some reason
    → between ≡ record old { counters = count_read read old.counters } → new ≡ record between { counters = count_dropped reason between.counters }
    → HasReceipt takes (receipt_after old.at.config envelope read (silent_step (state_of old))) (Dropped reason) old new sink sink
is_dropped takes sink envelope read reason old between new is counted dropped =
    subst (λ r. HasReceipt takes r (Dropped reason) old new sink sink) (sym (ap (taken_or_dropped old.at.config envelope (silent_step (state_of old)) read) is))
    (record {
      step = record {
        leaves = record {
          config = ap (λ (r : RouterValue). r.at.config) dropped ∙ ap (λ (r : RouterValue). r.at.config) counted;
          state_is = ap state_of dropped ∙ ap (λ (r : RouterValue). state_of (record r { counters = count_dropped reason r.counters })) counted;
        };
        sent = refl;
      };
      answer_is = refl;
    })

-- a datagram that isn't dropped is counted, and its message taken
pub is_taken : (envelope : Envelope) (message : Message ℕ) (old between : RouterValue)
    → drop_reason old.at.config envelope (Ok message) ≡ None → between ≡ record old { counters = count_read (Ok message) old.counters }
    → receipt_after old.at.config envelope (Ok message) (silent_step (state_of old)) ≡ taken_in between.at.config envelope message
    (silent_step (state_of between))
is_taken envelope message old between none counted =
    ap (taken_or_dropped old.at.config envelope (silent_step (state_of old)) (Ok message)) none
    ∙ ap (λ (r : RouterValue). taken_in r.at.config envelope message (silent_step (state_of r))) (sym counted)

-- with the outlet's answers counted, it is a datagram of the link
pub has_received : {F O K E : Type 0} (takes : O → Outgoing → Bool → O → Type 0) (family : Family) (envelope : Envelope) (bytes : List ℕ) (now : ℕ)
    (before ticked left after : RouterValue) (answer : Received) (old between new : Sender F O K E)
    → before.at.config.family ≡ family
    → (let step = tick_of before.at.config now (state_of before) in
    HasStep (TakesQuery takes family) step before ticked (begun before.at.config step.timing old) between)
    → HasReceipt (TakesQuery takes family) (receipt_after ticked.at.config envelope (read_in family envelope bytes) (silent_step (state_of ticked)))
    answer ticked left between new
    → after ≡ record left { counters = with_answers left.counters new.sent new.unsent }
    → HasReceived takes envelope bytes now answer (link_of before) (link_of after) old.outlet.now new.outlet.now
has_received takes family envelope bytes now before ticked left after answer old between new is_family first comes counted =
    let config = before.at.config in
    let read = read_in family envelope bytes in
    let at : Step = tick_of config now (state_of before) in
    let other : Timing = ticked.at.election.timing in
    let rest : Receipt = receipt_after config envelope read (step_with at.state [] other) in
    let whole : Receipt = receipt_after config envelope read at in
    let rest_is : receipt_after ticked.at.config envelope read (silent_step (state_of ticked)) ≡ rest =
    λ i. receipt_after (first.leaves.config i) envelope read (step_with (first.leaves.state_is i) [] other) in
    let went : Sends (TakesQuery takes family) between rest.step.queries new =
    subst (λ (r : Receipt). Sends (TakesQuery takes family) between r.step.queries new) rest_is comes.step.sent in
    let on : Continues at.queries at.timing whole rest = continues config envelope read at.state at.queries at.timing other in
    let both = Sends-append (TakesQuery takes family) (begun config at.timing old) between new at.queries rest.step.queries first.sent went in
    let listed : Sends (TakesQuery takes family) (begun config at.timing old) whole.step.queries new =
    subst (λ qs. Sends (TakesQuery takes family) (begun config at.timing old) qs new) (sym on.queries_are) both in
    let all : Sends (TakesQuery takes family) (begun config whole.step.timing old) whole.step.queries new =
    subst (λ t. Sends (TakesQuery takes family) (begun config t old) whole.step.queries new) (sym on.timing_is) listed in
    let state_is : state_of after ≡ with_answers_in new.sent new.unsent whole.step.state =
    ap state_of counted ∙ ap (with_answers_in new.sent new.unsent) (comes.step.leaves.state_is ∙ ap (λ (r : Receipt). r.step.state) rest_is ∙ sym on.state)
    in
    let answer_is : answer ≡ whole.answer = comes.answer_is ∙ ap (λ (r : Receipt). r.answer) rest_is ∙ sym on.answer in
    let fit_now : FitsReceipt config envelope (read_in config.family envelope bytes) at = fits-receipt_of config envelope bytes now (state_of before) in
    let fit : FitsReceipt config envelope read at = subst (λ f. FitsReceipt config envelope (read_in f envelope bytes) at) is_family fit_now in
    let handed : IsAnswered takes config (state_of after) old.outlet.now new.outlet.now answer whole =
    (answer_is, is_handed takes family config whole.step (state_of after) old new is_family fit all state_is) in
    let there : IsAnswered takes config (state_of after) old.outlet.now new.outlet.now answer
    (receipt_of config envelope bytes now (state_of before)) =
    subst (λ f. IsAnswered takes config (state_of after) old.outlet.now new.outlet.now answer
    (receipt_after config envelope (read_in f envelope bytes) at)) (sym is_family) handed in
    record {
      messages = there.1.messages;
      answers = there.1.answers;
      receives =
          record { answer_is = there.0; hands_out = there.1.hands_out };
      handed = there.1.handed;
    }
