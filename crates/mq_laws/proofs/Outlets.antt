-- The outlet's answers, which don't change the next work of a link.
use Rattle.mq_laws.proofs.Common.{◌≡◌, ℕ, ◌+◌, not, refl, List, [], ◌∷◌, length, Option, None, Some, Result, Ok, Err, sym, ap, ◌∙◌, arith, count_by, list_map}
use Rattle.mq_laws.proofs.Common.{Message, QueryMessage, OldReport, LeaveMessage, ReportMessage, WireFault, Configuration, Counters, Verdict, Applied, Denied}
use Rattle.mq_laws.proofs.Common.{Ignored, Refused, count_verdict, count_verdicts, Envelope, Receipt, with_outcomes, setting_of, counting_read}
use Rattle.mq_laws.proofs.Common.{taken_or_dropped, drop_reason, read_of, pseudo_of, OlderJoin, OlderLeave, Outcomes, stated_alone, all_judged, alone, Event}
use Rattle.mq_laws.proofs.Common.{Tick, Datagram, step_of, answer_to, Happening, Happens, RunFrom, events_alone, outgoing, outgoing_of, LinkState, Step}
use Rattle.mq_laws.proofs.Common.{tick_of, DropReason, unanswered, DifferInAnswers, HappensAlike, HappenAlike, counted_on, taken_in}
use Rattle.mq_laws.proofs.Counting.{two_answers}
use Rattle.std.specs.FinMap as map

quiet : Counters → Counters
quiet c = record c { sent = 0; unsent = 0 }

one_quiet : (v : Verdict) (c : Counters) → quiet (count_verdict v (quiet c)) ≡ quiet (count_verdict v c)
unfolding quiet
one_quiet v c = grind arith

verdicts_quiet : (vs : List Verdict) (c : Counters) → quiet (count_verdicts vs c) ≡ quiet (count_verdicts vs (quiet c))
unfolding quiet
verdicts_quiet [] c = refl
verdicts_quiet (v ∷ vs) c =
    verdicts_quiet vs (count_verdict v c) ∙ ap (λ x. quiet (count_verdicts vs x)) (sym (one_quiet v c)) ∙ sym (verdicts_quiet vs (count_verdict v (quiet c)))

-- sent and unsent, which only the outlet's answers change
abbrev pub answers_in : Counters → ℕ × ℕ
answers_in c = (c.sent, c.unsent)

verdicts_answers : (vs : List Verdict) (c : Counters) → answers_in (count_verdicts vs c) ≡ answers_in c
verdicts_answers [] c = refl
verdicts_answers (Applied ∷ vs) c = verdicts_answers vs (count_verdict Applied c)
verdicts_answers (Ignored ∷ vs) c = verdicts_answers vs (count_verdict Ignored c)
verdicts_answers (Denied ∷ vs) c = verdicts_answers vs (count_verdict Denied c)
verdicts_answers (Refused name ∷ vs) c = verdicts_answers vs (count_verdict (Refused name) c)

-- The state, the queries and the answer, without the counters of sent and unsent queries.
pub record Alike (step : Step) (a b : Receipt) : Type 0 where
  pub state : unanswered a.step.state ≡ unanswered b.step.state
  pub queries : a.step.queries ≡ b.step.queries
  pub timing : a.step.timing ≡ b.step.timing
  pub answer : a.answer ≡ b.answer
  pub answers : answers_in a.step.state.counters ≡ answers_in step.state.counters

-- the same step from a state whose answers aren't counted
abbrev pub unanswered_step : Step → Step
unanswered_step step = record { state = unanswered step.state; queries = step.queries; timing = step.timing }

outcomes_alike : (step : Step) (outcomes : Outcomes) → Alike step (with_outcomes step outcomes) (with_outcomes (unanswered_step step) outcomes)
unfolding quiet
outcomes_alike step outcomes = record {
  state = ap (λ c. record { groups = outcomes.groups; election = step.state.election; last = step.state.last; counters = c })
      (verdicts_quiet outcomes.verdicts step.state.counters);
  queries = refl;
  timing = refl;
  answer = refl;
  answers = verdicts_answers outcomes.verdicts step.state.counters;
}

taken_alike : (config : Configuration) (envelope : Envelope) (message : Message ℕ) (step : Step)
    → Alike step (taken_in config envelope message step) (taken_in config envelope message (unanswered_step step))
unfolding taken_in
taken_alike config envelope (QueryMessage query) step = record { state = refl; queries = refl; timing = refl; answer = refl; answers = refl }
taken_alike config envelope (OldReport version group) step =
    outcomes_alike step (alone (stated_alone (setting_of config step.state) group (OlderJoin version) step.state.groups))
taken_alike config envelope (LeaveMessage group) step =
    outcomes_alike step (alone (stated_alone (setting_of config step.state) group OlderLeave step.state.groups))
taken_alike config envelope (ReportMessage records) step = outcomes_alike step (all_judged (setting_of config step.state) map.empty records step.state.groups)

decided_alike : (config : Configuration) (envelope : Envelope) (step : Step) (read : Result (Message ℕ) WireFault) (by : Option DropReason)
    → Alike step (taken_or_dropped config envelope step read by) (taken_or_dropped config envelope (unanswered_step step) read by)
decided_alike config envelope step (Ok message) None =
    let taken = taken_alike config envelope message (counting_read (Ok message) step) in
    record { state = taken.state; queries = taken.queries; timing = taken.timing; answer = taken.answer; answers = taken.answers }
decided_alike config envelope step (Ok message) (Some reason) = record { state = refl; queries = refl; timing = refl; answer = refl; answers = refl }
decided_alike config envelope step (Err fault) None = record { state = refl; queries = refl; timing = refl; answer = refl; answers = refl }
decided_alike config envelope step (Err fault) (Some reason) = record { state = refl; queries = refl; timing = refl; answer = refl; answers = refl }

-- An event does the same in two states, but for sent and unsent.
pub record StepsAlike (config : Configuration) (event : Event) (a b : LinkState) : Type 0 where
  pub state : unanswered (step_of config event a).state ≡ unanswered (step_of config event b).state
  pub queries : (step_of config event a).queries ≡ (step_of config event b).queries
  pub timing : (step_of config event a).timing ≡ (step_of config event b).timing
  pub answer : answer_to config event a ≡ answer_to config event b

alike_step : (config : Configuration) (event : Event) (state : LinkState)
    → StepsAlike config event state (unanswered state) × (answers_in (step_of config event state).state.counters ≡ answers_in state.counters)
alike_step config (Tick now) state = (record { state = refl; queries = refl; timing = refl; answer = refl }, refl)
alike_step config (Datagram envelope bytes now) state =
    let read = read_of config.family (pseudo_of config.family envelope bytes) bytes in
    let h = decided_alike config envelope (tick_of config now state) read (drop_reason config envelope read) in
    (record { state = h.state; queries = h.queries; timing = h.timing; answer = ap Some h.answer }, h.answers)

-- So two states that differ in sent and unsent alone do the same.
pub same_step : (config : Configuration) (event : Event) (a b : LinkState) → unanswered a ≡ unanswered b → StepsAlike config event a b
same_step config event a b is =
    let x = (alike_step config event a).0 in
    let y = (alike_step config event b).0 in
    record {
      state = x.state ∙ ap (λ s. unanswered (step_of config event s).state) is ∙ sym y.state;
      queries = x.queries ∙ ap (λ s. (step_of config event s).queries) is ∙ sym y.queries;
      timing = x.timing ∙ ap (λ s. (step_of config event s).timing) is ∙ sym y.timing;
      answer = x.answer ∙ ap (λ s. answer_to config event s) is ∙ sym y.answer;
    }

-- So sent and unsent together grow by the number of queries handed out, as far as a u64 has room.
added : (sent unsent a b : ℕ) → counted_on (counted_on sent a) (counted_on unsent b) ≡ counted_on (counted_on sent unsent) (a + b)
added sent unsent a b = omega arith

together_after : (config : Configuration) (before : LinkState) (h : Happening) → Happens config before h
    → counted_on h.after.counters.sent h.after.counters.unsent ≡ counted_on (counted_on before.counters.sent before.counters.unsent) (length h.messages)
together_after config before h is =
    ap (λ (s : LinkState). counted_on s.counters.sent s.counters.unsent) is.hands_out.leaves
    ∙ ap (λ (n : ℕ × ℕ). counted_on (counted_on n.0 (count_by (λ b. b) h.answers)) (counted_on n.1 (count_by not h.answers)))
    (alike_step config h.event before).1 ∙ added before.counters.sent before.counters.unsent (count_by (λ b. b) h.answers) (count_by not h.answers)
    ∙ ap (counted_on (counted_on before.counters.sent before.counters.unsent)) (two_answers h.answers ∙ is.hands_out.answered_each)

first_event : (x y : Event) (xs ys : List Event) → x ∷ xs ≡ y ∷ ys → x ≡ y
first_event x y xs ys same = cc

later_events : (x y : Event) (xs ys : List Event) → x ∷ xs ≡ y ∷ ys → xs ≡ ys
later_events x y xs ys same = cc

happens_alike : (config : Configuration) (s t : LinkState) (x y : Happening) → DifferInAnswers s t → x.event ≡ y.event → Happens config s x → Happens config t y
    → HappensAlike x y
happens_alike config s t x y agree event hx hy =
    let same = same_step config x.event s t agree.state in
    let messages : x.messages ≡ y.messages = hx.hands_out.handed ∙ (λ i. list_map (outgoing config (same.timing i)) (same.queries i)) ∙
    ap (λ e. outgoing_of config (step_of config e t)) event ∙ sym hy.hands_out.handed in
    record {
      event = event;
      answer = hx.answer_is ∙ same.answer ∙ ap (λ e. answer_to config e t) event ∙ sym hy.answer_is;
      messages = messages;
      after = record {
        state = ap unanswered hx.hands_out.leaves ∙ same.state ∙ ap (λ e. unanswered (step_of config e t).state) event ∙
            sym (ap unanswered hy.hands_out.leaves);
        together = together_after config s x hx ∙ (λ i. counted_on (agree.together i) (length (messages i))) ∙ sym (together_after config t y hy);
      };
    }

-- Two runs of the same events, from states that differ in sent and unsent alone.
pub runs_alike : (config : Configuration) (s t : LinkState) (a b : List Happening) → DifferInAnswers s t → RunFrom config s a → RunFrom config t b
    → events_alone a ≡ events_alone b → HappenAlike a b
runs_alike config s t [] [] agree ha hb same = tt
runs_alike config s t (x ∷ a) (y ∷ b) agree ha hb same =
    let event = first_event x.event y.event (events_alone a) (events_alone b) same in
    let later = later_events x.event y.event (events_alone a) (events_alone b) same in
    let here = happens_alike config s t x y agree event ha.0 hb.0 in
    (here, runs_alike config x.after y.after a b here.after ha.1 hb.1 later)
runs_alike config s t _ _ agree ha hb same = cc
