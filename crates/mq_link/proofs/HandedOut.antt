-- The datagrams of a step, by those that a sender has taken.
use Rattle.mq_link.proofs.Common.{◌≡◌, ℕ, Bool, not, refl, suc, List, [], ◌∷◌, length, sym, ap, ◌∙◌, subst, list_map, count_by, counted_on, Family, AllFit}
use Rattle.mq_link.proofs.Common.{Sends, Sender, Configuration, Counters, per_query, HandsOver, Terms, outgoing_on, answered, HandsOut, TakesQuery, begun}
use Rattle.mq_link.proofs.Common.{Outgoing, outgoing_of, LinkState, Step}
use Rattle.mq_link.proofs.HandedOver.{handed_all, counted_from_none}

-- each message has been answered
answered_each : {O : Type 0} (takes : O → Outgoing → Bool → O → Type 0) (old : O) (messages : List Outgoing) (answers : List Bool) (new : O) →
    HandsOver takes old messages answers new → length answers ≡ length messages
answered_each takes old [] [] new h = refl
answered_each takes old [] (answer ∷ answers) new h = absurd h
answered_each takes old (message ∷ messages) [] new h = absurd h
answered_each takes old (message ∷ messages) (answer ∷ answers) new h = ap suc (answered_each takes h.0 messages answers new h.2)

-- the counters after the answers
abbrev pub with_answers : Counters → (sent unsent : ℕ) → Counters
with_answers c sent unsent = record c { sent = counted_on c.sent sent; unsent = counted_on c.unsent unsent }

-- a step with the datagrams and answers of its outlet
pub record IsHanded {O : Type 0} (takes : O → Outgoing → Bool → O → Type 0) (config : Configuration) (step : Step) (after : LinkState)
    (old new : O) : Type 0 where
  pub messages : List Outgoing
  pub answers : List Bool
  pub hands_out : HandsOut config step messages answers after
  pub handed : HandsOver takes old messages answers new

pub is_handed : {F O K E : Type 0} (takes : O → Outgoing → Bool → O → Type 0) (family : Family) (config : Configuration) (step : Step)
    (after : LinkState) (old new : Sender F O K E)
    → config.family ≡ family → AllFit (per_query config.family) step.queries
    → Sends (TakesQuery takes family) (begun config step.timing old) step.queries new
    → after ≡ record step.state { counters = with_answers step.state.counters new.sent new.unsent }
    → IsHanded takes config step after old.outlet.now new.outlet.now
is_handed {F = F} {O = O} {K = K} {E = E} takes family config step after old new is_family fit sends leaves =
    let terms : Terms = record { own = config.own; timing = step.timing } in
    let all = handed_all takes family (begun config step.timing old) step.queries new (subst (λ f. AllFit (per_query f) step.queries) is_family fit) sends in
    let answers = all.answers in
    let c = step.state.counters in
    let handed : HandsOver takes old.outlet.now (outgoing_of config step) answers new.outlet.now =
    subst (λ f. HandsOver takes old.outlet.now (list_map (outgoing_on f terms) step.queries) answers new.outlet.now) (sym is_family) all.handed
    in
    let sent : counted_on c.sent new.sent ≡ counted_on c.sent (count_by (λ b. b) answers) = ap (counted_on c.sent) all.sent ∙
    counted_from_none c.sent (count_by (λ b. b) answers) in
    let unsent : counted_on c.unsent new.unsent ≡ counted_on c.unsent (count_by not answers) = ap (counted_on c.unsent) all.unsent ∙
    counted_from_none c.unsent (count_by not answers) in
    let counted : record step.state { counters = with_answers c new.sent new.unsent } ≡ answered answers step =
    λ i. record step.state { counters = record c { sent = sent i; unsent = unsent i } } in
    record {
      messages = outgoing_of config step;
      answers = answers;
      hands_out = record {
        handed = refl;
        answered_each =
            answered_each takes old.outlet.now (outgoing_of config step) answers new.outlet.now handed;
        leaves = leaves ∙ counted;
      };
      handed = handed;
    }
