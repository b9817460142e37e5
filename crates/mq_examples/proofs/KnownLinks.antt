-- The effect of ticks and datagrams on links whose groups are known one by one, for the worked examples.
use Rattle.mq_examples.proofs.Common.{◌≡◌, ℕ, refl, List, [], ◌∷◌, ◌++◌, Some, ap, ◌∙◌, max, flat_map, Family, Timing, ScheduledGroup, SentQuery, messages_due}
use Rattle.mq_examples.proofs.Common.{ElectionState, ticked, general_messages, per_query, Groups, Configuration, Step, group_expired, if_held, tick_of, ordered}
use Rattle.mq_examples.proofs.Common.{entries-known, kept_in, kept_as, with_values, ordered-with_values}
use Rattle.mq_link.specs.Tick.{groups_expired, queries_due, groups_after_round}
use Rattle.mq_examples.proofs.KnownGroups.{Known, as_held, expired_in, expired-known}
use Rattle.mq_examples.proofs.KnownSendings.{sent_in, sent-known, round_in, round-known}
pub use Rattle.mq_examples.specs.Links.{ListedGroups as KnownGroups, as_groups, ListedLink as KnownLink, as_link}

-- a tick
pub groups_expired-known : (now : ℕ) (gs : KnownGroups) → groups_expired now (as_groups gs) ≡ as_groups (kept_in (λ _. expired_in now) gs)
unfolding groups_expired
groups_expired-known now gs = kept_as as_held (λ _ e. if_held (group_expired now e)) (λ _. expired_in now) (λ _. expired-known now) gs

pub groups_after_round-known : (timing : Timing) (now : ℕ) (gs : KnownGroups) → groups_after_round timing now (as_groups gs)
    ≡ as_groups (kept_in (λ _ k. Some (round_in timing now k)) gs)
unfolding groups_after_round
groups_after_round-known timing now gs = kept_as as_held _ (λ _ k. Some (round_in timing now k)) (λ _ k. ap Some (round-known timing now k)) gs

abbrev pub sent_from : Family → Timing → ℕ → KnownGroups → List SentQuery
sent_from family timing now gs = flat_map (λ (e : ℕ × Known). sent_in (per_query family) timing now e.0 e.1) (ordered gs)

pub queries_due-known : (family : Family) (timing : Timing) (now : ℕ) (gs : KnownGroups) → queries_due family timing now (as_groups gs)
    ≡ sent_from family timing now gs
unfolding queries_due
queries_due-known family timing now gs =
    ap (flat_map (λ (e : ℕ × ScheduledGroup). messages_due (per_query family) timing now e.0 e.1))
    (entries-known (with_values as_held gs) ∙ ordered-with_values as_held gs) ∙ each (ordered gs)
  where
    each : (es : KnownGroups) → flat_map (λ (e : ℕ × ScheduledGroup). messages_due (per_query family) timing now e.0 e.1) (with_values as_held es)
        ≡ flat_map (λ (e : ℕ × Known). sent_in (per_query family) timing now e.0 e.1) es
    each [] = refl
    each (e ∷ es) = λ i. sent-known (per_query family) timing now e.0 e.1 i ++ each es i

pub record KnownStep : Type 0 where
  pub link : KnownLink
  pub queries : List SentQuery
  pub timing : Timing

abbrev pub as_step : KnownStep → Step
as_step s = record { state = as_link s.link; queries = s.queries; timing = s.timing }

abbrev pub tick_in : Configuration → ℕ → KnownLink → KnownStep
tick_in config now l =
    let moment = max l.last now in
    let groups = kept_in (λ _. expired_in moment) l.groups in
    let election = ticked config.timing moment l.election in
    record {
      link = record {
        groups = kept_in (λ _ k. Some (round_in election.timing moment k)) groups;
        election = election;
        last = moment;
        counters = l.counters;
      };
      queries = general_messages config.timing moment l.election ++ sent_from config.family election.timing moment groups;
      timing = election.timing;
    }

pub tick-known : (config : Configuration) (now : ℕ) (l : KnownLink) → tick_of config now (as_link l) ≡ as_step (tick_in config now l)
tick-known config now l =
    ap (λ groups. stepped (groups_after_round election.timing moment groups) (queries_due config.family election.timing moment groups))
    (groups_expired-known moment l.groups)
    ∙ (λ i. stepped (groups_after_round-known election.timing moment (kept_in (λ _. expired_in moment) l.groups) i)
    (queries_due-known config.family election.timing moment (kept_in (λ _. expired_in moment) l.groups) i))
  where
    moment : ℕ
    moment = max l.last now

    election : ElectionState
    election = ticked config.timing moment l.election

    stepped : Groups → List SentQuery → Step
    stepped groups queries = record {
      state = record { groups = groups; election = election; last = moment; counters = l.counters };
      queries = general_messages config.timing moment l.election ++ queries;
      timing = election.timing;
    }
