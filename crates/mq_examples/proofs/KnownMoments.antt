-- The next moment of a link whose groups are known, and what it forwards, for the worked examples.
use Rattle.mq_examples.proofs.Common.{◌≡◌, ℕ, Bool, refl, List, [], ◌∷◌, ◌++◌, Some, ap, ◌∙◌, list_map, option_to_list, flat_map, find, nat_cmp, nat_cmp_total}
use Rattle.mq_examples.proofs.Common.{SourceTimer, group_deadline, deadline_of, wants, forwards_in, ScheduledGroup, group_due, next_moment, forwards, those_of}
use Rattle.mq_examples.proofs.Common.{moments_of, moments_in, least, next_of, NextIs, Forwards, Entries, ordered, entries-known, with_values}
use Rattle.mq_examples.proofs.Common.{ordered-with_values}
use Rattle.mq_examples.proofs.{KnownGroups.Known, KnownGroups.as_held, KnownRecords.group_in, KnownRecords.group-known}
use Rattle.mq_examples.proofs.KnownLinks.{KnownGroups, as_groups, KnownLink, as_link}
use Rattle.std.specs.FinMap as map

abbrev values_in : {X : Type 0} → Entries X → List X
values_in es = list_map (λ (e : ℕ × _). e.1) (ordered es)

abbrev moments_by : Known → List SourceTimer → List ℕ
moments_by k timers =
    those_of (group_deadline k.mode ∷ k.v1 ∷ k.v2 ∷ group_due k.schedule.group_query ∷ k.schedule.sources_due ∷ [])
    ++ flat_map (λ timer. option_to_list (deadline_of (Some timer))) timers

abbrev pub moments_known : Known → List ℕ
moments_known k = moments_by k (values_in k.sources)

same_moments : (k : Known) → moments_of (as_held k) ≡ moments_known k
same_moments k = ap (λ es. moments_by k (list_map (λ (e : ℕ × SourceTimer). e.1) es)) (entries-known k.sources)

abbrev pub next_in : KnownLink → ℕ
next_in l = least (next_moment l.election.role) (flat_map moments_known (values_in l.groups))

next-known : (l : KnownLink) → next_of (as_link l) ≡ next_in l
next-known l = ap (least (next_moment l.election.role)) (in_groups l.groups)
  where
    each : (es : KnownGroups) → flat_map moments_of (list_map (λ (e : ℕ × ScheduledGroup). e.1) (with_values as_held es))
        ≡ flat_map moments_known (list_map (λ (e : ℕ × Known). e.1) es)
    each [] = refl
    each (e ∷ es) = λ i. same_moments e.1 i ++ each es i

    in_groups : (gs : KnownGroups) → moments_in (as_groups gs) ≡ flat_map moments_known (values_in gs)
    in_groups gs =
        ap (λ es. flat_map moments_of (list_map (λ (e : ℕ × ScheduledGroup). e.1) es)) (entries-known (with_values as_held gs) ∙ ordered-with_values as_held gs)
        ∙ each (ordered gs)

forwards-known : (l : KnownLink) (group source : ℕ) →
    (let k = group_in l.groups group in forwards (as_link l) group source ≡ wants k.mode (find nat_cmp source k.sources))
forwards-known l group source =
    let k = group_in l.groups group in
    ap (λ e. forwards_in e.group source) (group-known l.groups group) ∙ ap (wants k.mode) (map.get-from_entries nat_cmp_total k.sources source)

-- the lemmas for examples
pub next_is : (l : KnownLink) (moment : ℕ) → next_in l ≡ moment → NextIs l moment
next_is l moment is = record { next = next-known l ∙ is }

pub forwards_so : (l : KnownLink) (group source : ℕ) (answer : Bool) →
    (let k = group_in l.groups group in wants k.mode (find nat_cmp source k.sources) ≡ answer) → Forwards l group source answer
forwards_so l group source answer is = record { forwarded = forwards-known l group source ∙ is }
