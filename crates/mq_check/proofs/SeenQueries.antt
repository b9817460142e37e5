-- A query that was seen, in the terms of the code.
use Rattle.mq_check.proofs.Common.{◌≡◌, ℕ, Bool, true, false, if◌then◌else◌, ap, sym, ◌∙◌, Query, Family, Timing, Configuration, Terms, CheckingValue}
use Rattle.mq_check.proofs.Common.{query_came, general_terms, terms_of, standing_in}
use Rattle.mq_check.specs.{Checking.general_seen, Checking.specific_seen, Queries.asked_in, Queries.is_general}
use Rattle.mq_link.specs.State.{LinkState}

-- one of two, by whether it is general
abbrev by_kind : CheckingValue → CheckingValue → Bool → CheckingValue
by_kind x y b = if b then x else y

pub general_came : (within : ℕ) (config : Configuration) (link : LinkState) (configured : Timing) (moment packet to : ℕ) (query : Query ℕ)
    (terms wanted : Terms ℕ) (c new : CheckingValue) → is_general query ≡ true → terms ≡ terms_of config.family packet to query
    → wanted ≡ general_terms config link.election.timing → configured ≡ config.timing → new ≡ general_seen within configured moment terms wanted c →
    new ≡ query_came within config link moment packet to query c
unfolding query_came
general_came within config link configured moment packet to query terms wanted c new general is_terms is_wanted is_configured is =
    let x = general_seen within config.timing moment (terms_of config.family packet to query) (general_terms config link.election.timing) c in
    let y = specific_seen moment (terms_of config.family packet to query)
    (standing_in config.family link.groups link.election.timing moment) (asked_in query) c in
    is ∙ (λ i. general_seen within (is_configured i) moment (is_terms i) (is_wanted i) c) ∙ ap (by_kind x y) (sym general)

pub specific_came : (within : ℕ) (config : Configuration) (link : LinkState) (moment m packet to : ℕ) (query : Query ℕ) (family : Family)
    (terms : Terms ℕ) (c new : CheckingValue) → is_general query ≡ false → family ≡ config.family → terms ≡ terms_of config.family packet to query
    → m ≡ moment → new ≡ specific_seen m terms (standing_in family link.groups link.election.timing m) (asked_in query) c
    → new ≡ query_came within config link moment packet to query c
unfolding query_came
specific_came within config link moment m packet to query family terms c new other is_family is_terms is_moment is =
    let x = general_seen within config.timing moment (terms_of config.family packet to query) (general_terms config link.election.timing) c in
    let y = specific_seen moment (terms_of config.family packet to query)
    (standing_in config.family link.groups link.election.timing moment) (asked_in query) c in
    is ∙ (λ i. specific_seen (is_moment i) (is_terms i) (standing_in (is_family i) link.groups link.election.timing (is_moment i)) (asked_in query) c)
    ∙ ap (by_kind x y) (sym other)
