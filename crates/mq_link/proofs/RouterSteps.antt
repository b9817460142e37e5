-- Steps of a router leave sound groups, and what is counted is counted of what there was.
use Rattle.mq_link.proofs.Common.{◌≡◌, ℕ, true, ap, ◌∙◌, sym, subst, Query, AreInRange, Counters, announced_by, election_after, groups_heard, query_heard}
use Rattle.mq_link.proofs.Common.{Setting, RouterValue, state_of, AreSound, Groups, WorkspaceState, suffices}
use Rattle.mq_link.proofs.{LinkStored.well_formed_at, Receipts.sound_in, Ticked.IsCarriedBy, Ticked.IsWellFormed-query_heard}

-- a workspace that suffices for a router suffices for what is inside
pub enough_inside : {inside value : RouterValue} {w lent : WorkspaceState} → inside ≡ value → w ≡ lent → suffices value.at.config.room lent ≡ true →
    suffices inside.at.config.room w ≡ true
enough_inside is lent_is enough = (λ i. suffices (is i).at.config.room (lent_is i)) ∙ enough

-- counters that are changed by a rule
pub recounted_by : (rule : Counters → Counters) (inside value : RouterValue) (next : Counters) → inside ≡ value → next ≡ rule inside.counters
    → ◌≡◌ {A = RouterValue} (record inside { counters = next }) (record value { counters = rule value.counters })
recounted_by rule inside value next is counted =
    let next_is = counted ∙ ap (λ (r : RouterValue). rule r.counters) is in
    λ i. record (is i) { counters = next_is i }

-- the groups are sound once a query has been heard
pub sound_heard : (r : RouterValue) (source : ℕ) (query : Query ℕ) (next : Setting) (left : Groups) → AreInRange r.at.config.timing →
    IsCarriedBy (announced_by query.version) → AreInRange r.at.election.timing → AreSound r.at r.groups
    → next ≡ record r.at { election = election_after r.at.config r.at.now source query.version r.at.election }
    → left ≡ groups_heard r.at.config r.at.now source query r.at.election r.groups → AreSound next left
sound_heard r source query next left own carried in_force sound next_is left_is =
    let heard = query_heard r.at.config r.at.now source query (state_of r) in
    let after : Setting = record r.at { election = heard.election } in
    let there : AreSound after heard.groups =
    sound_in r.at.config heard (IsWellFormed-query_heard r.at.config r.at.now source query (state_of r) own carried (well_formed_at r sound in_force)) in
    subst (λ (s : Setting). AreSound s left) (sym next_is) (subst (AreSound after) (sym left_is) there)
