-- The due queries of a moment that a sender has taken.
use Rattle.mq_link.proofs.Common.{◌≡◌, ℕ, Bool, cond, [], ◌∷◌, ◌++◌, sym, subst, Family, Timing, ElectionState, ticked, general_messages, SentQuery}
use Rattle.mq_link.proofs.Common.{GeneralQuery, Sends, Sends-append, Sender, Configuration, TakesQuery, begun, Outgoing, Groups, groups_expired, queries_due}

pub due_sent : {F O K E : Type 0} (takes : O → Outgoing → Bool → O → Type 0) (family : Family) (config : Configuration) (now : ℕ)
    (before : ElectionState) (groups : Groups) (timing : Timing) (old first between new : Sender F O K E) (is_due : Bool)
    → timing ≡ (ticked config.timing now before).timing → first ≡ begun config timing old
    → general_messages config.timing now before ≡ cond is_due (GeneralQuery ∷ []) []
    → Sends (TakesQuery takes family) first (cond is_due (GeneralQuery ∷ []) []) between
    → Sends (TakesQuery takes family) between (queries_due family timing now (groups_expired now groups)) new
    → Sends (TakesQuery takes family) (begun config (ticked config.timing now before).timing old)
    (general_messages config.timing now before ++ queries_due family (ticked config.timing now before).timing now (groups_expired now groups)) new
due_sent {F = F} {O = O} {K = K} {E = E} takes family config now before groups timing old first between new is_due in_force begun_is general_is
    sent_first sent_then =
    let T : Sender F O K E → SentQuery → Sender F O K E → Type 0 = TakesQuery takes family in
    let ended = groups_expired now groups in
    let from : Sends T (begun config timing old) (general_messages config.timing now before) between =
    subst (λ s. Sends T s (general_messages config.timing now before) between) begun_is (subst (λ qs. Sends T first qs between) (sym general_is) sent_first)
    in
    let all = Sends-append T (begun config timing old) between new (general_messages config.timing now before)
    (queries_due family timing now ended) from sent_then in
    subst (λ (t : Timing). Sends T (begun config t old) (general_messages config.timing now before ++ queries_due family t now ended) new) in_force all
