-- The portions in which a round asks for its sources.
use Rattle.mq_laws.proofs.Common.{◌≡◌, ℕ, ◌<◌, Bool, true, false, cond, List, [], ◌∷◌, ◌++◌, length, refl, sym, ap, ◌∙◌, subst, concat, list_map, is_ahead}
use Rattle.mq_laws.proofs.Common.{group_deadline, lowered_to, has_retransmissions, above, ◌∩◌, ◌∖◌, SentQuery, GroupQuery, SourcesQuery, is_due}
use Rattle.mq_laws.proofs.Common.{group_due, sources_where, sources_queries, group_messages, source_messages, Round, queries_of, set_portions, clear_portions}
use Rattle.mq_laws.proofs.Common.{set_sources, clear_sources}
use Rattle.mq_sched.{proofs.InPortions.together, proofs.InPortions.full, specs.Portions.portions_of, specs.Portions.AllButLast}

-- the portions with S set, and those without
portions-append : (xs ys : List SentQuery)
    → (set_portions (xs ++ ys) ≡ set_portions xs ++ set_portions ys) × (clear_portions (xs ++ ys) ≡ clear_portions xs ++ clear_portions ys)
portions-append [] ys = (refl, refl)
portions-append (SourcesQuery g true ss ∷ xs) ys = let rest = portions-append xs ys in (ap (λ rest. ss ∷ rest) rest.0, rest.1)
portions-append (SourcesQuery g false ss ∷ xs) ys = let rest = portions-append xs ys in (rest.0, ap (λ rest. ss ∷ rest) rest.1)
portions-append (_ ∷ xs) ys = portions-append xs ys

portions-both : (group : ℕ) (set clear : List (List ℕ)) → (let both = list_map (SourcesQuery group true) set ++ list_map (SourcesQuery group false) clear in
    (set_portions both ≡ set) × (clear_portions both ≡ clear))
portions-both group [] [] = (refl, refl)
portions-both group [] (portion ∷ clear) = let rest = portions-both group [] clear in (rest.0, ap (λ rest. portion ∷ rest) rest.1)
portions-both group (portion ∷ set) clear = let rest = portions-both group set clear in (ap (λ rest. portion ∷ rest) rest.0, rest.1)

-- the portions of the sources of either flag, whether they are due or not
abbrev set_list : Round → List ℕ
set_list r = sources_where (has_retransmissions r.before.group ∩ above r.timing r.now r.before.group) r.before.group

abbrev clear_list : Round → List ℕ
clear_list r = sources_where (has_retransmissions r.before.group ∖ above r.timing r.now r.before.group) r.before.group

abbrev sources_due : Round → Bool
sources_due r = is_due r.now r.before.schedule.sources_due

abbrev group_part : Round → List SentQuery
group_part r = group_messages r.timing r.now r.address r.before

abbrev sources_part : Round → List SentQuery
sources_part r = source_messages r.per_query r.timing r.now r.address r.before

pub portions-of : (r : Round) → (set_portions (queries_of r) ≡ cond (sources_due r) (portions_of r.per_query (set_list r)) [])
    × (clear_portions (queries_of r) ≡ cond (sources_due r) (portions_of r.per_query (clear_list r)) [])
portions-of r =
    let parts = portions-append (group_part r) (sources_part r) in
    let first = of_group (is_due r.now (group_due r.before.schedule.group_query)) in
    let rest = of_sources (sources_due r) in
    (parts.0 ∙ (λ i. first.0 i ++ rest.0 i), parts.1 ∙ (λ i. first.1 i ++ rest.1 i))
  where
    of_group : (b : Bool) → (let sent = cond b (GroupQuery r.address (is_ahead (lowered_to r.timing r.now) (group_deadline r.before.group.mode)) ∷ []) [] in
        (set_portions sent ≡ []) × (clear_portions sent ≡ []))
    of_group true = (refl, refl)
    of_group false = (refl, refl)

    of_sources : (b : Bool)
        → (let sent = cond b (sources_queries r.per_query r.address true (set_list r) ++ sources_queries r.per_query r.address false (clear_list r)) [] in
        (set_portions sent ≡ cond b (portions_of r.per_query (set_list r)) []) × (clear_portions sent ≡ cond b (portions_of r.per_query (clear_list r)) []))
    of_sources true = portions-both r.address (portions_of r.per_query (set_list r)) (portions_of r.per_query (clear_list r))
    of_sources false = (refl, refl)

together_if : (n : ℕ) (b : Bool) (xs : List ℕ) → 0 < n → concat (cond b (portions_of n xs) []) ≡ cond b xs []
together_if n true xs positive = together n xs positive
together_if n false xs positive = refl

full_if : (n : ℕ) (b : Bool) (xs : List ℕ) → AllButLast (λ portion. length portion ≡ n) (cond b (portions_of n xs) [])
full_if n true xs = full n xs
full_if n false xs = tt

-- the portions with S set, put together, are the sources that go with S set
pub set_together : (r : Round) → 0 < r.per_query → concat (set_portions (queries_of r)) ≡ set_sources r
set_together r positive = ap concat (portions-of r).0 ∙ together_if r.per_query (sources_due r) (set_list r) positive

pub clear_together : (r : Round) → 0 < r.per_query → concat (clear_portions (queries_of r)) ≡ clear_sources r
clear_together r positive = ap concat (portions-of r).1 ∙ together_if r.per_query (sources_due r) (clear_list r) positive

-- and each but the last is full
pub set_full : (r : Round) → AllButLast (λ portion. length portion ≡ r.per_query) (set_portions (queries_of r))
set_full r = subst (AllButLast (λ portion. length portion ≡ r.per_query)) (sym (portions-of r).0) (full_if r.per_query (sources_due r) (set_list r))

pub clear_full : (r : Round) → AllButLast (λ portion. length portion ≡ r.per_query) (clear_portions (queries_of r))
clear_full r = subst (AllButLast (λ portion. length portion ≡ r.per_query)) (sym (portions-of r).1) (full_if r.per_query (sources_due r) (clear_list r))
