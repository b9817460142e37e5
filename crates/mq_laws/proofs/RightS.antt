-- Queries whose fields are alike, and that have the same S.
use Rattle.mq_laws.proofs.Common.{◌≡◌, Bool, true, false, List, [], ◌∷◌, ◌++◌, refl, ap, difference_if, fields_differ, is_unlike, queriers_differ}
use Rattle.mq_laws.proofs.Common.{responses_differ, terms_differ, Terms, ℕ, Option, Some, ◌==◌, not, Difference, QuerierTerms}
use Rattle.mq_check.specs.Entries.{is_suppressed, with_s_of, with_suppress}
use Rattle.mq_check.specs.declared.finding.Difference.TheVariants as field

-- nothing differs in either part if nothing differs in both
pub none_before : (xs ys : List (Difference ℕ)) → xs ++ ys ≡ [] → xs ≡ []
none_before [] ys none = refl
none_before (x ∷ xs) ys none = absurd (cc)

pub none_after : (xs ys : List (Difference ℕ)) → xs ++ ys ≡ [] → ys ≡ []
none_after [] ys none = none
none_after (x ∷ xs) ys none = absurd (cc)

like_itself : (s : Bool) → is_unlike s s ≡ false
like_itself true = refl
like_itself false = refl

fields_alike : (seen wanted : QuerierTerms) → fields_differ seen wanted ≡ [] → fields_differ seen (record wanted { suppress = seen.suppress }) ≡ []
fields_alike seen wanted alike =
    let s = difference_if (is_unlike seen.suppress wanted.suppress) (field.Suppress seen.suppress wanted.suppress) in
    let qrv = difference_if (not (seen.robustness == wanted.robustness)) (field.Robustness seen.robustness wanted.robustness) in
    let interval = difference_if (not (seen.interval == wanted.interval)) (field.QueryInterval seen.interval wanted.interval) in
    let first : qrv ≡ [] = none_after s qrv (none_before (s ++ qrv) interval alike) in
    let last : interval ≡ [] = none_after (s ++ qrv) interval alike in
    λ i. (ap (λ (b : Bool). difference_if b (field.Suppress seen.suppress seen.suppress)) (like_itself seen.suppress) i ++ first i) ++ last i

queriers_alike : (seen wanted : Option QuerierTerms) → queriers_differ seen wanted ≡ [] →
    queriers_differ seen (with_suppress (is_suppressed seen) wanted) ≡ []
queriers_alike (Some seen) (Some wanted) alike = fields_alike seen wanted alike
queriers_alike _ _ alike = refl

pub alike_with_s : (seen wanted : Terms ℕ) → terms_differ seen wanted ≡ [] → terms_differ seen (with_s_of seen wanted) ≡ []
alike_with_s seen wanted alike =
    let version = difference_if (not (seen.version == wanted.version)) (field.Version seen.version wanted.version) in
    let response = responses_differ seen.response wanted.response in
    let queriers = queriers_differ seen.querier wanted.querier in
    let to = difference_if (not (seen.to == wanted.to)) (field.Destination seen.to wanted.to) in
    let three : (version ++ response) ++ queriers ≡ [] = none_before ((version ++ response) ++ queriers) to alike in
    let two : version ++ response ≡ [] = none_before (version ++ response) queriers three in
    let one : queriers ≡ [] = none_after (version ++ response) queriers three in
    let last : to ≡ [] = none_after ((version ++ response) ++ queriers) to alike in
    λ i. (two i ++ queriers_alike seen.querier wanted.querier one i) ++ last i
