use Rattle.mq_laws.proofs.Common.{◌≡◌, ℕ, ◌&&◌, Bool, true, false, List, [], ◌∷◌, refl, ap, sym, ◌∙◌, and_from, eq-eqb, AllGroups, Group, Source, Finding}
use Rattle.mq_laws.proofs.Common.{Differs, all_reported, has_values, is_left_out, no_differences, repeats, reported}
use Rattle.mq_laws.proofs.Common.{with_finding, with_values, Difference, LastDifferences}
use Rattle.mq_check.specs.declared.finding.Difference.TheVariants.{Version, Response, Robustness, QueryInterval}
use Rattle.mq_check.specs.{declared.repeated.LastOfKind.LastOfKind, Repeated.unless}
use Rattle.mq_laws.specs.Reports.{is_of_variable, may_be_left_out, others_in}
use Rattle.mq_laws.proofs.checks.only_repeated_differences_are_left_out.Goals as goal

none_without : (b : Bool) → b && false ≡ false
none_without true = refl
none_without false = refl

all : (last : LastDifferences) (found : List (Finding ℕ)) → reported false last found ≡ found
all last [] = refl
all last (f ∷ fs) =
    ap (λ (b : Bool). unless b f (reported false (with_finding f last) fs)) (none_without (repeats f last)) ∙
    ap (λ (l : List (Finding ℕ)). f ∷ l) (all (with_finding f last) fs)

pub returns-clause-all : goal.returns-clause-all
returns-clause-all c = all

-- a difference that is none of a variable is never repeated
never_has : (difference : Difference ℕ) (last : LastOfKind) → is_of_variable difference ≡ false → has_values difference last ≡ false
never_has (Response seen wanted) last none = cc
never_has (Robustness seen wanted) last none = cc
never_has (QueryInterval seen wanted) last none = cc
never_has _ last none = refl

never_repeats : (f : Finding ℕ) (last : LastDifferences) → may_be_left_out f ≡ false → repeats f last ≡ false
never_repeats (Differs moment packet AllGroups difference) last none = never_has difference last.general none
never_repeats (Differs moment packet (Group group) difference) last none = never_has difference last.specific none
never_repeats (Differs moment packet (Source group source) difference) last none = never_has difference last.specific none
never_repeats _ last none = refl

-- one finding, left out or not, is one of the others or isn't
one_more : (b : Bool) (f : Finding ℕ) (fs : List (Finding ℕ)) → may_be_left_out f ≡ true → others_in (unless b f fs) ≡ others_in fs
one_more true f fs is = refl
one_more false f fs is = rw is refl

others : (once : Bool) (last : LastDifferences) (found : List (Finding ℕ)) → others_in (reported once last found) ≡ others_in found
others once last [] = refl
others once last (f ∷ fs) =
    let rest = others once (with_finding f last) fs in
    elim (may_be_left_out f) as (λ b. may_be_left_out f ≡ b → others_in (reported once last (f ∷ fs)) ≡ others_in (f ∷ fs)) [
      | true ↦ λ is. one_more (is_left_out once last f) f (reported once (with_finding f last) fs) is ∙ rest ∙ (rw is refl)
      | false ↦ λ is.
          let never : is_left_out once last f ≡ false = ap (λ (b : Bool). b && once) (never_repeats f last is) in
          ap (λ (b : Bool). others_in (unless b f (reported once (with_finding f last) fs))) never ∙ (rw is (ap (λ (l : List (Finding ℕ)). f ∷ l) rest))
    ] refl

pub returns-clause-others : goal.returns-clause-others
returns-clause-others c = others

-- the first finding repeats none
first_has : (difference : Difference ℕ) → has_values difference no_differences.general ≡ false
first_has (Version seen wanted) = refl
first_has _ = refl

first_is_new : (f : Finding ℕ) → repeats f no_differences ≡ false
first_is_new (Differs moment packet AllGroups difference) = first_has difference
first_is_new (Differs moment packet (Group group) difference) = first_has difference
first_is_new (Differs moment packet (Source group source) difference) = first_has difference
first_is_new _ = refl

none : (once : Bool) (found : List (Finding ℕ)) → reported once no_differences found ≡ [] → found ≡ []
none once [] is = refl
none once (f ∷ fs) is =
    let first : reported once no_differences (f ∷ fs) ≡ f ∷ reported once (with_finding f no_differences) fs =
    ap (λ (b : Bool). unless (b && once) f (reported once (with_finding f no_differences) fs)) (first_is_new f) in
    absurd (let two = sym first ∙ is in cc)

pub returns-clause-none : goal.returns-clause-none
returns-clause-none c additions found = (none additions.once found, λ is. ap (all_reported additions) is)

same_values : (difference : Difference ℕ) (last : LastOfKind) → is_of_variable difference ≡ true → has_values difference (with_values difference last) ≡ true
same_values (Response seen wanted) last is = and_from _ _ (eq-eqb seen seen refl) (eq-eqb wanted wanted refl)
same_values (Robustness seen wanted) last is = and_from _ _ (eq-eqb seen seen refl) (eq-eqb wanted wanted refl)
same_values (QueryInterval seen wanted) last is = and_from _ _ (eq-eqb seen seen refl) (eq-eqb wanted wanted refl)
same_values _ last is = cc

pub returns-clause-repeated : goal.returns-clause-repeated
returns-clause-repeated c moment packet moment' packet' AllGroups difference last is = same_values difference last.general is
returns-clause-repeated c moment packet moment' packet' _ difference last is = same_values difference last.specific is
