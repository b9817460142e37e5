-- The most sources of a group after a statement.
use Rattle.mq_link.proofs.Common.{◌≡◌, ℕ, ◌+◌, ◌≤◌, Bool, true, false, cond, ◌||◌, List, [], ◌∷◌, ◌++◌, Option, None, Some, IfSome, length, refl, sym, ap, ◌∙◌}
use Rattle.mq_link.proofs.Common.{subst, arith, length-append, list_map, option_map, nat_cmp, eq_by_cmp, nat_cmp_total, FinMap, length-map, list_any-append}
use Rattle.mq_link.proofs.Common.{OlderVersion, V1, V2, Kind, IsEx, ToIn, ToEx, Hosts, Timing, with_entry, entries_by, by_rule, GroupState, size_of, named_in}
use Rattle.mq_link.proofs.Common.{NamedSources, GroupChange, change_of, hosts_of, translated, older_host, find-entries_by, get-by_rule, StatementKind}
use Rattle.mq_link.proofs.Common.{statement_of, StatesJoin, StatesLeave, asking_nothing, change_stated}
use Rattle.std.specs.FinMap as map
use Rattle.std.specs.FinSet as set
use Rattle.mq_link.specs.declared.statement.StatementKind.TheVariants.{Record, OlderJoin, OlderLeave}
use Rattle.mq_link.proofs.TranslatedRecords.{of_translated}

few_entries : {X : Type 0} (es : List (ℕ × X)) → map.len (map.from_entries {R = nat_cmp} es) ≤ length es
few_entries {X} [] = let n = map.len-empty nat_cmp X in omega arith
few_entries {X} (e ∷ es) =
    let most = at_most (map.contains_key (map.from_entries es) e.0) (map.len-insert nat_cmp_total (map.from_entries es) e.0 e.1) (few_entries es) in
    omega (arith, most)
  where
    at_most : (b : Bool) {n m k : ℕ} → n ≡ cond b m (m + 1) → m ≤ k → n ≤ k + 1
    at_most true is h = omega (arith, is, h)
    at_most false is h = omega (arith, is, h)

few_by : {X : Type 0} (rule : ℕ → Option X) (ks : List ℕ) → length (entries_by rule ks) ≤ length ks
few_by rule [] = omega arith
few_by {X} rule (k ∷ ks) = with_one (rule k) (few_by rule ks)
  where
    with_one : (x : Option X) → length (entries_by rule ks) ≤ length ks → length (with_entry k x (entries_by rule ks)) ≤ length (k ∷ ks)
    with_one None rest = omega arith
    with_one (Some x) rest = omega arith

by_list : {X : Type 0} (old : FinMap nat_cmp X) (xs : List ℕ) (rule : ℕ → Option X) → by_rule old (set.from_list xs) rule
    ≡ map.from_entries (entries_by rule (map.keys old ++ xs))
by_list old xs rule = map.same_map nat_cmp_total map.nat_cmp-IsAntisymmetric _ _ (λ q.
    get-by_rule old (set.from_list xs) rule q
    ∙ (λ i. cond (map.contains_key-keys old q i || set.contains-from_list nat_cmp_total xs q i) (rule q) None)
    ∙ sym (ap (λ b. cond b (rule q) None) (list_any-append (eq_by_cmp nat_cmp q) (map.keys old) xs))
    ∙ sym (find-entries_by rule (map.keys old ++ xs) q)
    ∙ sym (map.get-from_entries nat_cmp_total (entries_by rule (map.keys old ++ xs)) q))

few_by_rule : {X : Type 0} (old : FinMap nat_cmp X) (xs : List ℕ) (rule : ℕ → Option X) →
    map.len (by_rule old (set.from_list xs) rule) ≤ map.len old + length xs
few_by_rule old xs rule =
    let a = ap map.len (by_list old xs rule) in
    let b = few_entries (entries_by rule (map.keys old ++ xs)) in
    let c = few_by rule (map.keys old ++ xs) in
    let d = length-append (map.keys old) xs in
    let e = length-map (map.entries old) (λ x. x.0) in
    let f = map.len-entries old in
    omega (arith, a, b, c, d, e, f)

changed_few : (timing : Timing) (now : ℕ) (g : GroupState) (kind : Kind) (xs : List ℕ) →
    size_of (change_of timing now g kind (set.from_list xs)).group ≤ size_of g + length xs
changed_few timing now g kind xs = few_by_rule g.sources xs _

abbrev pub IsFew : GroupState → ℕ → Option GroupChange → Type 0
IsFew g n change = IfSome change (λ c. size_of c.group ≤ size_of g + n)

pub translated_few : (mutes muted : Bool) (timing : Timing) (now : ℕ) (g : GroupState) (kind : Kind) (xs : List ℕ) (hosts : Hosts) →
    IsFew g (length xs) (option_map (λ (r : Kind × NamedSources). change_of timing now g r.0 r.1) (translated mutes muted hosts kind (set.from_list xs)))
translated_few mutes muted timing now g kind xs hosts =
    let none = changed_few timing now g ToEx [] in
    of_translated (λ c. size_of c.group ≤ size_of g + length xs) mutes timing now g (set.from_list xs) (λ k. changed_few timing now g k xs)
    (omega (arith, none)) muted hosts kind

host_few : (version : OlderVersion) (timing : Timing) (now : ℕ) (g : GroupState) → size_of (older_host version timing now g) ≡ size_of g
host_few V1 timing now g = refl
host_few V2 timing now g = refl

pub stated_few : {K : Type 0} (number : K → ℕ) (mutes muted : Bool) (timing : Timing) (now : ℕ) (said : StatementKind) (addresses : List K)
    (g : GroupState) → IfSome (change_stated mutes muted timing now (statement_of said (named_in number addresses)) g)
    (λ c. size_of c.group ≤ size_of g + length addresses)
stated_few number mutes muted timing now (Record kind) addresses g =
    subst (λ n. IfSome (change_stated mutes muted timing now (statement_of (Record kind) (named_in number addresses)) g) (λ c. size_of c.group ≤ size_of g + n))
    (length-map addresses number)
    (translated_few mutes muted timing now g kind (list_map number addresses) (hosts_of g now))
stated_few number mutes muted timing now (OlderJoin version) addresses g = joined muted
  where
    joined : (b : Bool) → IfSome (cond b None (Some (asking_nothing (older_host version timing now (change_of timing now g IsEx set.empty).group))))
        (λ c. size_of c.group ≤ size_of g + length addresses)
    joined true = tt
    joined false = let a = host_few version timing now (change_of timing now g IsEx set.empty).group in let b = changed_few timing now g IsEx [] in
        omega (arith, a, b)
stated_few number mutes muted timing now OlderLeave addresses g = more _ (translated_few mutes muted timing now g ToIn [] (hosts_of g now))
  where
    more : (change : Option GroupChange) → IfSome change (λ c. size_of c.group ≤ size_of g + 0) →
        IfSome change (λ c. size_of c.group ≤ size_of g + length addresses)
    more None h = tt
    more (Some c) h = omega (arith, h)

-- an older message leaves its group no source more
pub joined_few : (mutes muted : Bool) (timing : Timing) (now : ℕ) (version : OlderVersion) (g : GroupState) →
    IfSome (change_stated mutes muted timing now (StatesJoin version) g) (λ c. size_of c.group ≤ size_of g + 0)
joined_few mutes muted timing now version g = stated_few (λ (n : ℕ). n) mutes muted timing now (OlderJoin version) [] g

pub left_few : (mutes muted : Bool) (timing : Timing) (now : ℕ) (g : GroupState) → IfSome (change_stated mutes muted timing now StatesLeave g)
    (λ c. size_of c.group ≤ size_of g + 0)
left_few mutes muted timing now g = stated_few (λ (n : ℕ). n) mutes muted timing now OlderLeave [] g
