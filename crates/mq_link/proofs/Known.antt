-- Finite maps whose entries are known one by one, for the worked examples.
use Rattle.mq_link.proofs.Common.{◌≡◌, ℕ, Bool, true, false, cond, not, ◌||◌, refl, List, [], ◌∷◌, ◌++◌, length, Option, None, Some, sym, ap, ◌∙◌, arith}
use Rattle.mq_link.proofs.Common.{list_map, T, list_any, list_any-append, nat_cmp, eq_by_cmp, nat_cmp_total, FinMap, find, put, is_sorted}
use Rattle.mq_link.proofs.Common.{nat_cmp-IsAntisymmetric, where_key, find-put, find-where_key, is_sorted-put, is_some-find, by_order, with_entry, entries_by}
use Rattle.mq_link.proofs.Common.{by_rule, kept, get-by_rule, get-kept, find-entries_by}
use Rattle.std.specs.Option.{option_map, option_and_then, is_some}
use Rattle.std.proofs.lemmas.Cmp.{eq_by_cmp_equiv}
use Rattle.std.specs.declared.cmp.Ordering.TheVariants.{Less, Equal, Greater}
use Rattle.std.specs.FinMap as map
use Rattle.std.specs.FinSet as set

abbrev pub Entries : Type 0 → Type 0
Entries X = List (ℕ × X)

-- the entries in the order of their keys
abbrev pub ordered : {X : Type 0} → Entries X → Entries X
ordered [] = []
ordered (e ∷ es) = put nat_cmp e.0 e.1 (ordered es)

pub find-ordered : {X : Type 0} (es : Entries X) (q : ℕ) → find nat_cmp q (ordered es) ≡ find nat_cmp q es
find-ordered [] q = refl
find-ordered (e ∷ es) q = find-put nat_cmp nat_cmp_total q e.0 e.1 (ordered es) ∙ ap (cond (eq_by_cmp nat_cmp q e.0) (Some e.1)) (find-ordered es q)

pub entries-known : {X : Type 0} (es : Entries X) → map.entries (map.from_entries {R = nat_cmp} es) ≡ ordered es
entries-known [] = empty_entries
  where
    empty_entries : {X : Type 0} → map.entries (map.empty {X = X} {R = nat_cmp}) ≡ []
    empty_entries = no_entries (sym (map.len-entries map.empty) ∙ map.len-empty nat_cmp _)
      where
        no_entries : {A : Type 0} {es : List A} → length es ≡ 0 → es ≡ []
        no_entries {es = []} e = refl
        no_entries {es = x ∷ es} e = absurd (omega arith)
entries-known (e ∷ es) = map.entries-insert nat_cmp_total (map.from_entries es) e.0 e.1 ∙ ap (put nat_cmp e.0 e.1) (entries-known es)

-- a map of entries in order
pub ordered-known : {X : Type 0} (es : Entries X) → map.from_entries {R = nat_cmp} (ordered es) ≡ map.from_entries es
ordered-known es = same _ _ (λ q. map.get-from_entries nat_cmp_total (ordered es) q ∙ find-ordered es q ∙ sym (map.get-from_entries nat_cmp_total es q))
  where
    same : {X : Type 0} (m n : FinMap nat_cmp X) → ((q : ℕ) → map.get m q ≡ map.get n q) → m ≡ n
    same = map.same_map nat_cmp_total nat_cmp-IsAntisymmetric

pub sorted-ordered : {X : Type 0} (es : Entries X) → T (is_sorted nat_cmp (ordered es))
sorted-ordered [] = tt
sorted-ordered (e ∷ es) = is_sorted-put nat_cmp nat_cmp_total e.0 e.1 (ordered es) (sorted-ordered es)

pub same_answers : {X : Type 0} (m n : FinMap nat_cmp X) → ((q : ℕ) → map.get m q ≡ map.get n q) → m ≡ n
same_answers = map.same_map nat_cmp_total nat_cmp-IsAntisymmetric

abbrev pub keys_of : {X : Type 0} → Entries X → List ℕ
keys_of es = list_map (λ e. e.0) es

pub keys-known : {X : Type 0} (es : Entries X) → map.keys (map.from_entries {R = nat_cmp} es) ≡ keys_of (ordered es)
keys-known es = ap keys_of (entries-known es)

pub len-known : {X : Type 0} (es : Entries X) → map.len (map.from_entries {R = nat_cmp} es) ≡ length (ordered es)
len-known es = map.len-entries (map.from_entries es) ∙ ap length (entries-known es)

-- each value replaced, or left out
abbrev pub kept_in : {X Y : Type 0} → (ℕ → X → Option Y) → Entries X → Entries Y
kept_in f es = entries_by (λ k. option_and_then (f k) (find nat_cmp k es)) (keys_of (ordered es))

any_key : {X : Type 0} (es : Entries X) (q : ℕ) → list_any (eq_by_cmp nat_cmp q) (keys_of (ordered es)) ≡ is_some (find nat_cmp q es)
any_key es q = sym (is_some-find nat_cmp q (ordered es)) ∙ ap is_some (find-ordered es q)

at_held : {X Y : Type 0} (f : X → Option Y) (x : Option X) → cond (is_some x) (option_and_then f x) None ≡ option_and_then f x
at_held f None = refl
at_held f (Some x) = refl

pub kept-known : {X : Type 0} (f : ℕ → X → Option X) (es : Entries X) → kept f (map.from_entries es) ≡ map.from_entries (kept_in f es)
kept-known f es = same_answers _ _ (λ q.
    get-kept f (map.from_entries es) q
    ∙ ap (option_and_then (f q)) (map.get-from_entries nat_cmp_total es q)
    ∙ sym (at_held (f q) (find nat_cmp q es))
    ∙ ap (λ b. cond b (option_and_then (f q) (find nat_cmp q es)) None) (sym (any_key es q))
    ∙ sym (find-entries_by (λ k. option_and_then (f k) (find nat_cmp k es)) (keys_of (ordered es)) q)
    ∙ sym (map.get-from_entries nat_cmp_total (kept_in f es) q))

pub by_rule-known : {X : Type 0} (es : Entries X) (named : List ℕ) (rule : ℕ → Option X) → by_rule (map.from_entries es) (set.from_list named) rule
    ≡ map.from_entries (ordered (entries_by rule (keys_of es ++ named)))
by_rule-known es named rule = same_answers _ _ (λ q.
    get-by_rule (map.from_entries es) (set.from_list named) rule q
    ∙ (λ i. cond (is_some (map.get-from_entries nat_cmp_total es q i) || set.contains-from_list nat_cmp_total named q i) (rule q) None)
    ∙ ap (λ b. cond (b || list_any (eq_by_cmp nat_cmp q) named) (rule q) None) (is_some-find nat_cmp q es)
    ∙ ap (λ b. cond b (rule q) None) (sym (list_any-append (eq_by_cmp nat_cmp q) (keys_of es) named))
    ∙ sym (find-entries_by rule (keys_of es ++ named) q)
    ∙ sym (find-ordered (entries_by rule (keys_of es ++ named)) q)
    ∙ sym (map.get-from_entries nat_cmp_total (ordered (entries_by rule (keys_of es ++ named))) q))

abbrev pub without : {X : Type 0} → ℕ → Entries X → Entries X
without k es = where_key nat_cmp (λ x. not (eq_by_cmp nat_cmp k x)) es

turned : {A : Type 0} (b : Bool) (x y : A) → cond (not b) x y ≡ cond b y x
turned true x y = refl
turned false x y = refl

pub remove-known : {X : Type 0} (es : Entries X) (k : ℕ) → map.remove (map.from_entries {R = nat_cmp} es) k ≡ map.from_entries (without k es)
remove-known es k = same_answers _ _ (λ q.
    map.get-remove nat_cmp_total (map.from_entries es) k q
    ∙ ap (cond (eq_by_cmp nat_cmp q k) None) (map.get-from_entries nat_cmp_total es q)
    ∙ ap (λ b. cond b None (find nat_cmp q es)) ((eq_by_cmp_equiv nat_cmp_total).symm q k)
    ∙ sym (turned (eq_by_cmp nat_cmp k q) (find nat_cmp q es) None)
    ∙ sym (find-where_key nat_cmp (λ x. not (eq_by_cmp nat_cmp k x)) q
    (λ x tied. ap (λ n. not (eq_by_cmp nat_cmp k n)) (sym (nat_cmp-IsAntisymmetric q x tied))) es)
    ∙ sym (map.get-from_entries nat_cmp_total (without k es) q))

-- Values that stand for others, as known groups for groups.
abbrev pub with_values : {X Y : Type 0} → (X → Y) → Entries X → Entries Y
with_values f es = list_map (λ (e : ℕ × _). (e.0, f e.1)) es

pub find-with_values : {X Y : Type 0} (f : X → Y) (es : Entries X) (q : ℕ) → find nat_cmp q (with_values f es) ≡ option_map f (find nat_cmp q es)
find-with_values f [] q = refl
find-with_values f (e ∷ es) q =
    elim (eq_by_cmp nat_cmp q e.0) as
    (λ b. cond b (Some (f e.1)) (find nat_cmp q (with_values f es)) ≡ option_map f (cond b (Some e.1) (find nat_cmp q es)))
    [ true ↦ refl | false ↦ find-with_values f es q ]

put-with_values : {X Y : Type 0} (f : X → Y) (k : ℕ) (x : X) (es : Entries X) → put nat_cmp k (f x) (with_values f es) ≡ with_values f (put nat_cmp k x es)
put-with_values f k x [] = refl
put-with_values f k x (e ∷ es) =
    elim (nat_cmp k e.0) as (λ o. by_order o ((k, f x) ∷ with_values f (e ∷ es)) ((e.0, f x) ∷ with_values f es)
    ((e.0, f e.1) ∷ put nat_cmp k (f x) (with_values f es)) ≡ with_values f (by_order o ((k, x) ∷ e ∷ es) ((e.0, x) ∷ es) (e ∷ put nat_cmp k x es))) [
      | Less ↦ refl
      | Equal ↦ refl
      | Greater ↦ ap (λ rest. (e.0, f e.1) ∷ rest) (put-with_values f k x es)
    ]

pub ordered-with_values : {X Y : Type 0} (f : X → Y) (es : Entries X) → ordered (with_values f es) ≡ with_values f (ordered es)
ordered-with_values f [] = refl
ordered-with_values f (e ∷ es) = ap (put nat_cmp e.0 (f e.1)) (ordered-with_values f es) ∙ put-with_values f e.0 e.1 (ordered es)

pub keys-with_values : {X Y : Type 0} (f : X → Y) (es : Entries X) → keys_of (with_values f es) ≡ keys_of es
keys-with_values f [] = refl
keys-with_values f (e ∷ es) = ap (λ ks. e.0 ∷ ks) (keys-with_values f es)

with_entry-with_values : {X Y : Type 0} (f : X → Y) (k : ℕ) (x : Option X) (es : Entries X) → with_entry k (option_map f x) (with_values f es)
    ≡ with_values f (with_entry k x es)
with_entry-with_values f k None es = refl
with_entry-with_values f k (Some x) es = refl

entries_by-with_values : {X Y : Type 0} (f : X → Y) (rule : ℕ → Option Y) (known : ℕ → Option X) → ((k : ℕ) → rule k ≡ option_map f (known k)) →
    (ks : List ℕ) → entries_by rule ks ≡ with_values f (entries_by known ks)
entries_by-with_values f rule known is [] = refl
entries_by-with_values f rule known is (k ∷ ks) =
    (λ i. with_entry k (is k i) (entries_by-with_values f rule known is ks i)) ∙ with_entry-with_values f k (known k) (entries_by known ks)

-- A change of each value of a map of known values.
pub kept_as : {X Y : Type 0} (f : X → Y) (what : ℕ → Y → Option Y) (known : ℕ → X → Option X) →
    ((k : ℕ) (x : X) → what k (f x) ≡ option_map f (known k x)) → (es : Entries X) → kept what (map.from_entries (with_values f es))
    ≡ map.from_entries (with_values f (kept_in known es))
kept_as f what known is es =
    kept-known what (with_values f es)
    ∙ ap map.from_entries (
    (λ i. entries_by (λ k. option_and_then (what k) (find-with_values f es k i)) ((ap keys_of (ordered-with_values f es) ∙ keys-with_values f (ordered es)) i))
    ∙ entries_by-with_values f _ (λ k. option_and_then (known k) (find nat_cmp k es)) (λ k. at_each k (find nat_cmp k es)) (keys_of (ordered es)))
  where
    at_each : (k : ℕ) (x : Option _) → option_and_then (what k) (option_map f x) ≡ option_map f (option_and_then (known k) x)
    at_each k None = refl
    at_each k (Some x) = is k x
