-- Groups with several sources heard of again.
use Rattle.mq_held.proofs.Common.{◌≡◌, ℕ, Bool, true, false, cond, ◌||◌, refl, List, [], ◌∷◌, ◌++◌, Option, None, Some, is_some, sym, ap, ◌∙◌, list_all}
use Rattle.mq_held.proofs.Common.{list_any, nat_cmp, eq_by_cmp, nat_cmp_total, and_parts, and_from, or_left, or_right, true≢false}
use Rattle.mq_held.proofs.Common.{set_of, Source, SourceTimer, Running, IsWellFormed, retransmissions_of, timer_at, number_in}
use Rattle.mq_held.proofs.Common.{ScheduledGroup, ScheduledHead, has_each, restarted, restarted_each, group_of}
use Rattle.mq_held.proofs.Common.{arith, get_or, length}
use Rattle.std.specs.FinMap as map
use Rattle.mq_held.proofs.{AddedSources.contains-row, RestartedTimers.IsWellFormed-restarted, Sorted.tied}

-- a test of all numbers in a list holds for each; a test that holds for one holds for some
pub each_passes : (test : ℕ → Bool) (ks : List ℕ) (s : ℕ) → list_all test ks ≡ true → list_any (eq_by_cmp nat_cmp s) ks ≡ true → test s ≡ true
each_passes test [] s all has = absurd (true≢false (sym has))
each_passes test (k ∷ ks) s all has =
    let parts = and_parts (test k) _ all in
    by_tie (eq_by_cmp nat_cmp s k) refl parts.0 (each_passes test ks s parts.1) has
  where
    by_tie : (b : Bool) → eq_by_cmp nat_cmp s k ≡ b → test k ≡ true → (list_any (eq_by_cmp nat_cmp s) ks ≡ true → test s ≡ true) →
        (b || list_any (eq_by_cmp nat_cmp s) ks) ≡ true → test s ≡ true
    by_tie true same passes rest has = ap test (tied s k same) ∙ passes
    by_tie false other passes rest has = rest has

pub some_passes : (test : ℕ → Bool) (ks : List ℕ) (s : ℕ) → list_any (eq_by_cmp nat_cmp s) ks ≡ true → test s ≡ true → list_any test ks ≡ true
some_passes test [] s has passes = absurd (true≢false (sym has))
some_passes test (k ∷ ks) s has passes = by_tie (eq_by_cmp nat_cmp s k) refl (λ has. some_passes test ks s has passes) has
  where
    by_tie : (b : Bool) → eq_by_cmp nat_cmp s k ≡ b → (list_any (eq_by_cmp nat_cmp s) ks ≡ true → list_any test ks ≡ true) →
        (b || list_any (eq_by_cmp nat_cmp s) ks) ≡ true → (test k || list_any test ks) ≡ true
    by_tie true same rest has = or_left _ _ (ap test (sym (tied s k same)) ∙ passes)
    by_tie false other rest has = or_right _ _ (rest has)

-- one source more
pub restarted_each-more : (deadline : ℕ) (xs : List ℕ) (x : ℕ) (e : ScheduledGroup) → restarted_each deadline (xs ++ x ∷ []) e
    ≡ restarted deadline x (restarted_each deadline xs e)
restarted_each-more deadline [] x e = refl
restarted_each-more deadline (y ∷ xs) x e = restarted_each-more deadline xs x (restarted deadline y e)

-- the timer of each source, once one is heard of again
pub timer-restarted : (deadline source : ℕ) (e : ScheduledGroup) (s : ℕ) → timer_at (restarted deadline source e).group s
    ≡ cond (eq_by_cmp nat_cmp s source) (Some (Running deadline (retransmissions_of (timer_at e.group source)))) (timer_at e.group s)
timer-restarted deadline source e s = map.get-insert nat_cmp_total e.group.sources source (Running deadline (retransmissions_of (timer_at e.group source))) s

-- and once some are
pub timer-restarted_each : (deadline : ℕ) (xs : List ℕ) (e : ScheduledGroup) (s : ℕ) → timer_at (restarted_each deadline xs e).group s
    ≡ cond (list_any (eq_by_cmp nat_cmp s) xs) (Some (Running deadline (retransmissions_of (timer_at e.group s)))) (timer_at e.group s)
timer-restarted_each deadline [] e s = refl
timer-restarted_each deadline (x ∷ xs) e s =
    timer-restarted_each deadline xs (restarted deadline x e) s
    ∙ by_tests (eq_by_cmp nat_cmp s x) (list_any (eq_by_cmp nat_cmp s) xs) (timer_at (restarted deadline x e).group s) refl (timer-restarted deadline x e s)
  where
    next : ℕ → SourceTimer
    next q = Running deadline (retransmissions_of (timer_at e.group q))

    either : (any : Bool) (t : Option SourceTimer) → cond any t t ≡ t
    either true t = refl
    either false t = refl

    by_tests : (same any : Bool) (t : Option SourceTimer) → eq_by_cmp nat_cmp s x ≡ same → t ≡ cond same (Some (next x)) (timer_at e.group s)
        → cond any (Some (Running deadline (retransmissions_of t))) t ≡ cond (same || any) (Some (next s)) (timer_at e.group s)
    by_tests true any t same is =
        ap (λ t. cond any (Some (Running deadline (retransmissions_of t))) t) (is ∙ ap (λ q. Some (next q)) (sym (tied s x same)))
        ∙ either any (Some (next s))
    by_tests false any t differs is = ap (λ t. cond any (Some (Running deadline (retransmissions_of t))) t) is

-- it has the sources that it had
pub held-restarted : (deadline source : ℕ) (e : ScheduledGroup) (s : ℕ) → map.contains_key e.group.sources s ≡ true →
    map.contains_key (restarted deadline source e).group.sources s ≡ true
held-restarted deadline source e s there =
    ap is_some (timer-restarted deadline source e s) ∙ by_test (eq_by_cmp nat_cmp s source)
  where
    by_test : (b : Bool) → is_some (cond b (Some (Running deadline (retransmissions_of (timer_at e.group source)))) (timer_at e.group s)) ≡ true
    by_test true = refl
    by_test false = there

pub has_each-restarted : (deadline source : ℕ) (xs : List ℕ) (e : ScheduledGroup) → has_each xs e ≡ true → has_each xs (restarted deadline source e) ≡ true
has_each-restarted deadline source [] e all = refl
has_each-restarted deadline source (x ∷ xs) e all =
    let parts = and_parts (map.contains_key e.group.sources x) (has_each xs e) all in
    and_from _ _ (held-restarted deadline source e x parts.0) (has_each-restarted deadline source xs e parts.1)

-- the timer, if there is one
pub timer-there : (t : Option SourceTimer) → is_some t ≡ true → (timer : SourceTimer) × (t ≡ Some timer)
timer-there None there = absurd (true≢false (sym there))
timer-there (Some timer) there = (timer, refl)

-- a group that is held stays one
pub IsWellFormed-restarted_each : (deadline : ℕ) (xs : List ℕ) (e : ScheduledGroup) → IsWellFormed e.group →
    IsWellFormed (restarted_each deadline xs e).group
IsWellFormed-restarted_each deadline [] e held = held
IsWellFormed-restarted_each deadline (x ∷ xs) e held =
    IsWellFormed-restarted_each deadline xs (restarted deadline x e) (IsWellFormed-restarted deadline x e held)

-- a group has a source exactly where its row has it
pub has_each-row : {K : Type 0} (number : K → ℕ) (h : ScheduledHead) (row : List (Source K)) (names : List ℕ) → has_each names (group_of number h row)
    ≡ list_all (set_of (number_in number) row) names
has_each-row number h row names = λ i. list_all (λ s. contains-row number row s i) names

-- a list of one item
pub one_item : {X : Type 0} (xs : List X) (x : X) → length xs ≡ 1 → x ≡ get_or xs 0 x → xs ≡ x ∷ []
one_item [] x one is = absurd (omega (arith, one))
one_item (y ∷ []) x one is = ap (λ z. z ∷ []) (sym is)
one_item (y ∷ z ∷ xs) x one is = absurd (omega (arith, one))
