-- A group, by its row, with one source heard of again.
use Rattle.mq_held.proofs.Common.{◌≡◌, ℕ, zero, suc, ◌<◌, min, cond, refl, List, [], ◌∷◌, ◌++◌, append_assoc, length, get_or, set, Option, None, Some, IfSome}
use Rattle.mq_held.proofs.Common.{sym, ap, ◌∙◌, subst, arith, ⊎_elim, option_to_list, flat_map, eq_by_cmp, nat_cmp, nat_cmp_total, FinMap, cases_eq, length-set}
use Rattle.mq_held.proofs.Common.{get_or-set_same, get_or-set_other, IsAscending, PoolState, Source, SourceTimer, Running, IsWellFormed, deadline_of}
use Rattle.mq_held.proofs.Common.{group_deadline, is_running, is_stopped, retransmissions_of, timer_at, number_in, state_of, timers_in, get-found}
use Rattle.mq_held.proofs.Common.{ScheduledGroup}
use Rattle.mq_held.proofs.Common.{group_due, Inside, HeldState, ScheduledHead, those_of, moments_of, restarted, earliest_of, group_of, timer_moments}
use Rattle.std.specs.FinMap as map
use Rattle.mq_held.proofs.{HeldMoments.deadlines-row, Located.Located, Located.Placed, Located.first-held, Located.group_in, Located.row_of}
use Rattle.mq_held.proofs.{LeastMoments.earliest-join, LeastMoments.earliest-join_right, Sorted.ties, Sorted.untied}

-- the value put at a number, and those at other numbers, which stay
module _ {X : Type 0} (m : FinMap nat_cmp X) {k : ℕ} (v : X) {q : ℕ} where
  get-put : q ≡ k → map.get (map.insert m k v) q ≡ Some v
  get-put same = map.get-insert nat_cmp_total m k v q ∙ ap (λ b. cond b (Some v) (map.get m q)) (ties q k same)

  get-kept : (q ≡ k → ⊥) → map.get (map.insert m k v) q ≡ map.get m q
  get-kept differs = map.get-insert nat_cmp_total m k v q ∙ ap (λ b. cond b (Some v) (map.get m q)) (untied q k differs)

-- an insert of the same value changes nothing
pub insert-same : {X : Type 0} (m : FinMap nat_cmp X) (n : ℕ) (v : X) → map.get m n ≡ Some v → map.insert m n v ≡ m
insert-same m n v is =
    map.same_map nat_cmp_total map.nat_cmp-IsAntisymmetric (map.insert m n v) m
    (λ q. ⊎_elim (λ (same : q ≡ n). get-put m v same ∙ sym (ap (map.get m) same ∙ is)) (λ (differs : q ≡ n → ⊥). get-kept m v differs) (cases_eq q n))

-- a row in which a source stands in the place of another of its number ascends as before
module _ {X : Type 0} (number : X → ℕ) where
  pub IsAscending-same : (xs : List X) (i : ℕ) (y x : X) → i < length xs → x ≡ get_or xs i x → number y ≡ number x → IsAscending number xs
      → IsAscending number (set xs i y)
  IsAscending-same xs i y x within here same up j k d before in_list =
      let size = length-set xs i y in
      let step = up j k d before (omega (arith, in_list, size)) in
      let at_j = read j d (omega (arith, before, in_list, size)) in
      let at_k = read k d (omega (arith, in_list, size)) in
      omega (arith, step, at_j, at_k)
    where
      read : (j : ℕ) (d : X) → j < length xs → number (get_or (set xs i y) j d) ≡ number (get_or xs j d)
      read j d in_list =
          ⊎_elim
          (λ (equal : j ≡ i).
          ap (λ k. number (get_or (set xs i y) k d)) equal ∙ ap number (get_or-set_same xs i y d within) ∙ same ∙ ap number here
          ∙ ap number (one xs i x d within) ∙ ap (λ k. number (get_or xs k d)) (sym equal))
          (λ (differs : j ≡ i → ⊥). ap number (get_or-set_other xs i j y d differs))
          (cases_eq j i)
        where
          one : (xs : List X) (i : ℕ) (x d : X) → i < length xs → get_or xs i x ≡ get_or xs i d
          one [] i x d below = absurd (omega arith)
          one (z ∷ xs) zero x d below = refl
          one (z ∷ xs) (suc i) x d below = one xs i x d (omega arith)

-- the timers of the others
get-others : {K : Type 0} (number : K → ℕ) (row : List (Source K)) (i : ℕ) (y x : Source K) (q : ℕ) → i < length row → x ≡ get_or row i x
    → number y.address ≡ number x.address → (q ≡ number y.address → ⊥) → map.get (timers_in number (set row i y)) q ≡ map.get (timers_in number row) q
get-others number [] i y x q within here same differs = absurd (omega arith)
get-others number (z ∷ row) zero y x q within here same differs =
    let other : q ≡ number z.address → ⊥ = λ e. differs (e ∙ ap (λ (s : Source _). number s.address) (sym here) ∙ sym same) in
    get-kept (timers_in number row) y.timer differs ∙ sym (get-kept (timers_in number row) z.timer other)
get-others number (z ∷ row) (suc i) y x q within here same differs =
    map.get-insert nat_cmp_total (timers_in number (set row i y)) (number z.address) z.timer q
    ∙ ap (cond (eq_by_cmp nat_cmp q (number z.address)) (Some z.timer)) (get-others number row i y x q (omega arith) here same differs)
    ∙ sym (map.get-insert nat_cmp_total (timers_in number row) (number z.address) z.timer q)

-- a group that is held stays one
pub IsWellFormed-restarted : (deadline source : ℕ) (e : ScheduledGroup) → IsWellFormed e.group → IsWellFormed (restarted deadline source e).group
IsWellFormed-restarted deadline source e held =
    let sources = e.group.sources in
    let next = Running deadline (retransmissions_of (timer_at e.group source)) in
    record {
      has_source = λ include. (source, ap is_running (get-put sources next refl));
      none_stopped = λ include q.
          ⊎_elim
          (λ (same : q ≡ source). ap is_stopped (get-put sources next same))
          (λ (differs : q ≡ source → ⊥). ap is_stopped (get-kept sources next differs) ∙ held.none_stopped include q)
          (cases_eq q source);
    }

-- the earliest moment, once a moment that was later than it or than the new deadline has changed
pub earliest-later : (xs ys : List ℕ) (was : Option ℕ) (deadline earliest : ℕ) → earliest_of (xs ++ (option_to_list was ++ ys)) ≡ Some earliest
    → IfSome was (λ d. min earliest deadline < d) → earliest_of (xs ++ (deadline ∷ ys)) ≡ Some (min earliest deadline)
earliest-later xs ys was deadline earliest is later =
    sym (earliest-join xs (deadline ∷ ys))
    ∙ sym (turn (option_to_list (earliest_of xs)) (deadline ∷ []))
    ∙ by_cases (earliest_of xs) (earliest_of ys) was
    (turn (option_to_list (earliest_of xs)) (option_to_list was) ∙ earliest-join xs (option_to_list was ++ ys) ∙ is) later
  where
    turn : (zs ws : List ℕ) → earliest_of (zs ++ (ws ++ option_to_list (earliest_of ys))) ≡ earliest_of (zs ++ (ws ++ ys))
    turn zs ws =
        ap earliest_of (sym (append_assoc zs ws (option_to_list (earliest_of ys))))
        ∙ earliest-join_right (zs ++ ws) ys
        ∙ ap earliest_of (append_assoc zs ws ys)

    some : (a b : ℕ) → ◌≡◌ {A = Option ℕ} (Some a) (Some b) → a ≡ b
    some a b is = cc

    by_cases : (first last was : Option ℕ) → earliest_of (option_to_list first ++ (option_to_list was ++ option_to_list last)) ≡ Some earliest
        → IfSome was (λ d. min earliest deadline < d) → earliest_of (option_to_list first ++ (deadline ∷ option_to_list last)) ≡ Some (min earliest deadline)
    by_cases None None None is later = cc
    by_cases None None (Some d) is later = let e = some d earliest is in ap Some (omega (arith, e, later))
    by_cases None (Some b) None is later = let e = some b earliest is in ap Some (omega (arith, e))
    by_cases None (Some b) (Some d) is later = let e = some (min b d) earliest is in ap Some (omega (arith, e, later))
    by_cases (Some a) None None is later = let e = some a earliest is in ap Some (omega (arith, e))
    by_cases (Some a) None (Some d) is later = let e = some (min d a) earliest is in ap Some (omega (arith, e, later))
    by_cases (Some a) (Some b) None is later = let e = some (min b a) earliest is in ap Some (omega (arith, e))
    by_cases (Some a) (Some b) (Some d) is later = let e = some (min d (min b a)) earliest is in ap Some (omega (arith, e, later))

-- the moments of a row, with one of its sources apart
pub record IsParted {K : Type 0} (row : List (Source K)) (i : ℕ) (y x : Source K) : Type 0 where
  pub front : List ℕ
  pub back : List ℕ
  pub was : flat_map timer_moments row ≡ front ++ (timer_moments x ++ back)
  pub is : flat_map timer_moments (set row i y) ≡ front ++ (timer_moments y ++ back)

pub parted : {K : Type 0} (row : List (Source K)) (i : ℕ) (y x : Source K) → i < length row → x ≡ get_or row i x → IsParted row i y x
parted [] i y x within here = absurd (omega arith)
parted (z ∷ row) zero y x within here =
    let back = flat_map timer_moments row in
    record { front = []; back = back; was = ap (λ s. timer_moments s ++ back) (sym here); is = refl }
parted (z ∷ row) (suc i) y x within here =
    let rest = parted row i y x (omega arith) here in
    record {
      front = timer_moments z ++ rest.front;
      back = rest.back;
      was = ap (λ ms. timer_moments z ++ ms) rest.was ∙ sym (append_assoc (timer_moments z) rest.front (timer_moments x ++ rest.back));
      is = ap (λ ms. timer_moments z ++ ms) rest.is ∙ sym (append_assoc (timer_moments z) rest.front (timer_moments y ++ rest.back));
    }

-- A source at a place of a row is heard of again. It was `x`, and is `y`.
pub record SourceRestarted {K : Type 0} (number : K → ℕ) (row : List (Source K)) (place source deadline : ℕ) (x y : Source K) : Type 0 where
  pub stands : Placed number row source place x
  pub becomes : y ≡ record { address = x.address; timer = Running deadline (retransmissions_of (Some x.timer)) }

module _ {K : Type 0} {number : K → ℕ} {row : List (Source K)} {place source deadline : ℕ} {x y : Source K}
    (r : SourceRestarted number row place source deadline x y) (up : IsAscending (number_in number) row) where
  same : number y.address ≡ number x.address
  same = ap (λ (s : Source K). number s.address) r.becomes

  pub up-restarted : IsAscending (number_in number) (set row place y)
  up-restarted = IsAscending-same (number_in number) row place y x r.stands.within r.stands.here same up

  timer-before : map.get (timers_in number row) source ≡ Some x.timer
  timer-before =
      get-found number row place x source up r.stands.within (ap (λ (s : Source K). number s.address) (sym r.stands.here) ∙ r.stands.is)
      ∙ ap (λ (s : Source K). Some s.timer) (sym r.stands.here)

  -- the timers, once that of the source is another
  timers-set : timers_in number (set row place y) ≡ map.insert (timers_in number row) (number y.address) y.timer
  timers-set =
      let at = get_or-set_same row place y y r.stands.within in
      let inside : place < length (set row place y) = omega (arith, r.stands.within, length-set row place y) in
      let put = map.insert (timers_in number row) (number y.address) y.timer in
      map.same_map nat_cmp_total map.nat_cmp-IsAntisymmetric (timers_in number (set row place y)) put (λ q.
      ⊎_elim
      (λ (equal : q ≡ number y.address).
      get-found number (set row place y) place y q up-restarted inside (ap (λ (s : Source K). number s.address) at ∙ sym equal)
      ∙ ap (λ (s : Source K). Some s.timer) at
      ∙ sym (get-put (timers_in number row) y.timer equal))
      (λ (differs : q ≡ number y.address → ⊥).
      get-others number row place y x q r.stands.within r.stands.here same differs ∙ sym (get-kept (timers_in number row) y.timer differs))
      (cases_eq q (number y.address)))

  pub group-restarted : (h : ScheduledHead) → group_of number h (set row place y) ≡ restarted deadline source (group_of number h row)
  group-restarted h =
      let timer : y.timer ≡ Running deadline (retransmissions_of (map.get (timers_in number row) source)) =
      ap (λ (s : Source K). s.timer) r.becomes ∙ ap (λ t. Running deadline (retransmissions_of t)) (sym timer-before) in
      ap (λ (m : FinMap nat_cmp SourceTimer). let e : ScheduledGroup = record { group = state_of h.head m; schedule = h.schedule } in e)
      (timers-set ∙ (λ j. map.insert (timers_in number row) ((same ∙ r.stands.is) j) (timer j)))

  -- the earliest moment, where the timer was later than it
  pub earliest-restarted : (h : ScheduledHead) (earliest : ℕ) → earliest_of (moments_of (group_of number h row)) ≡ Some earliest
      → IfSome (deadline_of (Some x.timer)) (λ d. earliest < d) → earliest_of (moments_of (group_of number h (set row place y))) ≡ Some (min earliest deadline)
  earliest-restarted h earliest is later =
      let head = those_of (group_deadline h.head.mode ∷ h.head.v1 ∷ h.head.v2 ∷ group_due h.schedule.group_query ∷ h.schedule.sources_due ∷ []) in
      let parts = parted row place y x r.stands.within r.stands.here in
      let split = append_assoc head parts.front (timer_moments x ++ parts.back) ∙ ap (λ ms. head ++ ms) (sym (deadlines-row number row up ∙ parts.was)) in
      ap (λ ms. earliest_of (head ++ ms)) (deadlines-row number (set row place y) up-restarted ∙ parts.is)
      ∙ ap (λ (s : Source K). earliest_of (head ++ (parts.front ++ (option_to_list (deadline_of (Some s.timer)) ++ parts.back)))) r.becomes
      ∙ ap earliest_of (sym (append_assoc head parts.front (deadline ∷ parts.back)))
      ∙ earliest-later (head ++ parts.front) parts.back (deadline_of (Some x.timer)) deadline earliest (ap earliest_of split ∙ is)
      (sooner (deadline_of (Some x.timer)) later)
    where
      sooner : (was : Option ℕ) → IfSome was (λ d. earliest < d) → IfSome was (λ d. min earliest deadline < d)
      sooner None later = tt
      sooner (Some d) later = omega (arith, later)

-- the timer of a source, where its place is known
module _ {K A : Type 0} {number : K → ℕ} {s : Inside K A} {state : HeldState} {n source place : ℕ} {x : Source K} (l : Located number s state n)
    (f : Placed number (row_of s n) source place x) where
  pub timer-held : timer_at (group_in number s n).group source ≡ Some x.timer
  timer-held =
      get-found number (row_of s n) place x source l.up f.within (ap (λ (s : Source K). number s.address) (sym f.here) ∙ f.is)
      ∙ ap (λ (s : Source K). Some s.timer) (sym f.here)

-- A source of the group of a number is heard of again. It was `x`, and the group's row is `row`. `t` are the rows.
pub record GroupRestarted {K A : Type 0} (number : K → ℕ) (s : Inside K A) (state : HeldState) (n source deadline : ℕ) (x : Source K) (h : ScheduledHead)
    (row : List (Source K)) (t : PoolState (Source K)) : Type 0 where
  pub at : Located number s state n
  pub head : h ≡ get_or s.heads.items n h
  pub place : ℕ
  pub y : Source K
  pub heard : SourceRestarted number (row_of s n) place source deadline x y
  pub row_is : row ≡ set (row_of s n) place y
  pub rows_are : t ≡ record s.sources { rows = set s.sources.rows n row }

module _ {K A : Type 0} {number : K → ℕ} {s : Inside K A} {state : HeldState} {n source deadline : ℕ} {x : Source K} {h : ScheduledHead}
    {row : List (Source K)} {t : PoolState (Source K)} (r : GroupRestarted number s state n source deadline x h row t) where
  pub row-size : length row ≡ length (row_of s n)
  row-size = ap length r.row_is ∙ length-set (row_of s n) r.place r.y

  pub up_then : IsAscending (number_in number) row
  up_then = subst (IsAscending (number_in number)) (sym r.row_is) (up-restarted r.heard r.at.up)

  pub group-then : group_of number h row ≡ restarted deadline source (group_in number s n)
  group-then =
      ap (group_of number h) r.row_is
      ∙ group-restarted r.heard r.at.up h
      ∙ ap (λ g. restarted deadline source (group_of number g (row_of s n))) (sym (r.at.head h r.head))

  pub formed_then : IsWellFormed (group_of number h row).group
  formed_then =
      let held = r.at.inside.0.others_are_held n r.at.held (r.at.other r.heard.stands.some) in
      subst (λ (e : ScheduledGroup). IsWellFormed e.group) (sym group-then)
      (IsWellFormed-restarted deadline source (group_in number s n) held)

  pub later_then : (earliest : ℕ) → map.get s.moments.moments n ≡ Some earliest → IfSome (deadline_of (Some x.timer)) (λ d. earliest < d)
      → earliest_of (moments_of (group_of number h row)) ≡ Some (min earliest deadline)
  later_then earliest first later =
      ap (λ xs. earliest_of (moments_of (group_of number h xs))) r.row_is ∙ earliest-restarted r.heard r.at.up h earliest (first-held r.at r.head first) later
