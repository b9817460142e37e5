-- A group, by its row, with one source more.
use Rattle.mq_held.proofs.Common.{◌≡◌, ℕ, ◌+◌, min, Bool, true, false, cond, ◌||◌, ◌==◌, refl, List, [], ◌∷◌, ◌++◌, append_assoc, take, drop}
use Rattle.mq_held.proofs.Common.{Option, None, Some, sym, ap, ◌∙◌, subst, flat_map, insert, take-append-drop, eq-eqb, true≢false, nat_cmp}
use Rattle.mq_held.proofs.Common.{nat_cmp_total, eq_by_cmp, IsAscending, IsAscending-insert, IsPlaceFor, set_of, Source, SourceTimer, Running, get-absent}
use Rattle.mq_held.proofs.Common.{is_some, item_with, found_where_member, get-timers_in, option_map, size_of, sources_of, timer_at}
use Rattle.mq_held.proofs.Common.{group_deadline, retransmissions_of, number_in, state_of, timers_in, ScheduledGroup, group_due, ScheduledHead, those_of}
use Rattle.mq_held.proofs.Common.{moments_of}
use Rattle.mq_held.proofs.Common.{restarted, earliest_of, group_of, timer_moments}
use Rattle.std.specs.FinMap as map
use Rattle.mq_held.proofs.{HeldMoments.deadlines-row, RestartedTimers.earliest-later, Sorted.tied}

-- a source goes at a place of a row that lacks it
pub record SourceAdded {K : Type 0} (number : K → ℕ) (row : List (Source K)) (place source deadline : ℕ) (y : Source K) : Type 0 where
  pub up : IsAscending (number_in number) row
  pub goes : IsPlaceFor (number_in number) row source place
  pub absent : set_of (number_in number) row source ≡ false
  pub is : number y.address ≡ source
  pub runs : y.timer ≡ Running deadline 0

-- two values at different numbers may be looked for in either order
turned : (a b : Bool) (u v w : Option SourceTimer) → (a ≡ true → b ≡ true → ⊥) → cond a u (cond b v w) ≡ cond b v (cond a u w)
turned true true u v w both = absurd (both refl refl)
turned true false u v w both = refl
turned false true u v w both = refl
turned false false u v w both = refl

-- the timers of a row with one source more
get-added : {K : Type 0} (number : K → ℕ) (front back : List (Source K)) (y : Source K) (q : ℕ)
    → set_of (number_in number) (front ++ back) (number y.address) ≡ false
    → map.get (timers_in number (front ++ (y ∷ back))) q
    ≡ cond (eq_by_cmp nat_cmp q (number y.address)) (Some y.timer) (map.get (timers_in number (front ++ back)) q)
get-added number [] back y q absent = map.get-insert nat_cmp_total (timers_in number back) (number y.address) y.timer q
get-added number (z ∷ front) back y q absent =
    by_test (number z.address == number y.address) refl absent (get-added number front back y q)
  where
    by_test : (b : Bool) → (number z.address == number y.address) ≡ b → (b || set_of (number_in number) (front ++ back) (number y.address)) ≡ false
        → (set_of (number_in number) (front ++ back) (number y.address) ≡ false → map.get (timers_in number (front ++ (y ∷ back))) q
        ≡ cond (eq_by_cmp nat_cmp q (number y.address)) (Some y.timer) (map.get (timers_in number (front ++ back)) q))
        → map.get (timers_in number (z ∷ (front ++ (y ∷ back)))) q
        ≡ cond (eq_by_cmp nat_cmp q (number y.address)) (Some y.timer) (map.get (timers_in number (z ∷ (front ++ back))) q)
    by_test true same none rest = absurd (true≢false none)
    by_test false differs none rest =
        let apart : eq_by_cmp nat_cmp q (number z.address) ≡ true → eq_by_cmp nat_cmp q (number y.address) ≡ true → ⊥ =
        λ first second. true≢false (sym (eq-eqb (number z.address) (number y.address)
        (sym (tied q (number z.address) first) ∙ tied q (number y.address) second)) ∙ differs) in
        map.get-insert nat_cmp_total (timers_in number (front ++ (y ∷ back))) (number z.address) z.timer q
        ∙ ap (cond (eq_by_cmp nat_cmp q (number z.address)) (Some z.timer)) (rest none)
        ∙ turned (eq_by_cmp nat_cmp q (number z.address)) (eq_by_cmp nat_cmp q (number y.address)) (Some z.timer) (Some y.timer)
        (map.get (timers_in number (front ++ back)) q) apart
        ∙ ap (cond (eq_by_cmp nat_cmp q (number y.address)) (Some y.timer))
        (sym (map.get-insert nat_cmp_total (timers_in number (front ++ back)) (number z.address) z.timer q))

-- a group has a source exactly where its row has it
pub contains-row : {K : Type 0} (number : K → ℕ) (row : List (Source K)) (s : ℕ) → map.contains_key (timers_in number row) s ≡ set_of (number_in number) row s
contains-row {K} number row s =
    ap is_some (get-timers_in number row s) ∙ some_mapped (item_with (number_in number) row s) ∙ found_where_member (number_in number) row s
  where
    some_mapped : (found : Option (Source K)) → is_some (option_map (λ (x : Source K). x.timer) found) ≡ is_some found
    some_mapped None = refl
    some_mapped (Some x) = refl

-- a group with a source more is larger by one
pub size-added : (deadline source : ℕ) (e : ScheduledGroup) → timer_at e.group source ≡ None → sources_of (restarted deadline source e) ≡ sources_of e + 1
size-added deadline source e absent =
    map.len-insert nat_cmp_total e.group.sources source (Running deadline (retransmissions_of (timer_at e.group source))) ∙
    ap (λ (t : Option SourceTimer). cond (is_some t) (size_of e.group) (size_of e.group + 1)) absent

-- the moments of a row in two parts
moments-parted : {K : Type 0} (front back : List (Source K)) → flat_map timer_moments (front ++ back)
    ≡ flat_map timer_moments front ++ flat_map timer_moments back
moments-parted [] back = refl
moments-parted (x ∷ front) back =
    ap (λ ms. timer_moments x ++ ms) (moments-parted front back)
    ∙ sym (append_assoc (timer_moments x) (flat_map timer_moments front) (flat_map timer_moments back))

module _ {K : Type 0} {number : K → ℕ} {row : List (Source K)} {place source deadline : ℕ} {y : Source K}
    (a : SourceAdded number row place source deadline y) where
  pub up-added : IsAscending (number_in number) (insert row place y)
  up-added = IsAscending-insert (number_in number) row place y a.up (subst (λ n. IsPlaceFor (number_in number) row n place) (sym a.is) a.goes)

  timers-added : timers_in number (insert row place y) ≡ map.insert (timers_in number row) (number y.address) y.timer
  timers-added =
      let parts = take-append-drop place row in
      map.same_map nat_cmp_total map.nat_cmp-IsAntisymmetric (timers_in number (insert row place y))
      (map.insert (timers_in number row) (number y.address) y.timer) (λ q.
      get-added number (take place row) (drop place row) y q
      (ap (λ xs. set_of (number_in number) xs (number y.address)) parts ∙ ap (set_of (number_in number) row) a.is ∙ a.absent)
      ∙ ap (λ xs. cond (eq_by_cmp nat_cmp q (number y.address)) (Some y.timer) (map.get (timers_in number xs) q)) parts
      ∙ sym (map.get-insert nat_cmp_total (timers_in number row) (number y.address) y.timer q))

  -- the group then
  pub group-added : (h : ScheduledHead) → group_of number h (insert row place y) ≡ restarted deadline source (group_of number h row)
  group-added h =
      let none = get-absent number row source a.absent in
      let timer : y.timer ≡ Running deadline (retransmissions_of (map.get (timers_in number row) source)) =
      a.runs ∙ ap (λ t. Running deadline (retransmissions_of t)) (sym none) in
      ap (λ m. let e : ScheduledGroup = record { group = state_of h.head m; schedule = h.schedule } in e)
      (timers-added ∙ (λ j. map.insert (timers_in number row) (a.is j) (timer j)))

  -- its earliest moment is the earlier of the one before and the deadline
  pub earliest-added : (h : ScheduledHead) (earliest : ℕ) → earliest_of (moments_of (group_of number h row)) ≡ Some earliest
      → earliest_of (moments_of (group_of number h (insert row place y))) ≡ Some (min earliest deadline)
  earliest-added h earliest is =
      let head = those_of (group_deadline h.head.mode ∷ h.head.v1 ∷ h.head.v2 ∷ group_due h.schedule.group_query ∷ h.schedule.sources_due ∷ []) in
      let front = flat_map timer_moments (take place row) in
      let back = flat_map timer_moments (drop place row) in
      let was : flat_map timer_moments row ≡ front ++ back =
      ap (flat_map timer_moments) (sym (take-append-drop place row)) ∙ moments-parted (take place row) (drop place row) in
      let new : flat_map timer_moments (insert row place y) ≡ front ++ (deadline ∷ back) =
      moments-parted (take place row) (y ∷ drop place row)
      ∙ ap (λ t. front ++ (timer_moments (record { address = y.address; timer = t }) ++ back)) a.runs in
      ap (λ ms. earliest_of (head ++ ms)) (deadlines-row number (insert row place y) up-added ∙ new)
      ∙ ap earliest_of (sym (append_assoc head front (deadline ∷ back)))
      ∙ earliest-later (head ++ front) back None deadline earliest
      (ap earliest_of (append_assoc head front back ∙ ap (λ ms. head ++ ms) (sym (deadlines-row number row a.up ∙ was))) ∙ is) tt
