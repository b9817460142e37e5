-- The amounts of the groups with one of them changed and its due queries sent.
use Rattle.mq_link.proofs.Common.{◌≡◌, ℕ, ◌+◌, ◌-◌, ◌≤◌, Bool, true, false, cond, not, refl, sym, ap, ◌∙◌, arith, Timing, is_vacant, ScheduledGroup}
use Rattle.mq_link.proofs.Common.{after_round, len-with_group, sources-with_group, schedules-with_group, Limits, limit_passed_by, limit_passed}
use mir.Val.{bool_byte}
use Rattle.std.specs.FinMap as map
use Rattle.mq_held.specs.Groups.{Groups, group_at, with_group, sources_of, sources_in, one_if, schedules_of, schedules_in}
use Rattle.mq_link.proofs.MadeEntries.{round_keeps_size, round_keeps_vacant}

module _ (groups : Groups) (address : ℕ) (timing : Timing) (now : ℕ) (before after : ScheduledGroup) (was_held : Bool)
    (held_is : map.contains_key groups address ≡ was_held) (before_is : group_at groups address ≡ before) where
  abbrev pub round_left : ScheduledGroup
  round_left = after_round timing now after

  abbrev pub changed_groups : Groups
  changed_groups = with_group groups address round_left

  group_count : map.len changed_groups + one_if was_held ≡ map.len groups + one_if (not (is_vacant after.group))
  group_count =
      ap (λ b. map.len changed_groups + one_if b) (sym held_is)
      ∙ len-with_group groups address round_left
      ∙ ap (λ b. map.len groups + one_if (not b)) (round_keeps_vacant timing now after)

  source_count : sources_in changed_groups + sources_of before ≡ sources_in groups + sources_of after
  source_count =
      ap (λ e. sources_in changed_groups + sources_of e) (sym before_is)
      ∙ sources-with_group groups address round_left
      ∙ ap (λ n. sources_in groups + n) (round_keeps_size timing now after)

  schedule_count : schedules_in changed_groups + schedules_of before ≡ schedules_in groups + cond (is_vacant after.group) 0 (schedules_of round_left)
  schedule_count =
      ap (λ e. schedules_in changed_groups + schedules_of e) (sym before_is)
      ∙ schedules-with_group groups address round_left
      ∙ ap (λ b. schedules_in groups + cond b 0 (schedules_of round_left)) (round_keeps_vacant timing now after)

  -- none of the differences is below zero
  pub enough_groups : one_if was_held ≤ map.len groups + one_if (not (is_vacant after.group))
  enough_groups = let n = group_count in omega arith

  pub enough_sources : sources_of before ≤ sources_in groups + sources_of after
  enough_sources = let n = source_count in omega arith

  pub enough_schedules : schedules_of before ≤ schedules_in groups + cond (is_vacant after.group) 0 (schedules_of round_left)
  enough_schedules = let n = schedule_count in omega arith

  -- the limits are judged by these
  pub judged_by : (limits : Limits) → limit_passed_by limits (map.len groups + one_if (not (is_vacant after.group)) - one_if was_held)
      (sources_of after) (sources_in groups + sources_of after - sources_of before)
      (schedules_in groups + cond (is_vacant after.group) 0 (schedules_of round_left) - schedules_of before)
      ≡ limit_passed limits changed_groups round_left
  judged_by limits = λ i. limit_passed_by limits (a i) (b i) (c i) (d i)
    where
      a : map.len groups + one_if (not (is_vacant after.group)) - one_if was_held ≡ map.len changed_groups
      a = let n = group_count in omega arith

      b : sources_of after ≡ sources_of round_left
      b = sym (round_keeps_size timing now after)

      c : sources_in groups + sources_of after - sources_of before ≡ sources_in changed_groups
      c = let n = source_count in omega arith

      d : schedules_in groups + cond (is_vacant after.group) 0 (schedules_of round_left) - schedules_of before ≡ schedules_in changed_groups
      d = let n = schedule_count in omega arith

-- a truth value as a number
pub as_number : (b : Bool) → bool_byte b ≡ one_if b
as_number true = refl
as_number false = refl

-- the differences don't depend on the timing
abbrev pub any_timing : Timing
any_timing = record { robustness = 0; query_seconds = 0; response_interval = 0; last_member_interval = 0; last_member_query_count = 0 }
