-- The storage of a link, at its start and after its calls.
use Rattle.mq_link.proofs.Common.{◌≡◌, ℕ, ◌*◌, ◌<◌, ◌≤◌, List, [], ◌∷◌, false, Some, refl, sym, ap, ◌∙◌, subst, arith, leb, list_any, unwrap_or, nat_cmp}
use Rattle.mq_link.proofs.Common.{forwards_in, is_running, AreInRange, election_at, next_moment, ScheduledGroup, HeldState, empty_state, has_due, Storage}
use Rattle.mq_link.proofs.Common.{Configuration, IsFaultless, IsWithinRoom, Setting, IsStored, RouterValue, state_of, AreSound, LinkState, IsWellFormed}
use Rattle.mq_link.proofs.Common.{IsReady, KeepsRooms, link_at, next_of}
use Rattle.std.specs.FinMap as map
use Rattle.mq_held.specs.{Groups.Groups, Groups.group_at, Groups.unheld, Groups.sources_of, Moments.moments_of, Moments.moments_in}
use Rattle.mq_link.proofs.{Faultless.IsWellFormed-link_at, Faultless.few_groups, Quiet.AllAbove, Quiet.above_least, Quiet.above_values, Receipts.sound_in}
use Rattle.mq_link.proofs.{Silent.from-each, Silent.not_reached}

-- a group that isn't held forwards nothing
pub none_forwarded : (source : ℕ) → forwards_in unheld.group source ≡ false
none_forwarded source = ap is_running (map.get-empty nat_cmp source)

pub absent_forwards : (groups : Groups) (group source : ℕ) → group_at groups group ≡ unheld → forwards_in (group_at groups group).group source ≡ false
absent_forwards groups group source is = ap (λ e. forwards_in e.group source) is ∙ none_forwarded source

-- sound groups are a state that a link may be in
pub well_formed_at : (r : RouterValue) → AreSound r.at r.groups → AreInRange r.at.election.timing → IsWellFormed r.at.config (state_of r)
well_formed_at r sound timing = record { groups = sound.all; within = sound.within; timing = timing; silent = sound.silent }

-- the storage of a link at its start
pub stored_at_start : {K A : Type 0} (config : Configuration) (start : ℕ) (storage : Storage K A)
    → IsFaultless config → IsWithinRoom config → storage.held ≡ empty_state config.room.groups config.room.sources
    → (let status : Setting = record { config = config; election = election_at config.timing start; now = start } in IsStored status storage)
stored_at_start config start storage faultless within held =
    let status : Setting = record { config = config; election = election_at config.timing start; now = start } in
    record {
      sound = subst (AreSound status) (sym (ap (λ (h : HeldState). h.groups) held))
          (sound_in config (link_at config start) (IsWellFormed-link_at config start faultless));
      within = within;
      group_room = ap (λ (h : HeldState). h.order.room) held;
      source_room = ap (λ (h : HeldState). h.source_room) held;
    }

-- the groups are fit to be worked on, and there is room for each
pub ready_in : {K A : Type 0} (status : Setting) (storage : Storage K A) → IsFaultless status.config → AreSound status storage.held.groups →
    IsWithinRoom status.config → (room : ℕ) → 2 * status.config.room.group_sources ≤ room → IsReady room storage
ready_in status storage faultless sound within room wide = record {
  few = let n = sound.within.group_count in omega (arith, n, few_groups status.config faultless);
  served = λ group e is.
      let as_held = sound.all group e is in
      let few : sources_of e ≤ status.config.limits.group_sources =
      subst (λ x. sources_of (unwrap_or x unheld) ≤ status.config.limits.group_sources) is (sound.within.group_sources group) in
      record { held = as_held.held; fits = as_held.fits; room_for = omega (arith, within.group_sources) };
}

-- before the next moment no group has anything due
none_reached : (now : ℕ) (ms : List ℕ) → AllAbove now ms → list_any (λ t. leb t now) ms ≡ false
none_reached now [] h = refl
none_reached now (t ∷ ms) h =
    let later = not_reached now t h.0 in
    rw later (none_reached now ms h.1)

pub none_due : (state : LinkState) (now : ℕ) → now < next_of state → (group : ℕ) (e : ScheduledGroup) → map.get state.groups group ≡ Some e →
    has_due now e ≡ false
none_due state now before group e is =
    let parts = above_least now (next_moment state.election.role) (moments_in state.groups) before in
    let each = above_values now moments_of (map.entries state.groups) parts.1 in
    none_reached now (moments_of e)
    (from-each (λ _ e. AllAbove now (moments_of e)) (map.entries state.groups) each group e (sym (map.get-entries state.groups group) ∙ is))

-- the storage after a call: the groups are still sound, and the rooms stay
pub stored_next : {K A : Type 0} (status after : Setting) (storage next : Storage K A)
    → IsStored status storage → after.config ≡ status.config → AreSound after next.held.groups → KeepsRooms storage next → IsStored after next
stored_next status after storage next was same sound kept = record {
  sound = sound;
  within = subst IsWithinRoom (sym same) was.within;
  group_room = kept.groups ∙ was.group_room ∙ ap (λ (c : Configuration). c.room.groups) (sym same);
  source_room = kept.sources ∙ was.source_room ∙ ap (λ (c : Configuration). c.room.sources) (sym same);
}
