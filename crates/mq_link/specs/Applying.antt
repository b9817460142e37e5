-- The conditions for a statement about a group, and its effect on the router.
use Rattle.std.specs.Prelude.{◌≡◌, ℕ, ◌+◌, ◌*◌, ◌≤◌, Bool, ◌||◌, length}
use Rattle.mq_table.specs.Stored.{named_in}
use Rattle.mq_sched.specs.Sending.{SentQuery}
use Rattle.mq_held.specs.Groups.{group_at, sources_of}
use Rattle.mq_link.specs.declared.statement.StatementKind.{StatementKind}
use Rattle.mq_link.specs.declared.statement.Verdict.{Verdict}
use Rattle.mq_link.specs.declared.storage.Scratch.{Scratch}
use Rattle.mq_link.specs.declared.storage.GroupLookup.{GroupLookup}
use Rattle.mq_link.specs.declared.storage.Storage.{Storage}
use Rattle.mq_link.specs.Changing.{statement_of}
use Rattle.mq_link.specs.Configuration.{IsWithinRoom}
use Rattle.mq_link.specs.Forwarding.{changes}
use Rattle.mq_link.specs.Judging.{verdict_of}
use Rattle.mq_link.specs.Moved.{MovesWithin, moved_by_edit}
use Rattle.mq_link.specs.Record.{Setting, stated}
use Rattle.mq_link.specs.Router.{HasOutcome}
use Rattle.mq_link.specs.Seen.{AreMarked, KeepsNumbers, met_in}
use Rattle.mq_link.specs.Sound.{AreSound}
use Rattle.mq_link.specs.Storage.{HasRoom, IsLookup, KeepsRoom, KeepsRooms}

-- The conditions for a statement about an admitted group. The group was searched for, and the router may hold its
-- groups. The work names at most as many sources as a group may have. There is room for what the configuration allows.
pub record CanApply {K A B : Type 0} (number : K → ℕ) (at : Setting) (storage : Storage K A) (work : Scratch K B) (group : GroupLookup K) : Type 0 where
  pub sound : AreSound at storage.held.groups
  pub lookup : IsLookup number storage.held group
  pub within : IsWithinRoom at.config
  pub room : HasRoom at.config.room.groups at.config.room.group_sources work
  pub named : length work.named.members ≤ at.config.limits.group_sources
  pub group_room : storage.held.order.room ≡ at.config.room.groups
  pub source_room : storage.held.source_room ≡ at.config.room.sources

-- The effect of a statement about a group. The work names its sources. The verdict, the groups afterwards, and the
-- queries that the sink takes are those of its outcome. Groups keep their numbers, and storage and work their room. The
-- work counts the group as changed if its filter changed. The bound on moves is this project's.
pub record HasEffect {K A B S : Type 0} (number : K → ℕ) (takes : S → SentQuery → S → Type 0) (at : Setting) (group : GroupLookup K)
    (said : StatementKind) (verdict : Verdict) (storage left : Storage K A) (work done : Scratch K B) (old new : S) : Type 0 where
  pub outcome : (let said_so = statement_of said (named_in number work.named.members) in
      let outcome = stated at (number group.address) said_so storage.held.groups in
      HasOutcome takes outcome (verdict_of verdict) left.held.groups old new)
  pub numbers : KeepsNumbers storage.held left.held
  pub rooms : KeepsRooms storage left
  pub room : KeepsRoom work done
  pub met : done.met ≡ work.met
  pub changed : (before : ℕ → Bool) → AreMarked storage.held work.changed before →
      AreMarked left.held done.changed (λ address. before address || changes storage.held.groups left.held.groups address)
  pub one_changed : met_in done.changed ≤ met_in work.changed + 1
  pub moved : (let sizes = sources_of (group_at storage.held.groups (number group.address)) + length work.named.members in
      MovesWithin (5 * sizes + moved_by_edit) storage left)
