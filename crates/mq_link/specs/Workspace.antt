-- A workspace, as a contract sees it, and the limits for which it suffices.
use Rattle.std.specs.Prelude.{◌≡◌, ℕ, ◌*◌, ◌≤◌, nat_le, Bool, ◌&&◌, List, length, refl}
use Rattle.std.specs.Coded.{Coded, code_by, coded×, coded_ℕ, coded_list}
use Rattle.mq_link.specs.declared.configuration.Limits.{Limits}
use Rattle.mq_link.specs.declared.storage.Lists.{Lists}
use Rattle.mq_link.specs.declared.storage.Scratch.{Scratch}
use Rattle.mq_sets.specs.Ascending.{IsAscending}
use Rattle.mq_link.specs.Seen.{AreNone}
use Rattle.mq_link.specs.Storage.{HasRoom, HasSpace}

-- The number of groups for which a workspace has room, and of sources of one group. `changed` has the addresses of the
-- groups that the last call with it has changed. Its content before a call makes no difference to the call.
pub record WorkspaceState : Type 0 where
  pub groups : ℕ
  pub group_sources : ℕ
  pub changed : List ℕ

abbrev pub workspace_code : Coded WorkspaceState
workspace_code =
    code_by ((ℕ × ℕ) × List ℕ) (coded× (coded× coded_ℕ coded_ℕ) (coded_list coded_ℕ))
    (λ w. ((w.groups, w.group_sources), w.changed))
    (λ p. record { groups = p.0.0; group_sources = p.0.1; changed = p.1 })
    (λ _. refl)

-- calls of a link with these limits may use the workspace
abbrev pub suffices : Limits → WorkspaceState → Bool
suffices limits w = nat_le limits.groups w.groups && nat_le limits.group_sources w.group_sources

-- the workspace after a call, with another list of changed groups
abbrev pub with_changed : WorkspaceState → List ℕ → WorkspaceState
with_changed w changed = record w { changed = changed }

-- The workspace has its room, no group is met or changed by the records of a datagram, and the addresses ascend. There
-- are at most twice as many addresses as groups may be: those that a tick ends, and those that records make in their
-- place.
pub record IsWorkspace {K A : Type 0} (number : K → ℕ) (groups group_sources : ℕ) (scratch : Scratch K A) (lists : Lists K A) : Type 0 where
  pub room : HasRoom groups group_sources scratch
  pub list_room : HasSpace groups lists
  pub marks : length scratch.changed ≡ groups
  pub none_met : AreNone scratch.met
  pub none_changed : AreNone scratch.changed
  pub ascending : IsAscending number lists.changed.items
  pub few : length lists.changed.items ≤ 2 * groups
