-- The groups that a call changed, as its workspace lists them.
use Rattle.std.specs.Prelude.{◌≡◌, ℕ, ◌<◌, ◌≤◌, ◌^◌, Bool, true, false, List, ◌++◌, length, map as list_map, take, drop}
use Rattle.mq_link.specs.Forwarding.{AreThose}
use Rattle.mq_link.specs.Workspace.{WorkspaceState, with_changed}

-- The workspace after a call at a moment. Its room is the same. If it suffices and the moment is in range, it has the
-- addresses that pass the test. Otherwise it is unchanged.
pub record WorksIn (suffices : Bool) (now : ℕ) (test : ℕ → Bool) (before after : WorkspaceState) : Type 0 where
  pub rooms : after ≡ with_changed before after.changed
  pub done : now ≤ 2 ^ 53 → suffices ≡ true → AreThose test after.changed
  pub too_late : 2 ^ 53 < now → after ≡ before
  pub too_small : suffices ≡ false → after ≡ before

-- an address in the form of C, by a family's form of its number
abbrev pub stored_octets : {K A : Type 0} → (number : K → ℕ) → (octets_of : ℕ → A) → K → A
stored_octets number octets_of a = octets_of (number a)

-- The addresses from a place on are at the front of the memory, as many as there is room for. Each is in the form of C,
-- and the memory after them is unchanged. The answer is the number of all addresses.
pub record TellsChanged {A : Type 0} (octets_of : ℕ → A) (changed : List ℕ) (first : ℕ) (old new : List A) (answer : ℕ) : Type 0 where
  pub addresses_are : new ≡ list_map octets_of (take (length old) (drop first changed)) ++ drop (length (drop first changed)) old
  pub count_is : length changed < 2 ^ 32 → answer ≡ length changed
