use Rattle.mq_held.proofs.Common.{◌≡◌, refl, ◌∙◌, [], length, arith, ap, replicate, length-replicate, no_head}
use Rattle.mq_arena.proofs.Takes.{both, refused}
use Rattle.mq_held.specs.Sizes.{bytes_of_groups}
use Rattle.mq_held.proofs.StoredEdits.{IsStored-none, groups_by-none}
use Rattle.mq_held.proofs.held_groups.HeldGroups.with_room.Goals as goal

pub invariant_of-result : goal.invariant_of-result
invariant_of-result g c =
    let groups = c.args.groups in
    let heads : c.in_ok-filled.field-0.items ≡ replicate groups no_head = c.in_ok-filled.ensures.items ∙ ap (replicate groups) c.vacant_head.ensures in
    let count : length c.in_ok-filled.field-0.items ≡ groups = ap length heads ∙ length-replicate groups no_head in
    let stored = IsStored-none g.K.Key.number groups in
    rw (heads, c.in_ok-with_room.ensures.keys, c.in_ok-new.ensures.rows, c.in_ok-with_room-2.ensures.moments)
    (stored, refl, length-replicate groups [], length-replicate groups no_head, refl, c.requires.numbered, omega arith)

pub returns-clause-groups : goal.returns-clause-groups
returns-clause-groups g c =
    rw (c.in_ok-with_room.ensures.keys, c.in_ok-new.ensures.rows, groups_by-none g.K.Key.number c.in_ok-filled.field-0.items (replicate c.args.groups [])) refl

pub returns-in_err-with_room-2-clause-memory : goal.returns-in_err-with_room-2-clause-memory
unfolding bytes_of_groups
returns-in_err-with_room-2-clause-memory g c =
    refused c.from_residual-in_err-with_room-2.result c.from_residual-in_err-with_room-2.ensures.0
    (both (both (both c.in_ok-with_room.ensures.memory c.in_ok-filled.ensures.memory) c.in_ok-new.ensures.memory) c.in_err-with_room-2.ensures.memory)

pub returns-clause-memory : goal.returns-clause-memory
unfolding bytes_of_groups
returns-clause-memory g c = both (both (both c.in_ok-with_room.ensures.memory c.in_ok-filled.ensures.memory) c.in_ok-new.ensures.memory)
    c.in_ok-with_room-2.ensures.memory
