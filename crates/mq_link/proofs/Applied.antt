-- The conditions and the effect of a statement, whatever the comparisons.
use Rattle.mq_link.proofs.Common.{◌≡◌, ℕ, refl, ap, arith, named_in, SentQuery, StatementKind, Scratch, Storage, CanApply, HasEffect, statement_of, verdict_of}
use Rattle.mq_link.proofs.Common.{Setting, leaving, stated, met_in, KeepsRoom, has_counted, put_by_rows}
use Rattle.mq_link.specs.{declared.statement.Verdict.Verdict, declared.storage.GroupLookup.GroupLookup}
use Rattle.mq_link.proofs.{ChangedRecords.marked_still, Moved.paid_none, Moved.paid_within}

-- after more comparisons it can still be applied
pub can_apply_still : {K A B : Type 0} {number : K → ℕ} {at : Setting} {storage : Storage K A} {work : Scratch K B} {group : GroupLookup K} (spent : ℕ)
    → CanApply number at storage work group → CanApply number at (has_counted storage spent) work group
can_apply_still spent can = record {
  sound = can.sound;
  lookup = can.lookup;
  within = can.within;
  room = can.room;
  named = can.named;
  group_room = can.group_room;
  source_room = can.source_room;
}

module _ {K A B S : Type 0} {number : K → ℕ} {takes : S → SentQuery → S → Type 0} {at : Setting} {group : GroupLookup K}
    {said : StatementKind} {verdict : Verdict} {storage : Storage K A} {work done : Scratch K B} (spent : ℕ) where
  -- the effect is that on the storage before these comparisons
  pub effect_before : {left : Storage K A} {old new : S} → HasEffect number takes at group said verdict (has_counted storage spent) left work done old new
      → HasEffect number takes at group said verdict storage left work done old new
  effect_before effect = record {
    outcome = effect.outcome;
    numbers = effect.numbers;
    rooms = record { groups = effect.rooms.groups; sources = effect.rooms.sources };
    room = effect.room;
    met = effect.met;
    changed = effect.changed;
    one_changed = effect.one_changed;
    moved = effect.moved;
  }

  -- a statement that is ignored or refused leaves the groups
  pub groups_left : {sink : S}
      → stated at (number group.address) (statement_of said (named_in number work.named.members)) storage.held.groups
      ≡ leaving storage.held.groups (verdict_of verdict)
      → KeepsRoom work done → done.met ≡ work.met → done.changed ≡ work.changed
      → HasEffect number takes at group said verdict storage (has_counted storage spent) work done sink sink
  groups_left is room met changed = record {
    outcome = rw is (record { verdict_is = refl; groups_are = refl; sent = refl });
    numbers = λ address number has. has;
    rooms = record { groups = refl; sources = refl };
    room = room;
    met = met;
    changed = λ before marked. rw changed (marked_still storage.held storage.held.groups work.changed before refl marked);
    one_changed = omega (arith, ap met_in changed);
    moved = paid_within _ (paid_none (put_by_rows storage.held) storage.moves) (omega arith);
  }
