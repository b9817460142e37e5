use Rattle.mq_held.proofs.Common.{◌∙◌, ◌+◌, ◌-◌, not, ap, sym, subst, arith, inl, Spends-within, bitlen, ScheduledGroup, HeldState, group_at, one_if}
use Rattle.mq_held.proofs.Common.{running_in}
use Rattle.mq_held.proofs.Common.{IsRowWritten, sources_of, size_of}
use Rattle.mq_held.proofs.{Amounts.vacant_sources, Inside.some-address}
use Rattle.mq_held.proofs.held_groups.HeldGroups.put.Goals as goal

pub returns-then-is_vacant-clause-order : goal.returns-then-is_vacant-clause-order
returns-then-is_vacant-clause-order g c =
    let found = some-address c.args.self.now c.args.number c.requires.number in
    ap (λ (s : HeldState). s.order) (c.make_vacant.ensures.groups found.0 found.1)

pub returns-then-is_vacant-clause-source_room : goal.returns-then-is_vacant-clause-source_room
returns-then-is_vacant-clause-source_room g c =
    let found = some-address c.args.self.now c.args.number c.requires.number in
    ap (λ (s : HeldState). s.source_room) (c.make_vacant.ensures.groups found.0 found.1)

pub returns-then-is_vacant-clause-moved : goal.returns-then-is_vacant-clause-moved
returns-then-is_vacant-clause-moved g c address has =
    let e : ScheduledGroup = record { group = c.args.group.now.state; schedule = c.args.schedule } in
    let none = vacant_sources e (sym c.is_vacant.ensures ∙ c.if-is_vacant.true) in
    let before = c.is_vacant-was_vacant.ensures address has in
    let digits = ap (λ b. bitlen (running_in c.args.self.now.groups - one_if (not b))) before in (
      0,
      record { how = inl (ap (λ (s : HeldState). s.ahead) (c.make_vacant.ensures.groups address has), sym none) },
      Spends-within _ _ c.make_vacant.ensures.moved (omega arith) (omega (arith, digits)),
    )

pub returns-else-is_vacant-clause-moved : goal.returns-else-is_vacant-clause-moved
returns-else-is_vacant-clause-moved g c address has =
    let before = c.is_vacant-was_vacant.ensures address has in
    let written = c.write.ensures.moved address has in
    let s = c.args.self.now in
    let size = size_of c.args.group.now.state in
    let digits = ap (λ b. bitlen (running_in s.groups - one_if (not b))) before in (
      written.0,
      subst (λ b. IsRowWritten s (sources_of (group_at s.groups address)) size size (running_in s.groups + one_if b) c.write.new.self.ahead written.0) before
          written.1,
      Spends-within _ _ written.2 (omega arith) (omega (arith, digits)),
    )

pub returns-else-is_vacant-clause-order : goal.returns-else-is_vacant-clause-order
returns-else-is_vacant-clause-order g c =
    let found = some-address c.args.self.now c.args.number c.requires.number in
    ap (λ (s : HeldState). s.order) (c.write.ensures.groups found.0 found.1)

pub returns-else-is_vacant-clause-source_room : goal.returns-else-is_vacant-clause-source_room
returns-else-is_vacant-clause-source_room g c =
    let found = some-address c.args.self.now c.args.number c.requires.number in
    ap (λ (s : HeldState). s.source_room) (c.write.ensures.groups found.0 found.1)
