use Rattle.mq_link.proofs.Common.{◌≡◌, ◌+◌, ◌*◌, ◌||◌, ℕ, max, List, length, None, Some, Result, Ok, sym, ap, ◌∙◌, subst, arith, Spends, Spends-within}
use Rattle.mq_link.proofs.Common.{Spends-none, Message, WireFault, numbered_message, Dropped, least_length, AreThose, changed_by_message, changed_by_read}
use Rattle.mq_link.proofs.Common.{least_of, least_unless, least_after, HasMoved, numbered_read, Envelope, Receipt, taken_in, count_read, pseudo_of, read_of}
use Rattle.mq_link.proofs.Common.{receipt_after, drop_reason, HasReceipt, RouterValue, silent_step, state_of, TakesQuery, sources_in}
use Rattle.std.specs.FinMap as map
use Rattle.mq_link.proofs.{LeastLengths.long_where_read, LinkReceived.is_dropped, LinkReceived.is_taken, ListedGroups.those_alone, Moved.paid_none}
use Rattle.mq_link.proofs.{Moved.paid_within, Receipts.IsCarriedWhere, Receipts.carried_where_read, RecordsRead.few_where_read}
use Rattle.mq_link.proofs.router.Router.take_in.Given.{Over}
use Rattle.mq_link.proofs.router.Router.take_in.Goals as goal
use Rattle.mq_link.proofs.router.Router.take_in.Goals.{After-take_message, After-count_dropped}

-- the message of the datagram, and the state before it
abbrev bytes_read : (g : Over) → Envelope → List ℕ → Result (Message ℕ) WireFault
bytes_read g around bytes = read_of g.F.Family.FAMILY (pseudo_of g.F.Family.FAMILY around bytes) bytes

abbrev whole : (g : Over) → Envelope → List ℕ → RouterValue → Receipt
whole g around bytes before = receipt_after before.at.config around (bytes_read g around bytes) (silent_step (state_of before))

pub take_message-requires-clause-kept : goal.take_message-requires-clause-kept
take_message-requires-clause-kept g c =
    let number = g.F.Address.Key.number in
    let around = g.F.Family.envelope_of c.args.envelope.now in
    (λ i. drop_reason (sym c.config.ensures i) around (numbered_read number (sym c.in-Ok.is i))) ∙ sym c.drop_reason.ensures ∙ c.in_default.is

pub take_message-requires-clause-carried : goal.take_message-requires-clause-carried
take_message-requires-clause-carried g c =
    let family = g.F.Family.FAMILY in
    let pseudo = pseudo_of family (g.F.Family.envelope_of c.args.envelope.now) c.args.body.now in
    subst IsCarriedWhere (sym c.read-read.ensures ∙ ap (numbered_read g.F.Address.Key.number) c.in-Ok.is) (carried_where_read family pseudo c.args.body.now)

pub take_message-requires-clause-counted : goal.take_message-requires-clause-counted
take_message-requires-clause-counted g c =
    let family = g.F.Family.FAMILY in
    let pseudo = pseudo_of family (g.F.Family.envelope_of c.args.envelope.now) c.args.body.now in
    few_where_read family pseudo c.args.body.now _ (λ i. let b = c.type_inv.body i in omega (arith, b))
    (sym c.read-read.ensures ∙ ap (numbered_read g.F.Address.Key.number) c.in-Ok.is)

-- a datagram that is dropped comes to its reason
dropped : (g : Over) (c : After-count_dropped g) → (let around = g.F.Family.envelope_of c.args.envelope.now in
    (drop_reason c.args.self.now.at.config around (numbered_read g.F.Address.Key.number c.read-read.result) ≡ Some c.in-Some.reason)
    × HasReceipt (TakesQuery g.O.QueryOutlet.takes g.F.Family.FAMILY) (whole g around c.args.body.now c.args.self.now)
    (Dropped c.in-Some.reason) c.args.self.now c.count_dropped.new.self c.args.sender.now c.args.sender.now)
dropped g c =
    let read = numbered_read g.F.Address.Key.number c.read-read.result in
    let around = g.F.Family.envelope_of c.args.envelope.now in
    let before = c.args.self.now in
    let is : drop_reason before.at.config around read ≡ Some c.in-Some.reason =
    ap (λ k. drop_reason k around read) (ap (λ (r : RouterValue). r.at.config) (sym c.count_read.ensures) ∙ sym c.config.ensures) ∙
    sym c.drop_reason.ensures ∙ c.in-Some.is
    in
    let takes = TakesQuery g.O.QueryOutlet.takes g.F.Family.FAMILY in
    let comes = is_dropped takes c.args.sender.now around read c.in-Some.reason before c.count_read.new.self c.count_dropped.new.self is
    c.count_read.ensures c.count_dropped.ensures in (
      is,
      subst (λ x. HasReceipt takes (receipt_after before.at.config around x (silent_step (state_of before)))
          (Dropped c.in-Some.reason) before c.count_dropped.new.self c.args.sender.now c.args.sender.now) c.read-read.ensures comes,
    )

pub returns-in-Some-clause-receipt : goal.returns-in-Some-clause-receipt
returns-in-Some-clause-receipt g c = (dropped g c).1

pub returns-in-Some-clause-spent : goal.returns-in-Some-clause-spent
returns-in-Some-clause-spent g c =
    let around = g.F.Family.envelope_of c.args.envelope.now in
    let before = c.args.self.now in
    let least = ap (λ x. least_unless before.at (numbered_read g.F.Address.Key.number c.read-read.result) x before.groups) (sym (dropped g c).0) ∙
    ap (λ x. least_after before.at around x before.groups) c.read-read.ensures in
    let same = ap (λ (r : RouterValue). r.spent) c.count_dropped.ensures ∙ ap (λ (r : RouterValue). r.spent) c.count_read.ensures in
    subst (Spends _ _ before.spent) (sym same) (Spends-within _ _ (Spends-none before.spent) (omega (arith, least)) (omega arith))

-- any other is read as its message, and comes to what that comes to
taken : (g : Over) (c : After-take_message g) →
    (let around = g.F.Family.envelope_of c.args.envelope.now in let said = numbered_message g.F.Address.Key.number c.in-Ok.message in
    (bytes_read g around c.args.body.now ≡ Ok said)
    × (drop_reason c.args.self.now.at.config around (Ok said) ≡ None)
    × (whole g around c.args.body.now c.args.self.now ≡ taken_in c.count_read.new.self.at.config around said (silent_step (state_of c.count_read.new.self))))
taken g c =
    let number = g.F.Address.Key.number in
    let around = g.F.Family.envelope_of c.args.envelope.now in
    let before = c.args.self.now in
    let said = numbered_message number c.in-Ok.message in
    let read : bytes_read g around c.args.body.now ≡ Ok said = sym c.read-read.ensures ∙ ap (numbered_read number) c.in-Ok.is in
    let none : drop_reason before.at.config around (Ok said) ≡ None =
    (λ i. drop_reason ((ap (λ (r : RouterValue). r.at.config) (sym c.count_read.ensures) ∙ sym c.config.ensures) i) around
    (numbered_read number (sym c.in-Ok.is i))) ∙ sym c.drop_reason.ensures ∙ c.in_default.is
    in
    let counted : c.count_read.new.self ≡ record before { counters = count_read (Ok said) before.counters } =
    c.count_read.ensures ∙
    ap (λ x. let after : RouterValue = record before { counters = count_read (numbered_read number x) before.counters } in after) c.in-Ok.is
    in (
      read,
      none,
      ap (λ x. receipt_after before.at.config around x (silent_step (state_of before))) read ∙
          is_taken around said before c.count_read.new.self none counted,
    )

pub returns-clause-receipt : goal.returns-clause-receipt
returns-clause-receipt g c =
    let whole = c.take_message.ensures.receipt in
    let config = ap (λ (r : RouterValue). r.at.config) c.count_read.ensures in
    subst (λ (x : Receipt). HasReceipt (TakesQuery g.O.QueryOutlet.takes g.F.Family.FAMILY) x c.take_message.result c.args.self.now c.take_message.new.self
    c.args.sender.now c.take_message.new.sender) (sym (taken g c).2)
    (record {
      step = record {
        leaves = record { config = whole.step.leaves.config ∙ config; state_is = whole.step.leaves.state_is };
        sent =
            whole.step.sent;
      };
      answer_is = whole.answer_is;
    })

pub returns-clause-spent : goal.returns-clause-spent
returns-clause-spent g c =
    let around = g.F.Family.envelope_of c.args.envelope.now in
    let before = c.args.self.now in
    let said = numbered_message g.F.Address.Key.number c.in-Ok.message in
    let long = long_where_read g.F.Family.FAMILY (pseudo_of g.F.Family.FAMILY around c.args.body.now) c.args.body.now said (taken g c).0 in
    let least : least_of before.at said before.groups ≡ least_after before.at around (bytes_read g around c.args.body.now) before.groups =
    ap (λ x. least_unless before.at (Ok said) x before.groups) (sym (taken g c).1) ∙ ap (λ x. least_after before.at around x before.groups) (sym (taken g c).0)
    in
    let spent = subst (λ (r : RouterValue). Spends (least_of r.at said r.groups)
    (24 * sources_in r.groups + max (20 * map.len r.groups) (length c.args.work.now.changed) + 64 * least_length said) r.spent
    c.take_message.new.self.spent) c.count_read.ensures c.take_message.ensures.spent in
    Spends-within _ _ spent (omega (arith, least)) (omega (arith, long))

pub returns-in-Some-clause-moved : goal.returns-in-Some-clause-moved
returns-in-Some-clause-moved g c =
    let before = c.args.self.now in
    let none = paid_within (24 * sources_in before.groups + 22 * map.len before.groups + 256 * length c.args.body.now)
    (paid_none before.put_by before.moved) (omega arith) in
    rw (c.count_dropped.ensures, c.count_read.ensures) none

pub returns-clause-moved : goal.returns-clause-moved
returns-clause-moved g c =
    let around = g.F.Family.envelope_of c.args.envelope.now in
    let said = numbered_message g.F.Address.Key.number c.in-Ok.message in
    let long = long_where_read g.F.Family.FAMILY (pseudo_of g.F.Family.FAMILY around c.args.body.now) c.args.body.now said (taken g c).0 in
    let moved = subst (λ (r : RouterValue). HasMoved (24 * sources_in r.groups + 22 * map.len r.groups + 256 * least_length said) r
    c.take_message.new.self) c.count_read.ensures c.take_message.ensures.moved in
    paid_within _ moved (omega (arith, long))

-- a datagram that is dropped changes nothing more
pub returns-in-Some-clause-changed : goal.returns-in-Some-clause-changed
returns-in-Some-clause-changed g c by_tick those =
    let around = g.F.Family.envelope_of c.args.envelope.now in
    let before = c.args.self.now in
    let read = numbered_read g.F.Address.Key.number c.read-read.result in
    subst (λ x. AreThose (λ address. by_tick address || changed_by_read before.at x (drop_reason before.at.config around x) before.groups address)
    c.args.work.now.changed) c.read-read.ensures
    (subst (λ x. AreThose (λ address. by_tick address || changed_by_read before.at read x before.groups address) c.args.work.now.changed)
    (sym (dropped g c).0) (those_alone those))

pub returns-clause-changed : goal.returns-clause-changed
returns-clause-changed g c by_tick those =
    let around = g.F.Family.envelope_of c.args.envelope.now in
    let before = c.args.self.now in
    let said = numbered_message g.F.Address.Key.number c.in-Ok.message in
    let left = c.take_message.new.work.changed in
    let there = subst (λ (r : RouterValue). AreThose (λ address. by_tick address || changed_by_message r.at said r.groups address) left)
    c.count_read.ensures (c.take_message.ensures.changed by_tick those) in
    subst (λ x. AreThose (λ address. by_tick address || changed_by_read before.at x (drop_reason before.at.config around x) before.groups address)
    left) (sym (taken g c).0)
    (subst (λ x. AreThose (λ address. by_tick address || changed_by_read before.at (Ok said) x before.groups address) left) (sym (taken g c).1) there)
