use Rattle.mq_check.proofs.Common.{◌≡◌, ◌<◌, ◌≤◌, ◌++◌, ◌∷◌, [], ◌∙◌, ℕ, List, get_or, set, ap, subst, sym, length, arith, list_map, length-set, get_or_read}
use Rattle.mq_check.proofs.Common.{Entry, wanted_slot, wanted_moment, AreMarked, AreBounded, IsJudgedTo, numbered_entry}
use Rattle.mq_check.proofs.JudgedEntries.{judged_pushed}
use Rattle.mq_check.proofs.{MarkedEntries.made_put, MarkedEntries.marked_pushed, MarkedEntries.bounded_pushed, Waits.entry_put, Waits.no_room_left}
use Rattle.mq_check.proofs.waiting.Waiting.put.Goals as goal

pub returns-then-len-lt-ROOM : goal.returns-then-len-lt-ROOM
returns-then-len-lt-ROOM g c =
    let f = numbered_entry g.F.Address.Key.number in
    let few : length c.self.inside.entries.items < 65536 = omega (arith, c.self.inside.entries.ok.0) in
    entry_put f _ _ _ c.args.entry _ few c.self.view_is c.push_back_reserved.ensures.items

pub returns-else-len-lt-ROOM : goal.returns-else-len-lt-ROOM
returns-else-len-lt-ROOM g c =
    let f = numbered_entry g.F.Address.Key.number in
    let many : 65536 ≤ length c.self.inside.entries.items = omega (arith, c.self.inside.entries.ok.0) in
    no_room_left f _ _ _ _ many c.self.view_is

pub invariant_of-self : goal.invariant_of-self
invariant_of-self g c =
    let f = numbered_entry g.F.Address.Key.number in
    let are = c.self.invariant in
    let items = c.self.inside.entries.items in
    let put = made_put f items _ c.args.entry c.push_back_reserved.ensures.items in
    let slot : c.wanted_slot-slot.result ≡ wanted_slot g.F.Address.WireKey.WIDTH (f c.args.entry) = c.wanted_slot-slot.ensures.slot in
    let width = g.F.Address.WireKey.WIDTH in
    let latest = c.self.inside.latest.items in
    let here : c.wanted_slot-slot.result < length latest = omega (arith, c.wanted_slot-slot.ensures.within, are.3) in
    let known : wanted_slot width (f c.args.entry) < length latest = omega (arith, slot, here) in
    let read = get_or_read latest c.wanted_slot-slot.result c.index-before.result.now here c.index-before.ensures 0 in
    let first : get_or latest (wanted_slot width (f c.args.entry)) 0 ≤ c.later_of.result =
    omega (arith, ap (λ (s : ℕ). get_or latest s 0) slot, read, c.later_of.ensures.first) in
    let second : wanted_moment (f c.args.entry) ≤ c.later_of.result = omega (arith, c.wanted_moment-at.ensures, c.later_of.ensures.second) in
    let slots = c.push.ensures.slots ∙ ap (λ (s : ℕ). c.self.inside.trails.slots ++ s ∷ []) c.slot_in.ensures.slot in (
      omega (arith, are.0, c.push_back_reserved.ensures.capacity),
      subst (λ (es : List (Entry ℕ)). AreMarked width c.self.inside.horizon es c.push.new.self) (sym {A = List (Entry ℕ)} put)
          (marked_pushed _ _ _ _ _ _ are.1 slots c.push.ensures.here c.push.ensures.near c.push.ensures.others c.push.ensures.nears),
      subst (λ (es : List (Entry ℕ)). AreBounded width es (set latest c.wanted_slot-slot.result c.later_of.result)) (sym {A = List (Entry ℕ)} put)
          (subst (λ (s : ℕ). AreBounded width (list_map f items ++ f c.args.entry ∷ []) (set latest s c.later_of.result)) (sym {A = ℕ} slot)
          (bounded_pushed _ _ _ _ _ are.2 known first second)),
      omega (arith, length-set {A = ℕ}, are.3),
      subst (λ (es : List (Entry ℕ)). IsJudgedTo c.self.inside.judged es) (sym {A = List (Entry ℕ)} put) (judged_pushed _ _ _ are.4),
    )
