use Rattle.mq_held.proofs.Common.{ℕ, ◌≡◌, ◌+◌, ◌*◌, ◌/◌, not, refl, length, get_or, take, sym, ap, ◌∙◌, arith, filter, get_or_default, take_all, Spends-none}
use Rattle.mq_held.proofs.Common.{Spends-within, Spends-join_within, NumberedKey, bitlen, filter-all, bitlen-mono}
use Rattle.mq_held.proofs.TakenItems.{is_among, left-more, still-there, without-is, length-left}
use Rattle.mq_held.proofs.vacant_groups.remove_each.Goals as goal

times-one_more : (a b : ℕ) → (a + 1) * b ≡ a * b + b
times-one_more a b = grind arith

pub loop-number-init : goal.loop-number-init
loop-number-init g c = record {
  items = sym (filter-all (λ (x : NumberedKey). not (is_among (take 0 c.args.numbers.now) x.number)) c.args.order.now.items (λ k d within. refl));
  room = refl;
  spent = Spends-within _ _ (Spends-none c.args.m.now) (omega arith) (omega arith);
  moved = Spends-within _ _ (Spends-none c.args.moves.now) (omega arith) (omega arith);
}

pub remove-requires : goal.remove-requires
remove-requires g c =
    let ns = c.args.numbers.now in
    let i = c.loop-number.number-index in
    let n = get_or ns i 0 in
    record {
      held = still-there c.args.order.now.items c.loop-number.order.items ns i n c.loop-number-test.true
          (get_or_default ns i 0 n c.loop-number-test.true) c.requires.once c.loop-number.invariant.items (c.requires.there i 0 c.loop-number-test.true);
    }

pub loop-number-preserved : goal.loop-number-preserved
loop-number-preserved g c =
    let ns = c.args.numbers.now in
    let i = c.loop-number.number-index in
    let n = get_or ns i 0 in
    let items = c.args.order.now.items in
    let count = length items in
    let old = c.loop-number.order.items in
    let was = c.loop-number.invariant.items in
    let fewer = length-left (λ (x : NumberedKey). not (is_among (take i ns) x.number)) items was in
    let digits = bitlen-mono (length old) count fewer in
    record {
      items = left-more items old c.remove.new.self.items ns i n c.loop-number-test.true (get_or_default ns i 0 n c.loop-number-test.true) was
          (without-is old c.remove.new.self.items n c.lemma_is_ordered.ensures.distinct c.remove.ensures.items);
      room = c.remove.ensures.room ∙ c.loop-number.invariant.room;
      spent = Spends-join_within _ _ c.loop-number.invariant.spent c.remove.ensures.spent (omega arith)
          (omega (arith, digits, times-one_more i (bitlen count + 2)));
      moved = Spends-join_within _ _ c.loop-number.invariant.moved c.remove.ensures.moved (omega arith)
          (omega (arith, c.lemma_is_ordered.ensures.few_pages, fewer, times-one_more i (1023 + count / 128)));
    }

pub returns-clause-items : goal.returns-clause-items
returns-clause-items g c =
    c.loop-number.invariant.items
    ∙ ap (λ xs. filter (λ (x : NumberedKey). not (is_among xs x.number)) c.args.order.now.items)
    (take_all c.loop-number.number-index c.args.numbers.now c.loop-number-test.false)
