use Rattle.mq_check.proofs.Common.{◌≡◌, ◌<◌, ℕ, List, get_or, subst, length, refl, arith, ap, sym, ◌∙◌, list_map, Entry, AreMarked, AreBounded, IsJudgedTo}
use Rattle.mq_check.proofs.Common.{first_terms, terms_in, numbered_asked, numbered_entry, numbered_terms, WaitingValue, is_free, with_partner}
use Rattle.mq_check.proofs.{JudgedEntries.judged_joined, MarkedEntries.made_set, MarkedEntries.marked_joined, MarkedEntries.bounded_joined}
use Rattle.mq_check.proofs.Waits.{made_at, made_long, partner_of_none, partner_joined}
use Rattle.mq_check.proofs.waiting.Waiting.join.Goals as goal

pub returns-in_err-place-clause-joined : goal.returns-in_err-place-clause-joined
returns-in_err-place-clause-joined g c =
    let number = g.F.Address.Key.number in
    partner_of_none _ _ _ _ c.approach.new.self c.in_err-place.ensures.none ∙
    ap (with_partner c.args.side (numbered_asked number c.args.asked) c.args.from.now (numbered_terms number c.args.other)) c.approach.ensures

pub returns-clause-terms : goal.returns-clause-terms
returns-clause-terms g c =
    let f = numbered_entry g.F.Address.Key.number in
    let made = ap (λ (w : WaitingValue). w.entries) c.self.view_is in
    let found = c.in_ok-place.ensures.some in
    let here = made_at f _ _ c.in_ok-place.place _ made c.index.ensures in
    let asked = numbered_asked g.F.Address.Key.number c.args.asked in
    c.terms.ensures ∙ ap terms_in here ∙ sym (found.terms (f c.index.result.now)) ∙
    ap (λ (w : WaitingValue). first_terms (is_free c.args.side asked c.args.from.now) w.entries) c.approach.ensures

pub returns-clause-joined : goal.returns-clause-joined
returns-clause-joined g c =
    let number = g.F.Address.Key.number in
    partner_joined (numbered_entry number) _ _ c.approach.new.self c.in_ok-place.place c.index.result.now _ _ _ _ _
    c.in_ok-place.ensures.some c.self.view_is c.index.ensures c.joined.ensures
    ∙ ap (with_partner c.args.side (numbered_asked number c.args.asked) c.args.from.now (numbered_terms number c.args.other)) c.approach.ensures

pub invariant_of-self : goal.invariant_of-self
invariant_of-self g c =
    let f = numbered_entry g.F.Address.Key.number in
    let are = c.self.invariant in
    let items = c.self.inside.entries.items in
    let there : c.in_ok-place.place < length items =
    omega (arith, c.in_ok-place.ensures.some.within, made_long f _ _ (ap (λ (w : WaitingValue). w.entries) c.self.view_is)) in
    let there_too : c.in_ok-place.place < length (list_map f items) = omega (arith, there, made_long f items _ refl) in
    let changed = made_set f items c.in_ok-place.place _ _ c.joined.ensures in
    let read : f c.index.result.now ≡ get_or (list_map f items) c.in_ok-place.place (f c.index.result.now) =
    made_at f items (list_map f items) c.in_ok-place.place c.index.result.now refl c.index.ensures in (
      omega (arith, are.0),
      subst (λ (es : List (Entry ℕ)). AreMarked g.F.Address.WireKey.WIDTH c.self.inside.horizon es c.pass.new.self) (sym {A = List (Entry ℕ)} changed)
          (marked_joined _ _ _ _ _ _ _ _ are.1 there_too c.pass.ensures.slots c.pass.ensures.others c.pass.ensures.nears),
      subst (λ (es : List (Entry ℕ)). AreBounded g.F.Address.WireKey.WIDTH es c.self.inside.latest.items) (sym {A = List (Entry ℕ)} changed)
          (bounded_joined _ _ _ _ _ _ are.2 there_too read),
      are.3,
      subst (λ (es : List (Entry ℕ)). IsJudgedTo c.self.inside.judged es) (sym {A = List (Entry ℕ)} changed)
          (judged_joined _ _ _ _ _ are.4 there_too read),
    )
