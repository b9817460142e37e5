use Rattle.mq_held.proofs.Common.{length, arith, ap, subst, AreFilled, HeldState}
use Rattle.mq_held.proofs.Inside.{contained, is-number, known-key, len-held, number-of, room_is, same-address, same-number, within-rows}
use Rattle.mq_held.proofs.held_groups.HeldGroups.lemma_is_numbered.Goals as goal

pub returns-clause-held : goal.returns-clause-held
returns-clause-held g c address held = number-of g.K.Key.number c.self.invariant.0 c.self.view_is address held

pub returns-clause-of_one : goal.returns-clause-of_one
returns-clause-of_one g c address number has = contained g.K.Key.number c.self.invariant.0 c.self.view_is has

pub returns-clause-same : goal.returns-clause-same
returns-clause-same g c address other number has also =
    same-address g.K.Key.number c.self.invariant.0 c.self.view_is has also

pub returns-clause-known : goal.returns-clause-known
returns-clause-known g c address number has = known-key g.K.Key.number c.self.invariant.0 c.self.view_is has

pub returns-clause-one : goal.returns-clause-one
returns-clause-one g c address number other has also =
    same-number g.K.Key.number c.self.invariant.0 c.self.view_is has also

pub returns-clause-within : goal.returns-clause-within
returns-clause-within g c address number has =
    let below = within-rows g.K.Key.number c.self.invariant.0 c.self.view_is number (is-number g.K.Key.number c.self.invariant.0 c.self.view_is has) in
    omega (arith, below, c.self.invariant.2, room_is g.K.Key.number c.self.invariant.0 c.self.view_is)

pub returns-clause-fits : goal.returns-clause-fits
returns-clause-fits g c =
    omega (
      arith,
      c.lemma_is_ordered.ensures.fits,
      len-held g.K.Key.number c.self.invariant.0 c.self.view_is,
      room_is g.K.Key.number c.self.invariant.0 c.self.view_is,
    )

pub returns-clause-filled : goal.returns-clause-filled
returns-clause-filled g c = subst (λ (s : HeldState). AreFilled s.order.pages) c.self.view_is c.lemma_is_ordered.ensures.filled

pub returns-clause-few_pages : goal.returns-clause-few_pages
returns-clause-few_pages g c =
    omega (
      arith,
      c.lemma_is_ordered.ensures.few_pages,
      len-held g.K.Key.number c.self.invariant.0 c.self.view_is,
      ap (λ (s : HeldState). length s.order.pages) c.self.view_is,
    )
