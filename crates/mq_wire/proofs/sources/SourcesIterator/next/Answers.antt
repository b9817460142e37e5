use Rattle.mq_wire.proofs.Common.{◌≡◌, ◌∷◌, ◌-◌, ℕ, take, drop, sym, ◌∙◌, arith, ap, big_number, addresses}
use Rattle.mq_wire.{specs.Sources.listed_in, proofs.Addresses.first_address}
use Rattle.mq_wire.proofs.sources.SourcesIterator.next.Goals as goal

pub returns-else-count-eq0-clause-steps : goal.returns-else-count-eq0-clause-steps
returns-else-count-eq0-clause-steps g c =
    let width = g.K.WireKey.WIDTH in
    let count = c.in-InPlace.count in
    let bytes = c.in-InPlace.bytes.now in
    let first : addresses width count bytes ≡ big_number width (take width bytes) ∷ addresses width (count - 1) (drop width bytes) =
    first_address width count bytes (omega arith) in
    let front : c.split_at.result.0.now ≡ take width bytes = c.split_at.ensures.front ∙ ap (λ (n : ℕ). take n bytes) c.WIDTH.ensures in
    let back : c.split_at.result.1.now ≡ drop width bytes = c.split_at.ensures.back ∙ ap (λ (n : ℕ). drop n bytes) c.WIDTH.ensures in
    sym c.self.view_is ∙ ap (listed_in width g.K.Key.number) c.in-InPlace.is ∙ rw (c.read.ensures, front, back) first
