use Rattle.mq_convert.proofs.Common.{List, arith, ap, refl, ◌∙◌, sym, slice_get, Interface, context_of}
use Rattle.std.proofs.lemmas.Option.{slice_get_read}
use Rattle.mq_convert.proofs.StoredDrops.{dropped_stored}
use Rattle.mq_convert.proofs.context.Context.add_dropped.Goals as goal

pub returns : goal.returns
returns c =
    let at = c.in-Some.ensures.lookup in
    let found = slice_get_read c.as_slice.result.now _ c.args.id c.in-Some.interface.now refl at.3.0 at.1 in
    dropped_stored (context_of c.args.self.now) c.args.id c.args.more _ c.in-Some.interface.now _ _
    (ap (λ (xs : List Interface). slice_get xs c.args.id) (sym c.as_slice.ensures.value) ∙ found)
    c.raised-interface.ensures (omega arith) c.as_mut_slice.ensures.value
