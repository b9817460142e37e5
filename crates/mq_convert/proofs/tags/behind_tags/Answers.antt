use Rattle.mq_convert.proofs.Common.{sym, ◌∙◌, ◌≡◌, true, arith, is_tag}
use Rattle.mq_convert.proofs.TagWalk.{tag_off}
use Rattle.mq_convert.proofs.tags.behind_tags.Goals as goal

pub loop-addresses-preserved : goal.loop-addresses-preserved
loop-addresses-preserved c =
    let tag : is_tag c.loop-addresses.kind ≡ true = cc in
    rw c.word-kind.ensures (sym (tag_off c.args.addresses c.loop-addresses.kind c.loop-addresses.rest.now tag (omega arith)) ∙ c.loop-addresses.invariant)
