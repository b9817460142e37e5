use Rattle.mq_convert.proofs.Common.{◌∙◌, [], ◌∷◌, ◌++◌, List, sym, ap, map, ArrayVec, LinkCount, raised}
use Rattle.mq_convert.proofs.Tallied.{tallied_known, tallied_new}
use Rattle.mq_convert.proofs.unread.Unread.count_link.Goals as goal
use Rattle.mq_convert.proofs.unread.Unread.count_link.Goals.{then-not-known, else-not-known}

pub returns : goal.returns
returns c = λ links t.
    let rows = c.raised-links.ensures ∙ ap (map (raised c.args.link)) c.as_slice.ensures.value in
    let row : LinkCount = record { link = c.args.link; count = 1 } in
    elim c.if-not-known.branch [
      | then-not-known w ↦
          tallied_new links c.args.link c.args.self.now _ t (sym c.is_known-known.ensures ∙ w.if-not-known.true) c.saturating_add.ensures
          (ap (λ (v : ArrayVec LinkCount). v.items) w.links-is ∙ w.push.ensures.items ∙ ap (λ (xs : List LinkCount). xs ++ (row ∷ [])) rows)
      | else-not-known w ↦
          tallied_known links c.args.link c.args.self.now _ t (sym c.is_known-known.ensures ∙ w.if-not-known.false) c.saturating_add.ensures
          (ap (λ (v : ArrayVec LinkCount). v.items) w.links-is ∙ rows)
    ]
