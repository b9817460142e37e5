use Rattle.mq_page.proofs.Common.{rules, refl, inl, inr, [], ◌∷◌, ◌++◌, Some, Err, ℕ, drop-nil, Shows, Memory, unread, passed_in}
use Rattle.mq_page.proofs.Marked.{begun_at, shows}
use Rattle.mq_page.proofs.listing.list.Goals as goal

pub returns-in_default : goal.returns-in_default
returns-in_default c =
    record { text = []; outcome = Err Memory; told = rw (drop-nil {A = ℕ} c.args.skip) c.told.ensures; lists = inl (search rules, refl, refl) }

pub returns : goal.returns
returns c =
    let room = c.into_inner-room.result in
    let text = passed_in room.passed.items ++ room.bytes.items in
    let shown = shows c.args.skip room.skip text c.show.result
    (begun_at (Shows c.args.json) c.show.ensures.shows (unread c.args.capture.now) (Some (c.args.skip ∷ [])) (Some (room.skip ∷ text))
    (search rules) (search rules) (search rules)) in
    record {
      text = text;
      outcome = c.match-show.outcome;
      told = rw (← shown.0, ← c.part.ensures) c.told-2.ensures;
      lists = inr (search rules, _, c.show.result, search rules, shown.1, search rules);
    }
