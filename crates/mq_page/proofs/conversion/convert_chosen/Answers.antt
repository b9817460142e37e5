use Rattle.mq_page.proofs.Common.{rules, refl, inl, inr, [], ◌∷◌, ◌++◌, Some, Err, ℕ, drop-nil, Converts, Memory, unread, passed_in}
use Rattle.mq_page.proofs.Marked.{begun_at, converts}
use Rattle.mq_page.proofs.conversion.convert_chosen.Goals as goal

pub returns-in_default : goal.returns-in_default
returns-in_default c =
    record { text = []; outcome = Err Memory; told = rw (drop-nil {A = ℕ} c.args.skip) c.told.ensures; converts = inl (search rules, refl, refl) }

pub returns : goal.returns
returns c =
    let room = c.into_inner-room.result in
    let text = passed_in room.passed.items ++ room.bytes.items in
    let converted = converts c.args.skip room.skip text c.convert_in.result
    (begun_at (Converts c.args.choice) c.convert_in.ensures.converts (unread c.args.capture.now) (Some (c.args.skip ∷ []))
    (Some (room.skip ∷ text)) (search rules) (search rules) (search rules)) in
    record {
      text = text;
      outcome = c.match-convert_in.outcome;
      told = rw (← converted.0, ← c.part.ensures) c.told-2.ensures;
      converts = inr (search rules, _, c.convert_in.result, search rules, converted.1, search rules);
    }
