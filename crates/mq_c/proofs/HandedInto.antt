-- The messages that a call has put into the provided memory.
use Rattle.mq_c.proofs.Common.{◌≡◌, ℕ, Bool, List, [], ◌∷◌, sym, ap, ◌∙◌, subst, Outgoing, outbox_of, Puts}
use Rattle.mq_link.specs.Handing.{HandsOver}
use Rattle.mq_c.specs.{declared.queries.Queries.Queries, Queries.TakesFramed}

-- all queries were put there, and it is the same memory
pub handed : (width : ℕ) (old : Queries) (messages : List Outgoing) (answers : List Bool) (new : Queries)
    → HandsOver (TakesFramed width) old messages answers new
    → Puts width (outbox_of old) messages answers (outbox_of new) × (new.out.ghost_name ≡ old.out.ghost_name)
handed width old [] [] new h = (ap outbox_of h, sym (ap (λ (q : Queries). q.out.ghost_name) h))
handed width old [] (answer ∷ answers) new h = absurd h
handed width old (message ∷ messages) [] new h = absurd h
handed width old (message ∷ messages) (answer ∷ answers) new h =
    let taken = h.1 in
    let rest = handed width h.0 messages answers new h.2 in
    ((taken.fits, subst (λ box. Puts width box messages answers (outbox_of new)) taken.puts rest.0), rest.1 ∙ taken.same_out)
