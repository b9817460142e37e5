-- The result of all messages of a step at an outlet.
use Rattle.mq_check.proofs.Common.{◌≡◌, Bool, List, [], ◌∷◌, refl, ap, sym, ◌∙◌, Family, HandsOver, Outgoing, all_sent, with_messages, WantingValue}
use Rattle.mq_check.proofs.Common.{TakesMessage}

-- the messages are wanted
abbrev pub after_messages : Family → List Outgoing → WantingValue → WantingValue
after_messages family messages w = record w { checking = with_messages family w.moment w.basis.packets w.by_tick w.is_returning messages w.checking }

pub all_wanted : (family : Family) (old : WantingValue) (messages : List Outgoing) (answers : List Bool) (new : WantingValue)
    → HandsOver (TakesMessage family) old messages answers new → new ≡ after_messages family messages old
all_wanted family old [] [] new same = sym same
all_wanted family old (message ∷ messages) (answer ∷ answers) new handed =
    all_wanted family handed.0 messages answers new handed.2 ∙ ap (after_messages family messages) handed.1.takes
all_wanted family old _ _ new handed = absurd handed

pub basis_kept : (family : Family) (old new : WantingValue) (messages : List Outgoing) (answers : List Bool) →
    HandsOver (TakesMessage family) old messages answers new → new.basis ≡ old.basis
basis_kept family old new messages answers handed = ap (λ (w : WantingValue). w.basis) (all_wanted family old messages answers new handed)

pub each_sent : (family : Family) (old : WantingValue) (messages : List Outgoing) (answers : List Bool) (new : WantingValue)
    → HandsOver (TakesMessage family) old messages answers new → answers ≡ all_sent messages
each_sent family old [] [] new same = refl
each_sent family old (message ∷ messages) (answer ∷ answers) new handed =
    let rest = each_sent family handed.0 messages answers new handed.2 in
    λ i. handed.1.sent_is i ∷ rest i
each_sent family old _ _ new handed = absurd handed
