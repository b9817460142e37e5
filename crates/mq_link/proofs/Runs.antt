-- The one run for events and the outlet's answers. Bytes are read as the message that they encode.
use Rattle.mq_link.proofs.Common.{◌≡◌, ◌↔◌, ℕ, Bool, refl, List, [], ◌∷◌, Option, None, Some, Result, Ok, Err, sym, ap, ◌∙◌, subst, option_map, Message}
use Rattle.mq_link.proofs.Common.{WireFault, Family, Spells, message_of, fault_of, Configuration, LinkState, message_in, unless_faulty, read_of, outgoing_of}
use Rattle.mq_link.proofs.Common.{Event, Happening, Happens, step_of, answer_to, answered, RunFrom, events_of}
use Rattle.mq_wire.proofs.Spelled.{no_fault, spelled}

-- one happening
made : Configuration → LinkState → Event × List Bool → Happening
made config before e = record {
  event = e.0;
  answer = answer_to config e.0 before;
  messages = outgoing_of config (step_of config e.0 before);
  answers = e.1;
  after = answered e.1 (step_of config e.0 before);
}

as_made : (config : Configuration) (before : LinkState) (h : Happening) → Happens config before h → h ≡ made config before (h.event, h.answers)
unfolding made
as_made config before h is = λ i. record {
  event = h.event;
  answer = is.answer_is i;
  messages = is.hands_out.handed i;
  answers = h.answers;
  after =
      is.hands_out.leaves i;
}

first_same : (x y : Event × List Bool) (xs ys : List (Event × List Bool)) → x ∷ xs ≡ y ∷ ys → x ≡ y
first_same x y xs ys same = cc

rest_same : (x y : Event × List Bool) (xs ys : List (Event × List Bool)) → x ∷ xs ≡ y ∷ ys → xs ≡ ys
rest_same x y xs ys same = cc

pub one_run : (config : Configuration) (before : LinkState) (hs ks : List Happening) → RunFrom config before hs → RunFrom config before ks →
    events_of hs ≡ events_of ks → hs ≡ ks
one_run config before [] [] h k same = refl
one_run config before [] (y ∷ ks) h k same = cc
one_run config before (x ∷ hs) [] h k same = cc
one_run config before (x ∷ hs) (y ∷ ks) h k same =
    let event = first_same (x.event, x.answers) (y.event, y.answers) (events_of hs) (events_of ks) same in
    let rest = rest_same (x.event, x.answers) (y.event, y.answers) (events_of hs) (events_of ks) same in
    let first : x ≡ y = as_made config before x h.0 ∙ ap (made config before) event ∙ sym (as_made config before y k.0) in
    let later = one_run config x.after hs ks h.1 (subst (λ (z : Happening). RunFrom config z.after ks) (sym first) k.1) rest in
    λ i. first i ∷ later i

-- reading
whole : (family : Family) (pseudo bytes : List ℕ) (message : Message ℕ) → Spells family pseudo bytes message → message_in family bytes ≡ Some message
whole family pseudo bytes message s = ap (option_map (λ kind. message_of family kind bytes)) s.listed ∙ ap Some (sym s.says)

pub read_spelled : (family : Family) (pseudo bytes : List ℕ) (message : Message ℕ) → Spells family pseudo bytes message →
    read_of family pseudo bytes ≡ Ok message
unfolding read_of
read_spelled family pseudo bytes message s = λ i. unless_faulty (no_fault family pseudo bytes message s i) (whole family pseudo bytes message s i)

same_message : (a b : Message ℕ) → ◌≡◌ {A = Result (Message ℕ) WireFault} (Ok a) (Ok b) → a ≡ b
same_message a b same = cc

spells_read : (family : Family) (pseudo bytes : List ℕ) (message : Message ℕ) (fault : Option WireFault) → fault_of family pseudo bytes ≡ fault →
    unless_faulty fault (message_in family bytes) ≡ Ok message → Spells family pseudo bytes message
spells_read family pseudo bytes message (Some fault) is read = cc
spells_read family pseudo bytes message None is read =
    let s = spelled family pseudo bytes is in
    let same = same_message s.0 message (sym (ap (unless_faulty None) (whole family pseudo bytes s.0 s.1)) ∙ read) in
    subst (Spells family pseudo bytes) same s.1

pub message_read : (family : Family) (pseudo bytes : List ℕ) (message : Message ℕ) →
    (read_of family pseudo bytes ≡ Ok message) ↔ Spells family pseudo bytes message
unfolding read_of
message_read family pseudo bytes message =
    (spells_read family pseudo bytes message (fault_of family pseudo bytes) refl, read_spelled family pseudo bytes message)

fault_read_as : (family : Family) (pseudo bytes : List ℕ) (fault : WireFault) (found : Option WireFault) → fault_of family pseudo bytes ≡ found →
    unless_faulty found (message_in family bytes) ≡ Err fault → found ≡ Some fault
fault_read_as family pseudo bytes fault (Some other) is read = cc
fault_read_as family pseudo bytes fault None is read =
    let s = spelled family pseudo bytes is in
    let ok = ap (unless_faulty None) (whole family pseudo bytes s.0 s.1) in
    cc

pub fault_read : (family : Family) (pseudo bytes : List ℕ) (fault : WireFault) →
    (read_of family pseudo bytes ≡ Err fault) ↔ (fault_of family pseudo bytes ≡ Some fault)
unfolding read_of
fault_read family pseudo bytes fault =
    (fault_read_as family pseudo bytes fault (fault_of family pseudo bytes) refl, λ is. ap (λ f. unless_faulty f (message_in family bytes)) is)
