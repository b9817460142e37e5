-- A run of a link, made of what each call has done.
use Rattle.mq_link.proofs.Common.{◌≡◌, ◌<◌, ◌+◌, ℕ, refl, List, [], ◌∷◌, length, map, drop, get_or, Bool, None, Some, sym, ap, ◌∙◌, subst, drop_more, Received}
use Rattle.mq_link.proofs.Common.{HasRun, left_by, messages_of, answers_of, HandsOver, LinkValue, HasTicked, HasReceived, Envelope, Event, Tick, Datagram}
use Rattle.mq_link.proofs.Common.{Happening, Happens, RunFrom, Outgoing}
use Rattle.mq_link.proofs.HandedOver.{HandsOver-append}

-- To run all events from a link on, it is enough to run those that are left from the link that there is now.
abbrev pub RunsOn : {O : Type 0} (takes : O → Outgoing → Bool → O → Type 0) (events : List Event) (before : LinkValue) (old : O) (left : List Event)
    (now : LinkValue) (outlet : O) → Type 0
RunsOn {O = O} takes events before old left now outlet =
    (after : LinkValue) (new : O) → HasRun takes left now after outlet new → HasRun takes events before after old new

-- no events
pub none_run : {O : Type 0} (takes : O → Outgoing → Bool → O → Type 0) (link : LinkValue) (outlet : O) → HasRun takes [] link link outlet outlet
none_run takes link outlet = record { happenings = []; events_are = refl; runs = tt; leaves = refl; same_config = refl; handed = refl }

-- an event that happens first
happened : {O : Type 0} (takes : O → Outgoing → Bool → O → Type 0) (h : Happening) (events : List Event) (before between after : LinkValue) (old mid new : O)
    → Happens before.config before.state h → h.after ≡ between.state → between.config ≡ before.config → HandsOver takes old h.messages h.answers mid
    → HasRun takes events between after mid new → HasRun takes (h.event ∷ events) before after old new
happened takes h events before between after old mid new happens is_after same handed rest = record {
  happenings = h ∷ rest.happenings;
  events_are = ap (λ es. h.event ∷ es) rest.events_are;
  runs = (happens, subst (λ c. RunFrom c h.after rest.happenings) same (subst (λ s. RunFrom between.config s rest.happenings) (sym is_after) rest.runs));
  leaves = rest.leaves ∙ ap (λ s. left_by s rest.happenings) (sym is_after);
  same_config = rest.same_config ∙ same;
  handed = HandsOver-append takes old mid new h.messages (messages_of rest.happenings) h.answers (answers_of rest.happenings) handed rest.handed;
}

-- a tick first
pub ticked_first : {O : Type 0} (takes : O → Outgoing → Bool → O → Type 0) (now : ℕ) (events : List Event) (before between : LinkValue) (old mid : O)
    → between.config ≡ before.config → HasTicked takes now before between old mid
    → RunsOn takes (Tick now ∷ events) before old events between mid
ticked_first takes now events before between old mid same ticked after new =
    let h : Happening = record { event = Tick now; answer = None; messages = ticked.messages; answers = ticked.answers; after = between.state } in
    happened takes h events before between after old mid new (record { answer_is = refl; hands_out = ticked.ticks }) refl same ticked.handed

-- a datagram first
pub received_first : {O : Type 0} (takes : O → Outgoing → Bool → O → Type 0) (envelope : Envelope) (bytes : List ℕ) (now : ℕ) (answer : Received)
    (events : List Event) (before between : LinkValue) (old mid : O)
    → between.config ≡ before.config → HasReceived takes envelope bytes now answer before between old mid
    → RunsOn takes (Datagram envelope bytes now ∷ events) before old events between mid
received_first takes envelope bytes now answer events before between old mid same received after new =
    let h : Happening = record {
      event = Datagram envelope bytes now;
      answer = Some answer;
      messages = received.messages;
      answers =
          received.answers;
      after = between.state;
    } in
    happened takes h events before between after old mid new
    (record { answer_is = ap Some received.receives.answer_is; hands_out = received.receives.hands_out })
    refl same received.handed

-- one more of the events that are left has been run
pub one_more : {O : Type 0} (takes : O → Outgoing → Bool → O → Type 0) (events left more others : List Event) (before now between : LinkValue)
    (old outlet mid : O)
    → left ≡ more → RunsOn takes events before old left now outlet → RunsOn takes more now outlet others between mid
    → RunsOn takes events before old others between mid
one_more takes events left more others before now between old outlet mid same so_far one after new rest =
    so_far after new (subst (λ es. HasRun takes es now after outlet new) (sym same) (one after new rest))

-- those that are left at a place
pub left_at : {X : Type 0} (f : X → Event) (xs : List X) (i : ℕ) (item : X) (e : Event) → i < length xs → item ≡ get_or xs i item → f item ≡ e
    → map f (drop i xs) ≡ e ∷ map f (drop (i + 1) xs)
left_at f xs i item e below is says = ap (map f) (drop_more xs i item below) ∙ ap (λ y. y ∷ map f (drop (i + 1) xs)) (ap f (sym is) ∙ says)
