-- The text that an outlet has put after some queries.
use Rattle.mq_replay.proofs.Common.{◌≡◌, ℕ, Bool, true, ◌||◌, List, [], ◌∷◌, Option, Result, Ok, Err, is_err, refl, ap, sym, subst, ◌∙◌, IfOk, list_map}
use Rattle.mq_replay.proofs.Common.{or-false, inner_of, has_failed, Family, Outgoing, LineFault, Puts, nothing_passed, then_put, broken_within, event_in}
use Rattle.mq_replay.proofs.Common.{query_events}
use Rattle.std.proofs.Common.{is_ok}
use Rattle.mq_link.specs.Handing.{HandsOver}
use Rattle.mq_replay.specs.{declared.query_outlet.QueryLines.QueryLines, QueryLines.TakesQuery, QueryLines.PutsQuery, Events.Sends}

module _ {W : Type 0} (contents : W → Option (List ℕ)) (family : Family) where
  abbrev takes : QueryLines W → Outgoing → Bool → QueryLines W → Type 0
  takes = TakesQuery contents family

  -- it holds the same buffer and the same writer
  pub same_buffer : (old : QueryLines W) (messages : List Outgoing) (answers : List Bool) (new : QueryLines W)
      → HandsOver takes old messages answers new → new.buffer.ghost_name ≡ old.buffer.ghost_name
  same_buffer old [] [] new same = ap (λ (q : QueryLines W). q.buffer.ghost_name) (sym same)
  same_buffer old (message ∷ messages) (answer ∷ answers) new handed = same_buffer handed.0 messages answers new handed.2 ∙ handed.1.same_buffer
  same_buffer old _ _ new handed = absurd handed

  pub same_writer : (old : QueryLines W) (messages : List Outgoing) (answers : List Bool) (new : QueryLines W)
      → HandsOver takes old messages answers new → new.writer.ghost_name ≡ old.writer.ghost_name
  same_writer old [] [] new same = ap (λ (q : QueryLines W). q.writer.ghost_name) (sym same)
  same_writer old (message ∷ messages) (answer ∷ answers) new handed = same_writer handed.0 messages answers new handed.2 ∙ handed.1.same_writer
  same_writer old _ _ new handed = absurd handed

  -- after a write that failed nothing changes
  stays_broken : (old : QueryLines W) (messages : List Outgoing) (answers : List Bool) (new : QueryLines W) (fault : LineFault)
      → old.answer ≡ Err fault → HandsOver takes old messages answers new → new ≡ old
  stays_broken old [] [] new fault broken same = sym same
  stays_broken old (message ∷ messages) (answer ∷ answers) new fault broken handed =
      let first : handed.0 ≡ old = subst (λ (r : Result Unit LineFault). PutsQuery contents family old message handed.0 r) broken handed.1.puts in
      stays_broken handed.0 messages answers new fault (ap (λ (q : QueryLines W). q.answer) first ∙ broken) handed.2 ∙ first
  stays_broken old _ _ new fault broken handed = absurd handed

  -- If no write had failed, the lines of all messages were put, or a prefix of them until a write failed.
  pub record PrintedBy (json : Bool) (moment : ℕ) (old : QueryLines W) (messages : List Outgoing) (answers : List Bool) (new : QueryLines W)
      (answer : Result Unit LineFault) : Type 0 where
    pub put : Puts (contents (inner_of old.writer.now)) (contents (inner_of new.writer.now)) old.buffer.now.items new.buffer.now.items
        (query_events json family moment messages) answer
    pub failed : has_failed new.writer.now ≡ has_failed old.writer.now || is_err answer
    pub all_sent : IfOk answer (λ u. answers ≡ list_map (λ message. true) messages)

  abbrev Printed : (json : Bool) (moment : ℕ) (old : QueryLines W) (messages : List Outgoing) (answers : List Bool) (new : QueryLines W) → Type 0
  Printed json moment old messages answers new = PrintedBy json moment old messages answers new new.answer

  more_sent : (messages : List Outgoing) (message : Outgoing) (answer : Bool) (answers : List Bool) (r : Result Unit LineFault) → answer ≡ true
      → IfOk r (λ u. answers ≡ list_map (λ message. true) messages) → IfOk r (λ u. answer ∷ answers ≡ list_map (λ message. true) (message ∷ messages))
  more_sent messages message answer answers (Ok u) is sent = λ i. is i ∷ sent i
  more_sent messages message answer answers (Err fault) is sent = tt

  none_printed : (json : Bool) (moment : ℕ) (old : QueryLines W) (u : Unit {0}) → old.answer ≡ Ok u → Printed json moment old [] [] old
  none_printed json moment old u fine =
      let a = contents (inner_of old.writer.now) in
      let held = old.buffer.now.items in
      let none : List Bool = [] in
      let messages : List Outgoing = [] in
      record {
        put = subst (λ (r : Result Unit LineFault). Puts a a held held [] r) (sym fine) (nothing_passed a held);
        failed = subst (λ (r : Result Unit LineFault). has_failed old.writer.now ≡ has_failed old.writer.now || is_err r) (sym fine)
            (sym (or-false (has_failed old.writer.now)));
        all_sent = subst (λ (r : Result Unit LineFault). IfOk r (λ u. none ≡ list_map (λ message. true) messages)) (sym fine) refl;
      }

  printed : (json : Bool) (moment : ℕ) (old : QueryLines W) (messages : List Outgoing) (answers : List Bool) (new : QueryLines W)
      → old.json ≡ json → old.moment ≡ moment → (u : Unit {0}) → old.answer ≡ Ok u → HandsOver takes old messages answers new →
      Printed json moment old messages answers new
  printed json moment old [] [] new form at u fine same =
      subst (λ (q : QueryLines W). Printed json moment old [] [] q) same (none_printed json moment old u fine)
  printed json moment old (message ∷ messages) (answer ∷ answers) new form at u fine handed =
      by_first handed.0.answer refl
      (λ v is. printed json moment handed.0 messages answers new (handed.1.same_json ∙ form) (handed.1.same_moment ∙ at) v is handed.2)
    where
      first : (r : Result Unit LineFault) → handed.0.answer ≡ r
          → Puts (contents (inner_of old.writer.now)) (contents (inner_of handed.0.writer.now)) old.buffer.now.items handed.0.buffer.now.items
          (event_in json family moment (Sends message)) r × (has_failed handed.0.writer.now ≡ has_failed old.writer.now || is_err r)
      first r is =
          let put = subst (λ (r : Result Unit LineFault). PutsQuery contents family old message handed.0 r) fine handed.1.puts in
          let at_moment = subst (λ (t : List ℕ). Puts (contents (inner_of old.writer.now))
          (contents (inner_of handed.0.writer.now)) old.buffer.now.items handed.0.buffer.now.items t handed.0.answer)
          (λ i. event_in (form i) family (at i) (Sends message)) put.0 in (
            subst (λ (r : Result Unit LineFault). Puts (contents (inner_of old.writer.now))
                (contents (inner_of handed.0.writer.now)) old.buffer.now.items handed.0.buffer.now.items
                (event_in json family moment (Sends message)) r) is at_moment,
            subst (λ (r : Result Unit LineFault). has_failed handed.0.writer.now ≡ has_failed old.writer.now || is_err r) is put.1,
          )

      by_first : (r : Result Unit LineFault) → handed.0.answer ≡ r
          → ((v : Unit {0}) → handed.0.answer ≡ Ok v → Printed json moment handed.0 messages answers new)
          → Printed json moment old (message ∷ messages) (answer ∷ answers) new
      by_first (Ok v) is others =
          let one = first (Ok v) is in
          let rest = others v is in
          record {
            put = then_put _ _ _ _ _ _ (event_in json family moment (Sends message)) (query_events json family moment messages) new.answer one.0 rest.put;
            failed = rest.failed ∙ ap (λ (b : Bool). b || is_err new.answer) (one.1 ∙ or-false _);
            all_sent = more_sent messages message answer answers new.answer (handed.1.sent_is ∙ ap is_ok is) rest.all_sent;
          }
      by_first (Err fault) is others =
          let one = first (Err fault) is in
          let stays = stays_broken handed.0 messages answers new fault is handed.2 in
          let a = contents (inner_of old.writer.now) in
          let b = contents (inner_of handed.0.writer.now) in
          let held = old.buffer.now.items in
          let left = handed.0.buffer.now.items in
          let lines = query_events json family moment (message ∷ messages) in
          subst (λ (q : QueryLines W). Printed json moment old (message ∷ messages) (answer ∷ answers) q) (sym stays) (record {
            put = subst (λ (r : Result Unit LineFault). Puts a b held left lines r) (sym is)
                (broken_within a b held (event_in json family moment (Sends message)) (query_events json family moment messages) one.0);
            failed = subst (λ (r : Result Unit LineFault). has_failed handed.0.writer.now ≡ has_failed old.writer.now || is_err r) (sym is) one.1;
            all_sent = subst (λ (r : Result Unit LineFault). IfOk r (λ u. answer ∷ answers ≡ list_map (λ message. true) (message ∷ messages))) (sym is) tt;
          })
  printed json moment old _ _ new form at u fine handed = absurd handed

  -- the same by the answer that the outlet gives at the end
  pub printed_by : (json : Bool) (moment : ℕ) (old : QueryLines W) (messages : List Outgoing) (answers : List Bool) (new : QueryLines W)
      (answer : Result Unit LineFault)
      → old.json ≡ json → old.moment ≡ moment → old.answer ≡ Ok tt → HandsOver takes old messages answers new → answer ≡ new.answer →
      PrintedBy json moment old messages answers new answer
  printed_by json moment old messages answers new answer form at fine handed is =
      subst (λ (r : Result Unit LineFault). PrintedBy json moment old messages answers new r) (sym is)
      (printed json moment old messages answers new form at tt fine handed)
