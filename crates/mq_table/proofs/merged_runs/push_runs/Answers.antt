use Rattle.mq_table.proofs.Common.{◌≡◌, ◌||◌, false, ◌+◌, ◌<◌, [], ◌∷◌, ◌++◌, ◌∙◌, length, drop, take, sym, ap, arith, Some, None, rules, drop_more}
use Rattle.mq_table.proofs.Common.{length-drop, length-take, drop_all, All-drop, All-take, Spends-join_within, IsAscending-rest, merged_lists, number_in}
use Rattle.mq_table.proofs.Common.{source_made, source_asked, source_turned, common_steps}
use Rattle.mq_table.proofs.Runs.{merged-found, merged-absent, merged-alone, run_pushed, run_passed, last_run_pushed, last_run_passed, run_tested}
use Rattle.mq_table.proofs.Runs.{last_run_tested, IsAscending-drop, few_pushed, few_more}
use Rattle.mq_table.proofs.merged_runs.push_runs.Goals as goal
use Rattle.mq_table.proofs.merged_runs.push_runs.Goals.{in-Ok, in-Err}

pub loop-name-preserved : goal.loop-name-preserved
loop-name-preserved g c =
    let number = number_in g.K.Key.number in
    let rule = c.args.rule.now in
    let so_far = c.loop-name.invariant in
    let left = c.loop-name.left.now in
    let named = c.args.named.now in
    let i = c.loop-name.name-index in
    let y = c.name-item.result in
    let front : drop i named ≡ y ∷ drop (i + 1) named = drop_more named i y c.loop-name-test.true ∙ ap (λ z. z ∷ drop (i + 1) named) (sym c.name-item.is) in
    let named_ascending = IsAscending-rest g.K.Key.number y (drop (i + 1) named) (drop i named) front so_far.named_ascending in
    elim c.match-find_ahead.branch [
      | in-Ok w ↦
          let place = w.in-Ok.place in
          let x = w.index-left-place.result in
          let within : place < length left = w.in-Ok.ensures.found_in in
          let same : number x ≡ g.K.Key.number y = ap number w.index-left-place.is ∙ w.in-Ok.ensures.found x in
          let ahead = merged-found number g.K.Key.number left place x y (drop (i + 1) named)
          (drop i named) front so_far.ascending so_far.named_ascending within w.index-left-place.is same in
          let behind = length-drop (place + 1) left in
          let run = length-take place left in
          let ran : w.push_run.new.list.items ≡ c.loop-name.sources.items ++ take place left = w.push_run.ensures.items ∙
          ap (λ ys. c.loop-name.sources.items ++ ys) w.front_of.ensures in
          rw (w.sources-is, w.asked-is, w.turned-is, w.left-is, w.rest_of-left.ensures) (record {
            sources = run_pushed (source_made rule) c.loop-name.sources.items w.push_run.new.list.items w.push_named-turned.new.sources.items
                (take place left) (Some x, Some y) _ _ _ (All-take (λ z. source_made rule (Some z, None) ≡ Some z) place left so_far.alone.made) ran
                w.push_named-turned.ensures.sources ahead so_far.sources;
            asked = run_passed (source_asked rule) c.loop-name.asked.items w.push_named-turned.new.asked.items (take place left)
                (Some x, Some y) _ _ _ (All-take (λ z. source_asked rule (Some z, None) ≡ None) place left so_far.alone.asked)
                w.push_named-turned.ensures.asked ahead so_far.asked;
            turned = run_tested (source_turned rule) c.loop-name.turned _ (take place left)
                (Some x, Some y) _ _ _ (All-take (λ z. source_turned rule (Some z, None) ≡ false) place left so_far.alone.turned)
                (ap (λ b. c.loop-name.turned || b) w.push_named-turned.ensures.turned) ahead so_far.turned;
            ascending = IsAscending-drop number (place + 1) left so_far.ascending;
            named_ascending = named_ascending;
            alone = record {
              made = All-drop (λ z. source_made rule (Some z, None) ≡ Some z) (place + 1) left so_far.alone.made;
              asked =
                  All-drop (λ z. source_asked rule (Some z, None) ≡ None) (place + 1) left so_far.alone.asked;
              turned = All-drop (λ z. source_turned rule (Some z, None) ≡ false) (place + 1) left so_far.alone.turned;
            };
            few_sources = few_pushed (source_made rule (Some x, Some y)) c.loop-name.sources.items w.push_run.new.list.items
                w.push_named-turned.new.sources.items (take place left) left (drop (place + 1) left)
                (length c.args.held.now) i ran w.push_named-turned.ensures.sources (omega (arith, behind, run, within)) so_far.few_sources;
            few_asked = few_more (source_asked rule (Some x, Some y)) c.loop-name.asked.items w.push_named-turned.new.asked.items i
                w.push_named-turned.ensures.asked so_far.few_asked;
            fewer = omega (arith, behind, so_far.fewer);
            sources_room = omega (arith, so_far.sources_room, w.push_run.ensures.capacity, w.push_named-turned.ensures.sources_capacity);
            asked_room = omega (arith, so_far.asked_room, w.push_named-turned.ensures.asked_capacity);
            spent = Spends-join_within _ _ so_far.spent w.in-Ok.ensures.spent (omega (arith, behind, so_far.fewer, within))
                (omega (arith, behind, so_far.fewer, within));
          })
      | in-Err w ↦
          let place = w.in-Err.place in
          let at_place = w.in-Err.ensures.absent in
          let ahead = merged-absent number g.K.Key.number left place y (drop (i + 1) named) (drop i named) front so_far.named_ascending at_place in
          let behind = length-drop place left in
          let run = length-take place left in
          let within = at_place.within in
          let ran : w.push_run-in-Err.new.list.items ≡ c.loop-name.sources.items ++ take place left = w.push_run-in-Err.ensures.items ∙
          ap (λ ys. c.loop-name.sources.items ++ ys) w.front_of-in-Err.ensures in
          rw (w.sources-is, w.asked-is, w.turned-is, w.left-is, w.rest_of-left-in-Err.ensures) (record {
            sources = run_pushed (source_made rule) c.loop-name.sources.items w.push_run-in-Err.new.list.items
                w.push_named-turned-in-Err.new.sources.items (take place left)
                (None, Some y) _ _ _ (All-take (λ z. source_made rule (Some z, None) ≡ Some z) place left so_far.alone.made) ran
                w.push_named-turned-in-Err.ensures.sources ahead so_far.sources;
            asked = run_passed (source_asked rule) c.loop-name.asked.items w.push_named-turned-in-Err.new.asked.items (take place left)
                (None, Some y) _ _ _ (All-take (λ z. source_asked rule (Some z, None) ≡ None) place left so_far.alone.asked)
                w.push_named-turned-in-Err.ensures.asked ahead so_far.asked;
            turned = run_tested (source_turned rule) c.loop-name.turned _ (take place left)
                (None, Some y) _ _ _ (All-take (λ z. source_turned rule (Some z, None) ≡ false) place left so_far.alone.turned)
                (ap (λ b. c.loop-name.turned || b) w.push_named-turned-in-Err.ensures.turned) ahead so_far.turned;
            ascending = IsAscending-drop number place left so_far.ascending;
            named_ascending = named_ascending;
            alone = record {
              made = All-drop (λ z. source_made rule (Some z, None) ≡ Some z) place left so_far.alone.made;
              asked =
                  All-drop (λ z. source_asked rule (Some z, None) ≡ None) place left so_far.alone.asked;
              turned = All-drop (λ z. source_turned rule (Some z, None) ≡ false) place left so_far.alone.turned;
            };
            few_sources = few_pushed (source_made rule (None, Some y)) c.loop-name.sources.items w.push_run-in-Err.new.list.items
                w.push_named-turned-in-Err.new.sources.items (take place left) left (drop place left)
                (length c.args.held.now) i ran w.push_named-turned-in-Err.ensures.sources (omega (arith, behind, run, within)) so_far.few_sources;
            few_asked = few_more (source_asked rule (None, Some y)) c.loop-name.asked.items w.push_named-turned-in-Err.new.asked.items i
                w.push_named-turned-in-Err.ensures.asked so_far.few_asked;
            fewer = omega (arith, behind, so_far.fewer);
            sources_room = omega (arith, so_far.sources_room, w.push_run-in-Err.ensures.capacity, w.push_named-turned-in-Err.ensures.sources_capacity);
            asked_room = omega (arith, so_far.asked_room, w.push_named-turned-in-Err.ensures.asked_capacity);
            spent = Spends-join_within _ _ so_far.spent w.in-Err.ensures.spent (omega (arith, behind, so_far.fewer, within))
                (omega (arith, behind, so_far.fewer, within));
          })
    ]

pub returns : goal.returns
returns g c =
    let number = number_in g.K.Key.number in
    let so_far = c.loop-name.invariant in
    let left = c.loop-name.left.now in
    let none : drop c.loop-name.name-index c.args.named.now ≡ [] = drop_all c.loop-name.name-index c.args.named.now c.loop-name-test.false in
    record {
      sources = last_run_pushed (source_made c.args.rule.now) c.loop-name.sources.items c.push_run-2.new.list.items left
          (merged_lists number g.K.Key.number left (drop c.loop-name.name-index c.args.named.now)) _ so_far.alone.made c.push_run-2.ensures.items
          (rw none (merged-alone number g.K.Key.number left)) so_far.sources;
      asked = last_run_passed (source_asked c.args.rule.now) c.loop-name.asked.items left
          (merged_lists number g.K.Key.number left (drop c.loop-name.name-index c.args.named.now)) _ so_far.alone.asked
          (rw none (merged-alone number g.K.Key.number left)) so_far.asked;
      turned = last_run_tested (source_turned c.args.rule.now) c.loop-name.turned left
          (merged_lists number g.K.Key.number left (drop c.loop-name.name-index c.args.named.now)) _ so_far.alone.turned
          (rw none (merged-alone number g.K.Key.number left)) so_far.turned;
      compares = search rules;
      sources_room = search rules;
      asked_room = search rules;
    }

pub push_named-turned-requires-clause-room : goal.push_named-turned-requires-clause-room
push_named-turned-requires-clause-room g c = grind (arith, common_steps)

pub push_named-turned-requires-in-Err-clause-room : goal.push_named-turned-requires-in-Err-clause-room
push_named-turned-requires-in-Err-clause-room g c = grind (arith, common_steps)
