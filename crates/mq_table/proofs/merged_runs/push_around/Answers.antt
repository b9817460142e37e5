use Rattle.mq_table.proofs.Common.{◌≡◌, ◌+◌, [], ◌∷◌, ◌++◌, ◌∙◌, take, drop, refl, ap, false, Some, None, rules, filter_map, All-drop, All-take, merged_lists}
use Rattle.mq_table.proofs.Common.{number_in, source_made, source_asked, source_turned, arith, common_steps}
use Rattle.mq_table.proofs.Runs.{one-IsAscending, merged-found, merged-absent, merged-alone, run_pushed, run_passed, last_run_pushed, last_run_passed}
use Rattle.mq_table.proofs.Runs.{run_tested, last_run_tested}
use Rattle.mq_table.proofs.merged_runs.push_around.Goals as goal

pub returns-in-Ok : goal.returns-in-Ok
returns-in-Ok g c =
    let number = number_in g.K.Key.number in
    let held = c.args.held.now in
    let y = c.args.name.now in
    let place = c.in-Ok.place in
    let x = c.index-held-place.result in
    let behind = drop (place + 1) held in
    let ahead = merged-found number g.K.Key.number held place x y [] (y ∷ []) refl c.requires.held_ascending
    (one-IsAscending g.K.Key.number y) c.in-Ok.ensures.found_in c.index-held-place.is (ap number c.index-held-place.is ∙ c.in-Ok.ensures.found x) in
    record {
      sources =
          let f = source_made c.args.rule.now in
          let before = c.args.sources.now.items in
          let run = c.push_run.ensures.items ∙ ap (λ ys. before ++ ys) c.front_of.ensures in
          let so_far = ap (λ ys. ys ++ filter_map f (merged_lists number g.K.Key.number held (y ∷ []))) c.requires.no_sources in
          let named = run_pushed f before c.push_run.new.list.items c.push_named-turned.new.sources.items (take place held)
          (Some x, Some y) _ _ _ (All-take (λ z. f (Some z, None) ≡ Some z) place held c.requires.alone.made) run c.push_named-turned.ensures.sources
          ahead so_far in
          last_run_pushed f c.push_named-turned.new.sources.items c.push_run-in-Ok.new.list.items behind _ _
          (All-drop (λ z. f (Some z, None) ≡ Some z) (place + 1) held c.requires.alone.made)
          (c.push_run-in-Ok.ensures.items ∙ ap (λ ys. c.push_named-turned.new.sources.items ++ ys) c.rest_of.ensures)
          (merged-alone number g.K.Key.number behind) named;
      asked =
          let f = source_asked c.args.rule.now in
          let so_far = ap (λ ys. ys ++ filter_map f (merged_lists number g.K.Key.number held (y ∷ []))) c.requires.none_asked in
          let named = run_passed f c.args.asked.now.items c.push_named-turned.new.asked.items (take place held)
          (Some x, Some y) _ _ _ (All-take (λ z. f (Some z, None) ≡ None) place held c.requires.alone.asked) c.push_named-turned.ensures.asked ahead so_far in
          last_run_passed f c.push_named-turned.new.asked.items behind _ _
          (All-drop (λ z. f (Some z, None) ≡ None) (place + 1) held c.requires.alone.asked) (merged-alone number g.K.Key.number behind) named;
      turned =
          let f = source_turned c.args.rule.now in
          let named = run_tested f false c.push_named-turned.result (take place held)
          (Some x, Some y) _ _ _ (All-take (λ z. f (Some z, None) ≡ false) place held c.requires.alone.turned) c.push_named-turned.ensures.turned ahead refl in
          last_run_tested f c.push_named-turned.result behind _ _ (All-drop (λ z. f (Some z, None) ≡ false) (place + 1) held c.requires.alone.turned)
          (merged-alone number g.K.Key.number behind) named;
      compares = search rules;
      sources_room = search rules;
      asked_room = search rules;
    }

pub returns-in-Err : goal.returns-in-Err
returns-in-Err g c =
    let number = number_in g.K.Key.number in
    let held = c.args.held.now in
    let y = c.args.name.now in
    let place = c.in-Err.place in
    let behind = drop place held in
    let ahead = merged-absent number g.K.Key.number held place y [] (y ∷ []) refl (one-IsAscending g.K.Key.number y) c.in-Err.ensures.absent in
    record {
      sources =
          let f = source_made c.args.rule.now in
          let before = c.args.sources.now.items in
          let run = c.push_run-in-Err.ensures.items ∙ ap (λ ys. before ++ ys) c.front_of-in-Err.ensures in
          let so_far = ap (λ ys. ys ++ filter_map f (merged_lists number g.K.Key.number held (y ∷ []))) c.requires.no_sources in
          let named = run_pushed f before c.push_run-in-Err.new.list.items c.push_named-turned-in-Err.new.sources.items (take place held)
          (None, Some y) _ _ _ (All-take (λ z. f (Some z, None) ≡ Some z) place held c.requires.alone.made) run
          c.push_named-turned-in-Err.ensures.sources ahead so_far in
          last_run_pushed f c.push_named-turned-in-Err.new.sources.items c.push_run-in-Err-2.new.list.items behind _ _
          (All-drop (λ z. f (Some z, None) ≡ Some z) place held c.requires.alone.made)
          (c.push_run-in-Err-2.ensures.items ∙ ap (λ ys. c.push_named-turned-in-Err.new.sources.items ++ ys) c.rest_of-in-Err.ensures)
          (merged-alone number g.K.Key.number behind) named;
      asked =
          let f = source_asked c.args.rule.now in
          let so_far = ap (λ ys. ys ++ filter_map f (merged_lists number g.K.Key.number held (y ∷ []))) c.requires.none_asked in
          let named = run_passed f c.args.asked.now.items c.push_named-turned-in-Err.new.asked.items (take place held)
          (None, Some y) _ _ _ (All-take (λ z. f (Some z, None) ≡ None) place held c.requires.alone.asked) c.push_named-turned-in-Err.ensures.asked
          ahead so_far in
          last_run_passed f c.push_named-turned-in-Err.new.asked.items behind _ _
          (All-drop (λ z. f (Some z, None) ≡ None) place held c.requires.alone.asked) (merged-alone number g.K.Key.number behind) named;
      turned =
          let f = source_turned c.args.rule.now in
          let named = run_tested f false c.push_named-turned-in-Err.result (take place held)
          (None, Some y) _ _ _ (All-take (λ z. f (Some z, None) ≡ false) place held c.requires.alone.turned) c.push_named-turned-in-Err.ensures.turned
          ahead refl in
          last_run_tested f c.push_named-turned-in-Err.result behind _ _ (All-drop (λ z. f (Some z, None) ≡ false) place held c.requires.alone.turned)
          (merged-alone number g.K.Key.number behind) named;
      compares = search rules;
      sources_room = search rules;
      asked_room = search rules;
    }

pub push_run-requires-in-Err-2 : goal.push_run-requires-in-Err-2
push_run-requires-in-Err-2 g c = grind (arith, common_steps)
