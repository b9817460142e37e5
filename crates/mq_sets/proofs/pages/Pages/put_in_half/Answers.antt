use Rattle.mq_sets.proofs.Common.{◌+◌, ◌-◌, [], ap, ◌∙◌, arith, length, length-take, length-drop, set, get_or, rules, insert, le-leb, lt-leb, Spends-join}
use Rattle.mq_sets.proofs.Common.{Spends-within, PagesState, moved_behind, common_steps, cond}
use Rattle.mq_sets.proofs.PagedNumbers.{halved, halved-is, room-halved, first-halved, second-halved, first-fits, first-room, second-fits, second-room}
use Rattle.mq_sets.proofs.PagedNumbers.{numbers-first, filled-first, numbers-second, filled-second}
use Rattle.mq_sets.proofs.pages.Pages.put_in_half.Goals as goal

pub split-second-requires-clause-room : goal.split-second-requires-clause-room
split-second-requires-clause-room g c =
    room-halved c.args.self.now.pages c.args.spot.page c.args.self.now.limit c.requires.page c.requires.full c.requires.filled c.requires.room

pub put_in-requires-clause-place : goal.put_in-requires-clause-place
put_in-requires-clause-place g c =
    let is = ap (λ (s : PagesState). length (get_or s.pages c.args.spot.page [])) c.split-second.ensures.pages ∙
    ap (λ xs. length (get_or xs c.args.spot.page [])) (halved-is c.args.self.now.pages c.args.spot.page c.requires.page) in
    omega (
      arith,
      is,
      first-fits c.args.self.now.pages c.args.spot.page c.args.spot.place 0 [] c.requires.page c.requires.full c.requires.filled
          c.if-spot-le-FIRST_HALF.true,
    )

pub put_in-requires-clause-room : goal.put_in-requires-clause-room
put_in-requires-clause-room g c =
    let is = ap (λ (s : PagesState). length (get_or s.pages c.args.spot.page [])) c.split-second.ensures.pages ∙
    ap (λ xs. length (get_or xs c.args.spot.page [])) (halved-is c.args.self.now.pages c.args.spot.page c.requires.page) in
    omega (arith, is, first-room c.args.self.now.pages c.args.spot.page c.args.spot.place 0 [] c.requires.page c.requires.full c.requires.filled)

pub put_in-requires-else-spot-le-FIRST_HALF-clause-place : goal.put_in-requires-else-spot-le-FIRST_HALF-clause-place
put_in-requires-else-spot-le-FIRST_HALF-clause-place g c =
    let is = ap (λ (s : PagesState). length (get_or s.pages (c.args.spot.page + 1) [])) c.split-second.ensures.pages ∙
    ap (λ xs. length (get_or xs (c.args.spot.page + 1) [])) (halved-is c.args.self.now.pages c.args.spot.page c.requires.page) in
    let at = ap (λ k. length (get_or c.split-second.new.self.pages k [])) c.split-second.ensures.second in
    omega (
      arith,
      is,
      at,
      second-fits c.args.self.now.pages c.args.spot.page c.args.spot.place 0 [] c.requires.page c.requires.full c.requires.filled
          c.requires.place,
    )

pub put_in-requires-else-spot-le-FIRST_HALF-clause-room : goal.put_in-requires-else-spot-le-FIRST_HALF-clause-room
put_in-requires-else-spot-le-FIRST_HALF-clause-room g c =
    let is = ap (λ (s : PagesState). length (get_or s.pages (c.args.spot.page + 1) [])) c.split-second.ensures.pages ∙
    ap (λ xs. length (get_or xs (c.args.spot.page + 1) [])) (halved-is c.args.self.now.pages c.args.spot.page c.requires.page) in
    let at = ap (λ k. length (get_or c.split-second.new.self.pages k [])) c.split-second.ensures.second in
    omega (arith, is, at, second-room c.args.self.now.pages c.args.spot.page c.args.spot.place 0 [] c.requires.page c.requires.full c.requires.filled)

pub returns-then-spot-le-FIRST_HALF : goal.returns-then-spot-le-FIRST_HALF
returns-then-spot-le-FIRST_HALF g c =
    let halves = ap (λ (s : PagesState). s.pages) c.split-second.ensures.pages ∙ halved-is c.args.self.now.pages c.args.spot.page c.requires.page in
    let after = ap (λ (s : PagesState). s.pages) c.put_in.ensures.pages ∙
    ap (λ xs. set xs c.args.spot.page (insert (get_or xs c.args.spot.page []) c.args.spot.place c.args.number)) halves in
    record {
      numbers = numbers-first c.args.self.now.pages c.args.spot.page c.args.spot.place c.args.number c.put_in.new.self.pages c.requires.page
          c.requires.full c.requires.filled after c.if-spot-le-FIRST_HALF.true;
      filled = filled-first c.args.self.now.pages c.args.spot.page c.args.spot.place c.args.number c.put_in.new.self.pages c.requires.page
          c.requires.full c.requires.filled after c.if-spot-le-FIRST_HALF.true;
      moved =
          let is = ap (λ (s : PagesState). length (get_or s.pages c.args.spot.page [])) c.split-second.ensures.pages ∙
          ap (λ xs. length (get_or xs c.args.spot.page [])) (halved-is c.args.self.now.pages c.args.spot.page c.requires.page) in
          let size = ap length (first-halved c.args.self.now.pages c.args.spot.page c.requires.page) in
          let branch = ap (λ b. cond b (moved_behind 255 c.args.spot.place) (moved_behind 256 (c.args.spot.place - 255)))
          (le-leb c.args.spot.place 255 c.if-spot-le-FIRST_HALF.true) in
          let both = Spends-join c.split-second.ensures.moved c.put_in.ensures.moved in
          Spends-within _ _ both
          (omega (arith, is, size, branch, length-take 255 (get_or c.args.self.now.pages c.args.spot.page []), c.requires.full))
          (omega (arith, is, size, branch, length-take 255 (get_or c.args.self.now.pages c.args.spot.page []), c.requires.full));
      limit = search rules;
    }

pub returns-else-spot-le-FIRST_HALF : goal.returns-else-spot-le-FIRST_HALF
returns-else-spot-le-FIRST_HALF g c =
    let halves = ap (λ (s : PagesState). s.pages) c.split-second.ensures.pages ∙ halved-is c.args.self.now.pages c.args.spot.page c.requires.page in
    let after = ap (λ (s : PagesState). s.pages) c.put_in-else-spot-le-FIRST_HALF.ensures.pages ∙
    ap (λ xs. set xs c.split-second.result (insert (get_or xs c.split-second.result []) (c.args.spot.place - 255) c.args.number)) halves ∙
    ap (λ k. set (halved c.args.self.now.pages c.args.spot.page) k
    (insert (get_or (halved c.args.self.now.pages c.args.spot.page) k []) (c.args.spot.place - 255) c.args.number)) c.split-second.ensures.second in
    record {
      numbers = numbers-second c.args.self.now.pages c.args.spot.page c.args.spot.place c.args.number c.put_in-else-spot-le-FIRST_HALF.new.self.pages
          c.requires.page c.requires.full c.requires.filled after c.if-spot-le-FIRST_HALF.false c.requires.place;
      filled = filled-second c.args.self.now.pages c.args.spot.page c.args.spot.place c.args.number c.put_in-else-spot-le-FIRST_HALF.new.self.pages
          c.requires.page c.requires.full c.requires.filled after c.requires.place;
      moved =
          let is = ap (λ (s : PagesState). length (get_or s.pages (c.args.spot.page + 1) [])) c.split-second.ensures.pages ∙
          ap (λ xs. length (get_or xs (c.args.spot.page + 1) [])) (halved-is c.args.self.now.pages c.args.spot.page c.requires.page) in
          let at = ap (λ k. length (get_or c.split-second.new.self.pages k [])) c.split-second.ensures.second in
          let size = ap length (second-halved c.args.self.now.pages c.args.spot.page c.requires.page) in
          let branch = ap (λ b. cond b (moved_behind 255 c.args.spot.place) (moved_behind 256 (c.args.spot.place - 255)))
          (lt-leb c.args.spot.place 255 c.if-spot-le-FIRST_HALF.false) in
          let both = Spends-join c.split-second.ensures.moved c.put_in-else-spot-le-FIRST_HALF.ensures.moved in
          Spends-within _ _ both
          (omega (arith, is, at, size, branch, length-drop 255 (get_or c.args.self.now.pages c.args.spot.page []), c.requires.full))
          (omega (arith, is, at, size, branch, length-drop 255 (get_or c.args.self.now.pages c.args.spot.page []), c.requires.full));
      limit = search rules;
    }

pub put_in-requires-else-spot-le-FIRST_HALF-clause-page : goal.put_in-requires-else-spot-le-FIRST_HALF-clause-page
put_in-requires-else-spot-le-FIRST_HALF-clause-page g c = grind (arith, common_steps)

pub put_in-requires-clause-page : goal.put_in-requires-clause-page
put_in-requires-clause-page g c = grind (arith, common_steps)
