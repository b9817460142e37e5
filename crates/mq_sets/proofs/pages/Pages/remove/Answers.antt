use Rattle.mq_sets.proofs.Common.{ℕ, ◌≡◌, ◌<◌, ◌≤◌, ◌+◌, ◌-◌, min, List, [], sym, ap, ◌∙◌, subst, arith, length, length-set, map, set, sum, take, get_or, rules}
use Rattle.mq_sets.proofs.Common.{remove, length-map, Spends-join_within, Spends-within, PagesState, AreFilled, above_least, joined, moved_by_joins}
use Rattle.mq_sets.proofs.Common.{moved_by_remove, numbers_in}
use Rattle.std.proofs.Common.{not}
use Rattle.mq_sets.proofs.PagesMoved.{joins-behind, joins-before, joins-none, moved-join, moved-remove}
use Rattle.mq_sets.proofs.PagesJoined.{numbers-joined, numbers-remove, filled-joined, filled-joined_before, filled-left_of, least-is, page-within, left-within}
use Rattle.mq_sets.proofs.pages.Pages.remove.Given.{Over}
use Rattle.mq_sets.proofs.pages.Pages.remove.Goals as goal
use Rattle.mq_sets.proofs.pages.Pages.remove.Goals.{After-take_out, else-spot-gt0-via-then-spot-gt0+else-must_join-2, else-spot-gt0-via-else-spot-gt0}

abbrev least : List (List ℕ) → ℕ → ℕ
least xs k = min (min (length (get_or xs k [])) (length (get_or xs (k + 1) []))) (length (get_or xs k []) + length (get_or xs (k + 1) []) - 255)

-- the pages once the number is taken out
left_so : (g : Over) (c : After-take_out g) → (let P = c.args.self.now.pages in let i = c.args.spot.page in
    c.take_out.new.self.pages ≡ set P i (remove (get_or P i []) c.args.spot.place))
left_so g c = ap (λ (s : PagesState). s.pages) c.take_out.ensures.pages

count_so : (g : Over) (c : After-take_out g) → length c.take_out.new.self.pages ≡ length c.args.self.now.pages
count_so g c = ap length (left_so g c) ∙ length-set c.args.self.now.pages c.args.spot.page _

numbers_so : (g : Over) (c : After-take_out g) → (let P = c.args.self.now.pages in
    numbers_in c.take_out.new.self.pages ≡ remove (numbers_in P) (sum (take c.args.spot.page (map length P)) + c.args.spot.place))
numbers_so g c = ap numbers_in (left_so g c) ∙ numbers-remove c.args.self.now.pages c.args.spot.page c.args.spot.place c.requires.taken.0 c.requires.taken.1

-- none has more than 511 of them
size_so : (g : Over) (c : After-take_out g) (k : ℕ) → length (get_or c.take_out.new.self.pages k []) ≤ 511
size_so g c k =
    let within = left-within c.args.self.now.pages c.args.spot.page c.args.spot.place k c.requires.taken.0 c.requires.taken.1 c.requires.filled in
    omega (arith, ap (λ xs. length (get_or xs k [])) (left_so g c), within)

-- the moves
moved_so : (g : Over) (c : After-take_out g) → (let P = c.args.self.now.pages in let i = c.args.spot.page in let sizes = map length c.take_out.new.self.pages in
    moved_by_remove (map length P) c.args.spot ≡ length (get_or P i []) - c.args.spot.place + moved_by_joins sizes i)
moved_so g c = moved-remove c.args.self.now.pages c.take_out.new.self.pages c.args.spot c.requires.taken.0 c.requires.taken.1 (left_so g c)

pub returns-else-spot-gt0 : goal.returns-else-spot-gt0
returns-else-spot-gt0 g c =
    let at = (goal.at.returns-else-spot-gt0 g c).After-take_out in
    let P = c.args.self.now.pages in
    let T = c.take_out.new.self.pages in
    let i = c.args.spot.page in
    record {
      numbers = numbers_so g at;
      moved = Spends-within _ _ c.take_out.ensures.moved (omega (arith, c.requires.taken.1)) (omega (arith, page-within P i c.requires.filled));
      exact =
          let same = length-map T length in
          let enough : i + 1 < length (map length T) → 1 ≤ above_least (map length T) i =
          λ more. c.must_join.ensures.no (ap not c.if-must_join.false) (omega (arith, more, same)) in
          let before : i - 1 + 1 < length (map length T) → 1 ≤ above_least (map length T) (i - 1) =
          λ more.
          elim c.else-spot-gt0.branch [
            | else-spot-gt0-via-then-spot-gt0+else-must_join-2 w ↦
                w.must_join-then-spot-gt0.ensures.no (ap not w.if-must_join-2.false) (omega (arith, more, same))
            | else-spot-gt0-via-else-spot-gt0 w ↦
                let none : i ≡ i - 1 = omega (arith, w.if-spot-gt0.false) in
                subst (λ k. 1 ≤ above_least (map length T) k) none (enough (omega (arith, more, w.if-spot-gt0.false)))
          ] in
          let joins = joins-none (map length T) i enough before in
          Spends-within _ _ c.take_out.ensures.moved (omega (arith, moved_so g at, joins)) (omega (arith, moved_so g at, joins));
      filled =
          let same = count_so g at in
          let e = left_so g at in
          let right : i + 1 < length P → 1 ≤ least (set P i (remove (get_or P i []) c.args.spot.place)) i =
          λ more.
          let two : i + 1 < length T = omega (arith, same, more) in
          let enough = c.must_join.ensures.no (ap not c.if-must_join.false) two in
          subst (λ xs. 1 ≤ least xs i) e (omega (arith, enough, least-is T i two)) in
          let left : (k : ℕ) → i ≡ k + 1 → 1 ≤ least (set P i (remove (get_or P i []) c.args.spot.place)) k =
          λ k is.
          let two : k + 1 < length T = omega (arith, same, is, c.requires.taken.0) in
          let before : i - 1 ≡ k = omega (arith, is) in
          elim c.else-spot-gt0.branch [
            | else-spot-gt0-via-then-spot-gt0+else-must_join-2 w ↦
                let inside : i - 1 + 1 < length T = omega (arith, two, before) in
                let least_here : 1 ≤ least T (i - 1) =
                omega (arith, w.must_join-then-spot-gt0.ensures.no (ap not w.if-must_join-2.false) inside, least-is T (i - 1) inside) in
                subst (λ xs. 1 ≤ least xs k) e (subst (λ m. 1 ≤ least T m) before least_here)
            | else-spot-gt0-via-else-spot-gt0 w ↦ absurd (omega (arith, w.if-spot-gt0.false, is))
          ] in
          subst (λ xs. AreFilled (map length xs)) (sym e)
          (filled-left_of P i c.args.spot.place c.requires.taken.0 c.requires.taken.1 c.requires.filled right left);
      limit = search rules;
    }

pub returns-then-must_join : goal.returns-then-must_join
returns-then-must_join g c =
    let at = (goal.at.returns-then-must_join g c).After-take_out in
    let P = c.args.self.now.pages in
    let T = c.take_out.new.self.pages in
    let i = c.args.spot.page in
    let yes = c.must_join.ensures.yes c.if-must_join.true in
    record {
      numbers = ap (λ (s : PagesState). numbers_in s.pages) c.join.ensures.pages ∙ numbers-joined T i yes.0 ∙ numbers_so g at;
      filled =
          let small = subst (λ xs. least xs i ≡ 0) (left_so g at) (sym (least-is T i yes.0) ∙ yes.1) in
          let more : i + 1 < length P = omega (arith, count_so g at, yes.0) in
          subst (λ (s : PagesState). AreFilled (map length s.pages)) (sym c.join.ensures.pages)
          (subst (λ xs. AreFilled (map length (joined xs i))) (sym (left_so g at))
          (filled-joined P i c.args.spot.place c.requires.taken.0 c.requires.taken.1 c.requires.filled more small));
      moved =
          let first = page-within P i c.requires.filled in
          Spends-join_within _ _ c.take_out.ensures.moved c.join.ensures.moved (omega (arith, c.requires.taken.1))
          (omega (arith, count_so g at, first, size_so g at (i + 1)));
      exact =
          let joins = joins-behind (map length T) i (omega (arith, yes.0, length-map T length)) yes.1 ∙ moved-join T i yes.0 in
          Spends-join_within _ _ c.take_out.ensures.moved c.join.ensures.moved (omega (arith, moved_so g at, joins)) (omega (arith, moved_so g at, joins));
      limit = search rules;
    }

pub returns-then-must_join-2 : goal.returns-then-must_join-2
returns-then-must_join-2 g c =
    let at = (goal.at.returns-then-must_join-2 g c).After-take_out in
    let P = c.args.self.now.pages in
    let T = c.take_out.new.self.pages in
    let i = c.args.spot.page in
    let yes = c.must_join-then-spot-gt0.ensures.yes c.if-must_join-2.true in
    let join = c.join-then-must_join-2.ensures in
    record {
      numbers = ap (λ (s : PagesState). numbers_in s.pages) join.pages ∙ numbers-joined T (i - 1) yes.0 ∙ numbers_so g at;
      filled =
          let is : i ≡ i - 1 + 1 = omega (arith, c.if-spot-gt0.true) in
          let small = subst (λ xs. least xs (i - 1) ≡ 0) (left_so g at) (sym (least-is T (i - 1) yes.0) ∙ yes.1) in
          subst (λ (s : PagesState). AreFilled (map length s.pages)) (sym join.pages)
          (subst (λ xs. AreFilled (map length (joined xs (i - 1)))) (sym (left_so g at))
          (filled-joined_before P i c.args.spot.place c.requires.taken.0 c.requires.taken.1 c.requires.filled (i - 1) is small));
      moved =
          let first = page-within P i c.requires.filled in
          let second = size_so g at (i - 1 + 1) in
          Spends-join_within _ _ c.take_out.ensures.moved join.moved (omega (arith, c.requires.taken.1)) (omega (arith, count_so g at, first, second));
      exact =
          let same = length-map T length in
          let enough : i + 1 < length (map length T) → 1 ≤ above_least (map length T) i =
          λ more. c.must_join.ensures.no (ap not c.if-must_join.false) (omega (arith, more, same)) in
          let joins = joins-before (map length T) i enough (omega (arith, yes.0, same)) yes.1 ∙ moved-join T (i - 1) yes.0 in
          Spends-join_within _ _ c.take_out.ensures.moved join.moved (omega (arith, moved_so g at, joins)) (omega (arith, moved_so g at, joins));
      limit = search rules;
    }

pub join-requires-clause-fits : goal.join-requires-clause-fits
join-requires-clause-fits g c =
    let at = (goal.at.join-requires-clause-fits g c).After-take_out in
    let i = c.args.spot.page in
    let yes = c.must_join.ensures.yes c.if-must_join.true in
    let small = sym (least-is c.take_out.new.self.pages i yes.0) ∙ yes.1 in
    omega (arith, small, size_so g at i, size_so g at (i + 1))

pub join-requires-then-must_join-2-clause-fits : goal.join-requires-then-must_join-2-clause-fits
join-requires-then-must_join-2-clause-fits g c =
    let at = (goal.at.join-requires-then-must_join-2-clause-fits g c).After-take_out in
    let i = c.args.spot.page in
    let yes = c.must_join-then-spot-gt0.ensures.yes c.if-must_join-2.true in
    let small = sym (least-is c.take_out.new.self.pages (i - 1) yes.0) ∙ yes.1 in
    omega (arith, small, size_so g at (i - 1), size_so g at (i - 1 + 1))
