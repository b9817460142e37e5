use Rattle.mq_held.proofs.Common.{rules, ◌≡◌, ◌<◌, [], cond, ltb, length, List, get_or, set, min, Some, sym, ap, ◌∙◌, subst, arith, get_or-set_same}
use Rattle.mq_held.proofs.Common.{get_or_default, length-set, set-set, Spends-join, Spends-join_within, PoolState, set-same, Source, number_in, StandsFrom}
use Rattle.mq_held.proofs.{Located.placed, RestartedRows.IsNext, RestartedRows.IsRestarted-more, RestartedRows.IsRestarted-none, RestartedRows.next-stands}
use Rattle.mq_held.proofs.{RestartedTimers.SourceRestarted}
use Rattle.mq_held.proofs.several_in_place.restart_row.Given.{Over}
use Rattle.mq_held.proofs.several_in_place.restart_row.Goals as goal
use Rattle.mq_held.proofs.several_in_place.restart_row.Goals.{After-row}

-- the pool with other rows
abbrev with_rows : {K : Type 0} → PoolState (Source K) → List (List (Source K)) → PoolState (Source K)
with_rows was rows = record was { rows = rows }

-- the row after some names, and the next one
next_so : (g : Over) (c : After-row g)
    → IsNext g.K.Key.number c.args.deadline c.args.earliest (get_or c.args.rows.now.rows c.args.number []) c.args.named.now
    (get_or c.loop-name.rows.rows c.args.number []) c.loop-name.from c.loop-name.name-index c.loop-name.were.is_stopped c.loop-name.were.is_later
    c.name-item.result
next_so g c = record {
  up = c.requires.ascending;
  named_up = c.requires.named;
  so_far = c.loop-name.invariant.row;
  here = c.name-item.is;
  more = c.loop-name-test.true;
}

pub loop-name-init : goal.loop-name-init
loop-name-init g c =
    let number = g.K.Key.number in
    let rows = c.args.rows.now in
    let n = c.args.number in
    let row = get_or rows.rows n [] in
    record {
      rows = ap (with_rows rows) (sym (set-same rows.rows n row c.requires.number (get_or_default rows.rows n [] row c.requires.number)));
      row = IsRestarted-none number c.args.deadline c.args.earliest row c.args.named.now c.requires.ascending c.requires.there;
      spent = search rules;
      moved = search rules;
    }

pub place_from-place-requires : goal.place_from-place-requires
place_from-place-requires g c =
    let stands = next-stands (next_so g (goal.at.place_from-place-requires g c).After-row) in
    let number = g.K.Key.number in
    record { there = subst (λ xs. StandsFrom (number_in number) xs (number c.name-item.result) c.loop-name.from) (sym c.row.ensures.cells) stands }

pub loop-name-preserved : goal.loop-name-preserved
loop-name-preserved g c =
    let number = g.K.Key.number in
    let n = c.args.number in
    let was = c.args.rows.now in
    let rows = c.loop-name.rows in
    let row = get_or rows.rows n [] in
    let place = c.place_from-place.result in
    let x = c.index-row-place.result in
    let y = c.restarted.result in
    let held = c.loop-name.invariant in
    let size = ap (λ (s : PoolState (Source _)). length s.rows) held.rows ∙ length-set was.rows n row in
    let below : n < length rows.rows = omega (arith, c.requires.number, size) in
    let here = c.index-row-place.is ∙ ap (λ xs. get_or xs place x) (c.row-in-loop-name.ensures.cells ∙ sym c.row.ensures.cells) in
    let r : SourceRestarted number row place (number c.name-item.result) c.args.deadline x y = record {
      stands = placed number c.row.ensures.cells c.place_from-place.ensures.within.1 c.place_from-place.ensures.found here;
      becomes = c.restarted.ensures;
    } in
    let next = IsRestarted-more (next_so g (goal.at.loop-name-preserved g c).After-row) r c.place_from-place.ensures.within.0 c.is_later.ensures.later.0 in
    let row_is : get_or c.set.new.self.rows n [] ≡ set row place y =
    ap (λ (s : PoolState (Source _)). get_or s.rows n []) c.set.ensures.rows ∙ get_or-set_same rows.rows n (set row place y) [] below in
    let left = c.set.ensures.rows ∙ ap (λ (s : PoolState (Source _)). with_rows s (set s.rows n (set row place y))) held.rows in
    let once = ap (with_rows was) (set-set was.rows n row (set row place y) ∙ ap (set was.rows n) (sym row_is)) in
    record {
      rows = left ∙ once;
      row = rw (row_is, c.is_stopped.ensures) next;
      spent =
          let looked = Spends-join held.spent c.place_from-place.ensures.spent in
          Spends-join_within _ _ looked c.is_later.ensures.spent (omega arith) (omega (arith, c.place_from-place.ensures.within.0));
      moved = Spends-join_within _ _ held.moved c.set.ensures.moves (omega arith) (omega arith);
    }

pub returns-clause-later : goal.returns-clause-later
returns-clause-later g c later head first =
    let all : c.loop-name.name-index ≡ length c.args.named.now = omega (arith, c.loop-name-test.false, c.loop-name.auto.name-index-end) in
    c.loop-name.invariant.row.later later head first
    ∙ ap (λ count. Some (cond (ltb 0 count) (min c.args.earliest c.args.deadline) c.args.earliest)) all
