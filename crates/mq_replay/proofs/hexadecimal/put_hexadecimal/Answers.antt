use Rattle.mq_replay.proofs.Common.{◌≡◌, ℕ, ◌+◌, ◌-◌, List, [], take, sym, ap, ◌∙◌, subst, arith, flat_map, err_from_is_err_and, take_all, nat_tests, inner_of}
use Rattle.mq_replay.proofs.Common.{Passes, broken_among, both_passed, held_more}
use Rattle.mq_replay.proofs.ReplayTexts.{byte_text, encode_lower-each, encode_lower-next}
use Rattle.mq_replay.proofs.hexadecimal.put_hexadecimal.Goals as goal

pub loop-done-preserved : goal.loop-done-preserved
loop-done-preserved g c =
    let before = c.loop-done.invariant in
    let bytes = c.args.bytes.now in
    let done = c.loop-done.done in
    let count = done + c.min.result - done in
    let same_end : done + count ≡ done + c.min.result = omega arith in
    let passed = both_passed _ _ _ _ _ _ (flat_map byte_text (take done bytes)) _ before.put
    (held_more _ _ _ _ _ [] _ c.in_ok-make_room.ensures.text c.put_few.ensures) in
    let so_far = sym (encode_lower-next bytes done count) ∙ ap (λ end. flat_map byte_text (take end bytes)) same_end in
    record {
      put = subst (λ (t : List ℕ). Passes (g.W.Write.contents (inner_of c.args.writer.now))
          (g.W.Write.contents (inner_of c.make_room.new.writer)) c.args.buffer.now.items c.put_few.new.buffer.items t) so_far passed;
      within = let a = before.within in let b = c.min.ensures in omega (arith, a, b);
      same = grind (arith, nat_tests, c.in_ok-make_room.ensures.failed, before.same);
    }

pub returns-in_err-make_room-clause-text : goal.returns-in_err-make_room-clause-text
returns-in_err-make_room-clause-text g c =
    let p = err_from_is_err_and c.from_residual.result c.from_residual.ensures.1 in
    rw (p.1, encode_lower-each c.args.bytes.now) (broken_among byte_text _ _ _ _ _ _ _ c.loop-done.invariant.put c.in_err-make_room.ensures.text)

pub returns-clause-text : goal.returns-clause-text
returns-clause-text g c =
    let all = take_all c.loop-done.done c.args.bytes.now c.loop-done-test.false in
    rw (encode_lower-each c.args.bytes.now, ← all) c.loop-done.invariant.put
