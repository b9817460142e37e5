use Rattle.std.proofs.Common.{ℕ, ◌+◌, Option, Result, Ok, subst, ap, sym, ◌∙◌, arith, refl}
use Rattle.std.proofs.lemmas.Result.{err_from_is_err_and}
use Rattle.std.proofs.Math.Bool.{or-false}
use Rattle.mq_pcap.specs.declared.fault.PcapFault.{PcapFault}
use Rattle.mq_pcap.specs.declared.form.Form.{Form}
use Rattle.mq_pcap.specs.declared.reader_state.Packet.{Packet}
use Rattle.mq_pcap.specs.Filling.{input_of}
use Rattle.mq_pcap.specs.Reading.{form_of, number_of, progress_after, records_in}
use Rattle.mq_walk.specs.declared.stamps.Stamps.{Stamps}
use Rattle.mq_walk.specs.PlacedPackets.{Place}
use Rattle.mq_walk.proofs.ReadSoFar.{none_left, read_as}
use Rattle.mq_walk.proofs.WalkedOver.{IsWalkedTo, moment_within, next_walked, none_walked, place_as, placed_as, walked_faulty, walked_in_part, walked_well}
use Rattle.mq_walk.proofs.walking.walk_packets.Goals as goal

pub loop-read-init : goal.loop-read-init
loop-read-init g c =
    record {
      walked = rw c.new-stamps.ensures (none_walked _ _ _ _);
      form = refl;
      next = c.requires.first;
      reading = c.requires.reading;
      last = rw c.new-stamps.ensures c.of-last.ensures;
      in_range = rw c.new-stamps.ensures (omega arith);
      few = omega arith;
      room = c.requires.room;
      read = refl;
    }

pub of-moment-requires : goal.of-moment-requires
of-moment-requires g c =
    record {
      in_range = moment_within _ c.loop-read.stamps.first c.loop-read.stamps.before c.in-Some.read.stamp_ms c.moment_of_next.ensures.moment
          c.in-Some.read.in_range c.loop-read.invariant.in_range;
    }

pub loop-read-preserved : goal.loop-read-preserved
loop-read-preserved g c =
    let now = c.loop-read.invariant in
    let answered = ap Ok c.in-Some.is in
    let read = read_as _ _ _ _ _ _ _ _ _ now.form now.next answered (c.in_ok-read.ensures.reads now.reading) in
    let form = c.next.ensures.form ∙ now.form in
    let is_moment = c.of-moment.ensures ∙ c.moment_of_next.ensures.moment in
    let step = placed_as g.T.Step.takes _ _ c.loop-read.stamps c.moment_of_next.new.self _ _ _ _ _ _ _ _ _
    (c.link.ensures ∙ ap (λ (f : Form). f.link) form) now.last is_moment c.goes_back-goes_back.ensures c.in_ok-packet.ensures.taken in
    let place = place_as c.loop-read.stamps c.moment_of_next.new.self _ (c.loop-read.packets + 1) c.in-Some.read.stamp_ms
    c.moment_of_next.ensures.after c.moment_of_next.ensures.moment in
    record {
      walked = subst (λ (p : Place). IsWalkedTo g.T.Step.takes (form_of c.args.capture.now) (input_of g.R.Read.remaining c.args.reader.now)
          (input_of g.R.Read.remaining c.next.new.reader) (c.args.steps.now, c.args.output.now) p (c.packet.new.self, c.packet.new.output)) place
          (next_walked _ _ _ _ _ _ _ _ _ _ c.in-Some.read now.walked read step);
      form = form;
      next = c.in_ok-read.ensures.number ∙ ap (λ (a : Result (Option Packet) PcapFault). number_of c.loop-read.capture + records_in a) answered ∙
          ap (λ (n : ℕ). n + 1) now.next;
      reading = c.in_ok-read.ensures.progress ∙ ap progress_after answered;
      last = c.of-moment.ensures ∙ ap (λ (s : Stamps). s.before) (sym c.moment_of_next.ensures.after);
      in_range = rw c.moment_of_next.ensures.after
          (moment_within _ c.loop-read.stamps.first c.loop-read.stamps.before c.in-Some.read.stamp_ms c.moment_of_next.ensures.moment
          c.in-Some.read.in_range now.in_range);
      few = read.answers.0;
      room = let room = now.room in omega (arith, c.next.auto.buffer);
      read = read.failed ∙ or-false _ ∙ now.read;
    }

pub returns-in_err-read : goal.returns-in_err-read
returns-in_err-read g c =
    let p = err_from_is_err_and c.from_residual.result c.from_residual.ensures.1 in
    let now = c.loop-read.invariant in
    let read = read_as _ _ _ _ _ _ _ _ _ now.form now.next refl (c.in_err-read.ensures.reads now.reading) in
    rw p.1 (walked_faulty _ _ _ _ _ _ _ _ _ _ _ _ now.walked now.read read p.2)

pub returns-in_err-packet : goal.returns-in_err-packet
returns-in_err-packet g c =
    let p = err_from_is_err_and c.from_residual-in_err-packet.result c.from_residual-in_err-packet.ensures.1 in
    let now = c.loop-read.invariant in
    let answered = ap Ok c.in-Some.is in
    let read = read_as _ _ _ _ _ _ _ _ _ now.form now.next answered (c.in_ok-read.ensures.reads now.reading) in
    let form = c.next.ensures.form ∙ now.form in
    let is_moment = c.of-moment.ensures ∙ c.moment_of_next.ensures.moment in
    let step = placed_as g.T.Step.takes _ _ c.loop-read.stamps c.moment_of_next.new.self _ _ _ _ _ _ _ _ _
    (c.link.ensures ∙ ap (λ (f : Form). f.link) form) now.last is_moment c.goes_back-goes_back.ensures c.in_err-packet.ensures.taken in
    rw (p.1, p.2) (walked_in_part _ _ _ _ _ _ _ _ _ _ _ c.in-Some.read _ now.walked now.read read step)

pub returns : goal.returns
returns g c =
    let now = c.loop-read.invariant in
    let answered = ap Ok (none_left _ c.in_default.not-Some) in
    let read = read_as _ _ _ _ _ _ _ _ _ now.form now.next answered (c.in_ok-read.ensures.reads now.reading) in
    walked_well _ _ _ _ _ _ _ _ _ _ _
    (subst (λ (m : ℕ). IsWalkedTo g.T.Step.takes (form_of c.args.capture.now) (input_of g.R.Read.remaining c.args.reader.now)
    (input_of g.R.Read.remaining c.loop-read.reader)
    (c.args.steps.now, c.args.output.now) (record { first = c.loop-read.stamps.first; before = m; number = c.loop-read.packets + 1 })
    (c.loop-read.steps, c.loop-read.output)) (sym now.last) now.walked) now.read read
