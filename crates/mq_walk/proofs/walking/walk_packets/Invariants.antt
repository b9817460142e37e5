use Rattle.std.proofs.Common.{◌≡◌, ◌+◌, ◌-◌, ◌<◌, ◌≤◌, ◌^◌, length}
use Rattle.mq_count.specs.Streams.{has_failed}
use Rattle.mq_pcap.specs.declared.reader_state.Progress.TheVariants.{Reading}
use Rattle.mq_pcap.specs.Capture.{endless, most_bytes}
use Rattle.mq_pcap.specs.Filling.{input_of}
use Rattle.mq_pcap.specs.Reading.{form_of, number_of, progress_of}
use Rattle.mq_walk.proofs.WalkedOver.{IsWalkedTo}
use Rattle.mq_walk.proofs.walking.walk_packets.Given as goal

-- the packets that were read, and that the step took them
abbrev pub invariant-loop-read : goal.invariant-loop-read
invariant-loop-read g l =
    record {
      walked : IsWalkedTo g.T.Step.takes (form_of l.fn.capture) (input_of g.R.Read.remaining l.fn.reader) (input_of g.R.Read.remaining l.reader)
          (l.fn.steps, l.fn.output) (record { first = l.stamps.first; before = l.stamps.before; number = l.packets + 1 }) (l.steps, l.output);
      form : form_of l.capture ≡ form_of l.fn.capture;
      next : number_of l.capture ≡ l.packets + 1;
      reading : progress_of l.capture ≡ Reading;
      last : l.last ≡ l.stamps.before;
      in_range : l.stamps.before ≤ 2 ^ 53;
      few : l.packets < endless;
      room : most_bytes ≤ length l.packet;
      read : has_failed l.reader ≡ has_failed l.fn.reader;
    }

abbrev pub decreases-loop-read : goal.decreases-loop-read
decreases-loop-read g l = endless - l.packets
