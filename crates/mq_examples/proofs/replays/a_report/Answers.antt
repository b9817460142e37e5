use Rattle.mq_examples.proofs.Common.{◌∷◌, [], None, Ok, refl, ap, ◌∙◌, take, drop, arith, igmp, one_report, totals_of, fault_of, code_of, header_in, header_of}
use Rattle.mq_examples.proofs.Common.{in_ethernet, digits, encode_with, with_packets, ticked_within, read_of}
use Rattle.mq_pcap.specs.Frame.{in_ipv4, in_type}
use Rattle.mq_examples.proofs.{KnownReplays.report-known, Captures.the_form, Captures.the_packet}
use Rattle.mq_examples.proofs.replays.a_report.Goals as goal

pub returns : goal.returns
unfolding header_of header_in in_ethernet in_type in_ipv4 read_of fault_of ticked_within with_packets digits encode_with code_of
returns c =
    let is = report-known igmp None the_form (the_packet ∷ []) None in
    record {
      header = Ok the_form;
      packets = the_packet ∷ [];
      end = None;
      capture = (
        refl,
        (
          drop 24 one_report,
          [],
          refl,
          record { header = take 16 (drop 24 one_report); parts = refl; header_length = refl; stamp = refl; captured = refl; within = omega arith },
          omega arith,
          refl,
        ),
      );
      text_is = ap (λ r. r.text) is ∙ refl;
      answer_is = ap (λ r. totals_of r.answer) is ∙ refl;
    }
