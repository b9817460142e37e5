use Rattle.mq_examples.proofs.Common.{[], None, Some, Ok, Err, refl, ap, ◌∙◌, igmp, totals_of, header_in, header_of, digits, encode_with, code_of, with_packets}
use Rattle.mq_examples.proofs.Common.{ticked_within}
use Rattle.mq_pcap.specs.declared.fault.PcapFault.TheVariants.{CutHeader}
use Rattle.mq_examples.proofs.{Captures.the_form, KnownReplays.report-known}
use Rattle.mq_examples.proofs.replays.no_packets.Goals as goal

pub returns : goal.returns
unfolding header_of header_in ticked_within with_packets digits encode_with code_of
returns c = record {
  header =
      let is = report-known igmp None the_form [] None in
      record {
        header = Ok the_form;
        packets = [];
        end = None;
        capture = (refl, refl);
        text_is = ap (λ r. r.text) is ∙ refl;
        answer_is = ap (λ r. totals_of r.answer) is ∙ refl;
      };
  until =
      let is = report-known igmp (Some 156250) the_form [] None in
      record {
        header = Ok the_form;
        packets = [];
        end = None;
        capture = (refl, refl);
        text_is = ap (λ r. r.text) is ∙ refl;
        answer_is = ap (λ r. totals_of r.answer) is ∙ refl;
      };
  cut =
      let is = report-known igmp None the_form [] (Some (CutHeader 1)) in
      record {
        header = Ok the_form;
        packets = [];
        end = Some (CutHeader 1);
        capture = (refl, refl);
        text_is = ap (λ r. r.text) is ∙ refl;
        answer_is = ap (λ r. totals_of r.answer) is ∙ refl;
      };
  nothing = record { header = Err (CutHeader 0); packets = []; end = Some (CutHeader 0); capture = (refl, refl, refl); text_is = refl; answer_is = refl };
}
