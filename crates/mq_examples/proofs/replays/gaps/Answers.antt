use Rattle.mq_examples.proofs.Common.{◌∷◌, [], None, Some, Ok, refl, ap, ◌∙◌, take, drop, arith, Captured, igmp, two_packets, totals_of, header_in, header_of}
use Rattle.mq_examples.proofs.Common.{in_ethernet, digits, encode_with, code_of, with_packets, ticked_within}
use Rattle.mq_examples.proofs.{Captures.the_form, KnownReplays.report-known}
use Rattle.mq_examples.proofs.replays.gaps.Goals as goal

pub returns-clause-packet : goal.returns-clause-packet
unfolding header_of header_in in_ethernet ticked_within with_packets digits encode_with code_of
returns-clause-packet c =
    let first : Captured = record { stamp = 0; bytes = [] } in
    let second : Captured = record { stamp = 86400001; bytes = [] } in
    let is = report-known igmp None the_form (first ∷ second ∷ []) None in
    let records = drop 24 two_packets in
    record {
      header = Ok the_form;
      packets = first ∷ second ∷ [];
      end = None;
      capture = (
        refl,
        (
          take 16 records,
          drop 16 records,
          refl,
          record { header = take 16 records; parts = refl; header_length = refl; stamp = refl; captured = refl; within = omega arith },
          omega arith,
          (
            drop 16 records,
            [],
            refl,
            record { header = drop 16 records; parts = refl; header_length = refl; stamp = refl; captured = refl; within = omega arith },
            omega arith,
            refl,
          ),
        ),
      );
      text_is = ap (λ r. r.text) is ∙ refl;
      answer_is = ap (λ r. totals_of r.answer) is ∙ refl;
    }

pub returns-clause-until : goal.returns-clause-until
unfolding header_of header_in ticked_within with_packets digits encode_with code_of
returns-clause-until c =
    let is = report-known igmp (Some 86400001) the_form [] None in
    record {
      header = Ok the_form;
      packets = [];
      end = None;
      capture = (refl, refl);
      text_is = ap (λ r. r.text) is ∙ refl;
      answer_is = ap (λ r. totals_of r.answer) is ∙ refl;
    }
