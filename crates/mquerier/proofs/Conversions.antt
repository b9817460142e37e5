-- The result of a conversion, as a performed request.
use Rattle.mquerier.proofs.Common.{◌≡◌, ℕ, [], Bool, Bor, List, Option, Result, Ok, Err, arith, inr, refl, Keeps, Appends-kept, Convert, Choice, InputState}
use Rattle.mquerier.proofs.Common.{Input, Output, Performs, PerformsConversion}
use Rattle.mq_command.specs.declared.Interface.{Interface}
use Rattle.mq_convert.specs.{declared.counts.ConvertCounts.ConvertCounts, declared.fault.ConvertFault.ConvertFault, Converting.Converts, Converting.IsWritten}
use Rattle.mq_convert.specs.Records.{written_of}
use Rattle.mquerier.specs.Choosing.{choice_of}
use Rattle.mq_convert.specs.declared.fault.ConvertFault.TheVariants as answer

pub conversion_performed : (interface : Option Interface) (vlan : Option ℕ) (once json : Bool) (file : Option (Bor (List ℕ))) (in_words : Bool)
    (input : Input) (output errors : Output) (status : ℕ)
    → PerformsConversion (choice_of interface vlan once) json input output errors status →
    Performs (Convert interface vlan once json file) in_words input output errors status
conversion_performed interface vlan once json file in_words input output errors status performs =
    let few = performs.at_most_one in
    record {
      at_most_four = omega (arith, few);
      done = performs.done;
      faulty = λ one. inr (performs.faulty one);
      refused = λ two. absurd (omega (arith, two, few));
      found = λ three. absurd (omega (arith, three, few));
      unjudged = λ four. absurd (omega (arith, four, few));
      unread = λ none. absurd none;
    }

written_kept : (before mid after : Option (List ℕ)) (text : List ℕ) (r : Result ConvertCounts ConvertFault) → (r ≡ Err answer.Write → ⊥) →
    IsWritten before mid text r → Keeps mid after → IsWritten before after text r
written_kept before mid after text (Ok counts) unlike written kept = Appends-kept before mid after text written kept
written_kept before mid after text (Err answer.Read) unlike written kept = Appends-kept before mid after text written kept
written_kept before mid after text (Err answer.Write) unlike written kept = absurd (unlike refl)
written_kept before mid after text (Err answer.Memory) unlike written kept = Appends-kept before mid after [] written kept
written_kept before mid after text (Err (answer.Block number f)) unlike written kept = Appends-kept before mid after text written kept

-- a conversion is the same behind a flush
pub converted_kept : (choice : Choice) (old new : InputState) (before mid after : Option (List ℕ)) (r : Result ConvertCounts ConvertFault) →
    (r ≡ Err answer.Write → ⊥) → Converts choice old new before mid r → Keeps mid after → Converts choice old new before after r
converted_kept choice old new before mid after r unlike converts kept =
    record {
      bytes = converts.bytes;
      blocks = converts.blocks;
      end = converts.end;
      takes = converts.takes;
      capture = converts.capture;
      ended = converts.ended;
      written = written_kept before mid after (written_of choice converts.blocks) r unlike converts.written kept;
    }
