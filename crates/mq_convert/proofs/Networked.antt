-- The facts about a file once some blocks are read and the networks of their messages are known.
use Rattle.mq_convert.proofs.Common.{◌≡◌, ℕ, ◌+◌, ◌≤◌, min, List, [], ◌∷◌, ◌++◌, length, take, Option, Some, None, Result, Ok, Err, refl, ap, sym, ◌∙◌}
use Rattle.mq_convert.proofs.Common.{inl, inr, arith, append-nil, length-append, option_to_list, or-false, or-true, InputState, Takes, Takes-nil, Takes-trans}
use Rattle.mq_convert.proofs.Common.{Choice, BlockFault, ConvertFault, Captured, ContextState, at_start, AreBlocks, EndsBy, endless, ReadsBlock, held_of}
use Rattle.mq_convert.proofs.Common.{NextBlock, packets_of, most_seen}
use Rattle.mq_convert.specs.declared.fault.ConvertFault.TheVariants as answer
use Rattle.mq_convert.specs.declared.network.Messages.{Messages}
use Rattle.mq_convert.specs.declared.network.Network.{Network}
use Rattle.mq_convert.specs.declared.packet.Packet.{Packet}
use Rattle.mq_convert.specs.Networks.{Finds, IsOver, network_of, networks_of, with_network}
use Rattle.mq_convert.proofs.Begun.{begun_ends}
use Rattle.mq_convert.proofs.SoFar.{AreBlocks-more, is_seen, packets_of-more}

networks_of-more : (protocol : Messages) (choice : Choice) (seen : List Network) (xs ys : List Captured)
    → networks_of protocol choice seen (xs ++ ys) ≡ networks_of protocol choice (networks_of protocol choice seen xs) ys
networks_of-more protocol choice seen [] ys = refl
networks_of-more protocol choice seen (x ∷ xs) ys =
    networks_of-more protocol choice (with_network seen (network_of protocol choice x)) xs ys

-- so many blocks were read, and their messages are of these networks
pub record AreKnownTo (protocol : Messages) (choice : Choice) (old new : InputState) (context : ContextState) (number : ℕ) (found : List Network) : Type 0 where
  pub bytes : List ℕ
  pub blocks : List (Option Captured)
  pub takes : Takes old new bytes
  pub are_blocks : AreBlocks at_start bytes blocks context
  pub count : number ≡ length blocks
  pub networks_are : found ≡ networks_of protocol choice [] (packets_of blocks)

pub none_known : (protocol : Messages) (choice : Choice) (s : InputState) (context : ContextState) (networks : List Network) → context ≡ at_start →
    networks ≡ [] → AreKnownTo protocol choice s s context 0 networks
none_known protocol choice s context networks is none = record {
  bytes = [];
  blocks = [];
  takes = Takes-nil s;
  are_blocks = (refl, is);
  count = refl;
  networks_are = none;
}

-- a block more was read
pub next_known : (protocol : Messages) (choice : Choice) (old mid new : InputState) (context after : ContextState) (number size count : ℕ)
    (networks more : List Network) (buffer : List ℕ) (packet : Option Packet)
    → AreKnownTo protocol choice old mid context number networks → NextBlock context.kind number mid new buffer (Ok (Some size)) →
    count ≡ min size most_seen → ReadsBlock number context after size (take count buffer) (Ok packet)
    → more ≡ networks_of protocol choice networks (option_to_list (held_of (take count buffer) packet))
    → AreKnownTo protocol choice old new after (number + 1) more
next_known protocol choice old mid new context after number size count networks more buffer packet r next front reads is =
    let held = held_of (take count buffer) packet in
    record {
      bytes = r.bytes ++ next.bytes;
      blocks = r.blocks ++ (held ∷ []);
      takes = Takes-trans old mid new r.bytes next.bytes r.takes next.takes;
      are_blocks = AreBlocks-more at_start context after r.bytes next.bytes r.blocks held r.are_blocks next.answers.5
          (is_seen context number size count mid new buffer next front ∙ reads.0);
      count = let count = r.count in omega (arith, count, length-append r.blocks (held ∷ []));
      networks_are = is ∙ ap (λ (seen : List Network). networks_of protocol choice seen (option_to_list held)) r.networks_are
          ∙ sym (networks_of-more protocol choice [] (packets_of r.blocks) (option_to_list held))
          ∙ ap (networks_of protocol choice []) (sym (packets_of-more r.blocks held));
    }

-- the networks of what was read, at the end of a call
known_with : (protocol : Messages) (choice : Choice) (old mid new : InputState) (context : ContextState) (number : ℕ) (networks : List Network)
    (r : AreKnownTo protocol choice old mid context number networks)
    → (bytes : List ℕ) → Takes mid new bytes → number ≤ endless → (end : Option BlockFault) → EndsBy number context bytes end →
    (it : Result (Unit {0}) ConvertFault) → IsOver (length r.blocks) end old new it → Finds protocol choice old new networks it
known_with protocol choice old mid new context number networks r bytes takes few end ends it ended = record {
  bytes = r.bytes ++ bytes;
  blocks = r.blocks;
  end = end;
  takes = Takes-trans old mid new r.bytes bytes r.takes takes;
  capture = record {
    front = r.bytes;
    rest = bytes;
    context = context;
    parts = refl;
    are_blocks = r.are_blocks;
    few = rw r.count at few;
    ends = rw r.count at ends;
  };
  ended = ended;
  networks_are = r.networks_are;
}

-- the file ended
pub known_whole : (protocol : Messages) (choice : Choice) (old mid new : InputState) (context : ContextState) (number : ℕ) (networks : List Network)
    (buffer : List ℕ) (it : Unit {0})
    → AreKnownTo protocol choice old mid context number networks → mid.failed ≡ old.failed → number ≤ endless
    → NextBlock context.kind number mid new buffer (Ok None) → Finds protocol choice old new networks (Ok it)
known_whole protocol choice old mid new context number networks buffer it r same few next =
    known_with protocol choice old mid new context number networks r next.bytes next.takes few None
    (next.answers.0, next.answers.1) (Ok it) (refl, next.answers.2, next.failed ∙ or-false mid.failed ∙ same)

-- a read failed, or the next block has a fault by its size
pub known_faulty : (protocol : Messages) (choice : Choice) (old mid new : InputState) (context : ContextState) (number : ℕ) (networks : List Network)
    (buffer : List ℕ) (e : ConvertFault)
    → AreKnownTo protocol choice old mid context number networks → mid.failed ≡ old.failed → number ≤ endless →
    NextBlock context.kind number mid new buffer (Err e) → Finds protocol choice old new networks (Err e)
known_faulty protocol choice old mid new context number networks buffer answer.Read r same few next =
    let begun = begun_ends number context next.bytes next.answers in
    known_with protocol choice old mid new context number networks r next.bytes next.takes few begun.0 begun.1 (Err answer.Read)
    (next.failed ∙ or-true mid.failed)
known_faulty protocol choice old mid new context number networks buffer answer.Write r same few next = absurd next.answers
known_faulty protocol choice old mid new context number networks buffer answer.Memory r same few next = absurd next.answers
known_faulty protocol choice old mid new context number networks buffer (answer.Block n f) r same few next =
    known_with protocol choice old mid new context number networks r next.bytes next.takes few (Some f) (inl next.answers.1) (Err (answer.Block n f))
    (refl, next.answers.0 ∙ r.count, next.answers.2, next.failed ∙ or-false mid.failed ∙ same)

-- the next block was read, and what it holds has a fault
pub known_within : (protocol : Messages) (choice : Choice) (old mid new : InputState) (context now : ContextState) (number size count : ℕ)
    (networks : List Network) (buffer : List ℕ) (e : ConvertFault)
    → AreKnownTo protocol choice old mid context number networks → mid.failed ≡ old.failed →
    NextBlock context.kind number mid new buffer (Ok (Some size)) → count ≡ min size most_seen → ReadsBlock number context now size (take count buffer) (Err e)
    → Finds protocol choice old new networks (Err e)
known_within protocol choice old mid new context now number size count networks buffer (answer.Block n f) r same next front reads =
    let few = next.answers.0 in
    known_with protocol choice old mid new context number networks r next.bytes next.takes (omega (arith, few)) (Some f)
    (inr (next.bytes, [], sym (append-nil next.bytes), few, next.answers.5, is_seen context number size count mid new buffer next front ∙ reads.1))
    (Err (answer.Block n f))
    (refl, reads.0 ∙ r.count, λ cut. absurd (cc (cut, reads.2)), next.failed ∙ or-false mid.failed ∙ same)
known_within protocol choice old mid new context now number size count networks buffer _ r same next front reads = absurd reads
