-- The facts about a file once some blocks are read and their packets are put.
use Rattle.mq_convert.proofs.Common.{◌≡◌, ℕ, ◌+◌, ◌≤◌, min, List, [], ◌∷◌, ◌++◌, length, take, Option, Some, None, Result, Ok, Err, refl, ap, sym, subst, ◌∙◌}
use Rattle.mq_convert.proofs.Common.{inl, inr, arith, append-nil, append_assoc, length-append, option_to_list, flat_map, flat_map-append, or-false, or-true}
use Rattle.mq_convert.proofs.Common.{InputState, Takes, Takes-nil, Takes-trans, Passes, Puts, both_passed, broken_behind, Choice, ConvertCounts, BlockFault}
use Rattle.mq_convert.proofs.Common.{ConvertFault, Captured, block_in, seen_in, ContextState, at_start, IsEndedBy, AreBlocks, EndsBy, endless, IsPut}
use Rattle.mq_convert.proofs.Common.{PutsCapture, ReadsBlock, block_text, held_of, records_of, NextBlock, converted, file_header, packets_of, record_of}
use Rattle.mq_convert.proofs.Common.{written_of, Gone, gone_behind, going_out, HasSieved, SieveState, IsWhole, most_seen, seen_of}
use Rattle.mq_convert.specs.declared.fault.ConvertFault.TheVariants as answer
use Rattle.mq_convert.specs.declared.packet.Packet.{Packet}
use Rattle.mq_convert.proofs.Begun.{begun_ends}
use Rattle.mq_convert.proofs.NextBlocks.{some_head}
use Rattle.mq_convert.proofs.Sifted.{going_out-more}

-- one block more
pub AreBlocks-more : (start mid after : ContextState) (bytes first : List ℕ) (blocks : List (Option Captured)) (held : Option Captured)
    → AreBlocks start bytes blocks mid → IsWhole mid.kind first → block_in mid first ≡ Ok (after, held)
    → AreBlocks start (bytes ++ first) (blocks ++ (held ∷ [])) after
AreBlocks-more start mid after bytes first [] held are whole is =
    let P : ContextState → Type 0 = λ s. AreBlocks s (bytes ++ first) (held ∷ []) after in
    subst P are.1 (first, [], after, ap (λ (xs : List ℕ). xs ++ first) are.0 ∙ sym (append-nil first), whole, is, (refl, refl))
AreBlocks-more start mid after bytes first (block ∷ blocks) held are whole is = (
  are.0,
  are.1 ++ first,
  are.2,
  ap (λ (xs : List ℕ). xs ++ first) are.3 ∙ append_assoc are.0 are.1 first,
  are.4,
  are.5,
  AreBlocks-more are.2 mid after are.1 first blocks held are.6 whole is,
)

pub packets_of-more : (blocks : List (Option Captured)) (held : Option Captured) → packets_of (blocks ++ (held ∷ [])) ≡ packets_of blocks ++ option_to_list held
packets_of-more blocks held =
    flat_map-append option_to_list blocks (held ∷ []) ∙ ap (λ (xs : List Captured). packets_of blocks ++ xs) (append-nil (option_to_list held))

converted-more : (choice : Choice) (blocks : List (Option Captured)) (held : Option Captured)
    → converted choice (packets_of (blocks ++ (held ∷ []))) ≡ converted choice (packets_of blocks) ++
    records_of choice (gone_behind choice [] (packets_of blocks)) held
converted-more choice blocks held =
    let before = packets_of blocks in
    let more = going_out choice (gone_behind choice [] before) (option_to_list held) in
    ap (converted choice) (packets_of-more blocks held)
    ∙ ap (λ (xs : List Captured). file_header ++ flat_map (record_of choice) xs) (going_out-more choice [] before (option_to_list held))
    ∙ ap (λ (xs : List ℕ). file_header ++ xs) (flat_map-append (record_of choice) (going_out choice [] before) more)
    ∙ sym (append_assoc file_header (flat_map (record_of choice) (going_out choice [] before)) (flat_map (record_of choice) more))

written_of-more : (choice : Choice) (blocks : List (Option Captured)) (held : Option Captured)
    → written_of choice (blocks ++ (held ∷ [])) ≡ written_of choice blocks ++ block_text choice (gone_behind choice [] (packets_of blocks)) (length blocks) held
written_of-more choice [] held = ap (λ (xs : List Captured). file_header ++ flat_map (record_of choice) (going_out choice [] xs))
    (append-nil (option_to_list held))
written_of-more choice (block ∷ blocks) held = converted-more choice (block ∷ blocks) held

-- the bytes written for a block, by the facts about the packets before
text_so : (choice : Choice) (packets : List Captured) (sieve : SieveState) (number : ℕ) (held : Option Captured) → HasSieved choice packets sieve
    → block_text sieve.choice sieve.gone number held ≡ block_text choice (gone_behind choice [] packets) number held
text_so choice packets sieve number held has =
    ap (λ (asked : Choice). block_text asked sieve.gone number held) has.chosen ∙ ap (λ (gone : List Gone). block_text choice gone number held) has.gone

-- so many blocks were read, and this is known of their packets
pub record IsReadTo (choice : Choice) (old new : InputState) (context : ContextState) (number : ℕ) (sieve : SieveState) : Type 0 where
  pub bytes : List ℕ
  pub blocks : List (Option Captured)
  pub takes : Takes old new bytes
  pub are_blocks : AreBlocks at_start bytes blocks context
  pub count : number ≡ length blocks
  pub sieved : HasSieved choice (packets_of blocks) sieve

-- the text of what was read
abbrev pub text_of : (choice : Choice) (old new : InputState) (context : ContextState) (number : ℕ) (sieve : SieveState) →
    IsReadTo choice old new context number sieve → List ℕ
text_of choice old new context number sieve r = written_of choice r.blocks

abbrev pub nothing_read : (choice : Choice) (s : InputState) (context : ContextState) (sieve : SieveState) → context ≡ at_start →
    HasSieved choice [] sieve → IsReadTo choice s s context 0 sieve
nothing_read choice s context sieve is sieved = record {
  bytes = [];
  blocks = [];
  takes = Takes-nil s;
  are_blocks = (refl, is);
  count = refl;
  sieved = sieved;
}

-- the result of a block is that of its size and its seen bytes
pub is_seen : (context : ContextState) (number size count : ℕ) (mid new : InputState) (buffer : List ℕ) →
    (next : NextBlock context.kind number mid new buffer (Ok (Some size))) → count ≡ min size most_seen
    → block_in context next.bytes ≡ seen_in context size (take count buffer)
is_seen context number size count mid new buffer next is =
    ap (λ n. seen_in context n (seen_of next.bytes)) next.answers.2 ∙ ap (seen_in context size) (next.answers.1 ∙ ap (λ n. take n buffer) (sym is))

-- a block more was read and put
next_read : (choice : Choice) (old mid new : InputState) (context after : ContextState) (number size count : ℕ) (sieve more : SieveState)
    (buffer : List ℕ) (held : Option Captured)
    → (r : IsReadTo choice old mid context number sieve) → NextBlock context.kind number mid new buffer (Ok (Some size)) →
    count ≡ min size most_seen → seen_in context size (take count buffer) ≡ Ok (after, held)
    → ((asked : Choice) (packets : List Captured) → HasSieved asked packets sieve → HasSieved asked (packets ++ option_to_list held) more)
    → (s : IsReadTo choice old new after (number + 1) more) × (s.blocks ≡ r.blocks ++ (held ∷ []))
next_read choice old mid new context after number size count sieve more buffer held r next front is sieved = (
  record {
    bytes = r.bytes ++ next.bytes;
    blocks = r.blocks ++ (held ∷ []);
    takes = Takes-trans old mid new r.bytes next.bytes r.takes next.takes;
    are_blocks = AreBlocks-more at_start context after r.bytes next.bytes r.blocks held r.are_blocks next.answers.5
        (is_seen context number size count mid new buffer next front ∙ is);
    count = let count = r.count in omega (arith, count, length-append r.blocks (held ∷ []));
    sieved = rw packets_of-more (sieved choice (packets_of r.blocks) r.sieved);
  },
  refl,
)

-- the result of the packets that were read, at the end of a call
ended_with : (choice : Choice) (old mid new : InputState) (before after : Option (List ℕ)) (held left : List ℕ) (context : ContextState) (number : ℕ)
    (sieve : SieveState) (r : IsReadTo choice old mid context number sieve)
    → (bytes : List ℕ) → Takes mid new bytes → number ≤ endless → (end : Option BlockFault) → EndsBy number context bytes end →
    (it : Result ConvertCounts ConvertFault)
    → IsEndedBy choice context.dropped r.blocks end (r.bytes ++ bytes) old new it → IsPut before after held left (written_of choice r.blocks) it
    → PutsCapture choice old new before after held left it
ended_with choice old mid new before after held left context number sieve r bytes takes few end ends it ended put = record {
  bytes = r.bytes ++ bytes;
  blocks = r.blocks;
  end = end;
  takes = Takes-trans old mid new r.bytes bytes r.takes takes;
  capture = record {
    front = r.bytes;
    rest = bytes;
    context = context;
    parts = refl;
    are_blocks = r.are_blocks;
    few = rw r.count at few;
    ends = rw r.count at ends;
  };
  ended = ended;
  put = put;
}

-- the file ended
pub ended_well : (choice : Choice) (old mid new : InputState) (before after : Option (List ℕ)) (held left : List ℕ) (context : ContextState) (number : ℕ)
    (sieve : SieveState) (buffer : List ℕ) (r : IsReadTo choice old mid context number sieve)
    → Passes before after held left (written_of choice r.blocks) → mid.failed ≡ old.failed → number ≤ endless
    → NextBlock context.kind number mid new buffer (Ok None)
    → PutsCapture choice old new before after held left (Ok (record sieve.counts { dropped = context.dropped }))
ended_well choice old mid new before after held left context number sieve buffer r passed same few next =
    ended_with choice old mid new before after held left context number sieve r next.bytes next.takes few None
    (next.answers.0, next.answers.1) (Ok (record sieve.counts { dropped = context.dropped })) (
      refl,
      next.answers.2,
      record { unread = r.sieved.counts.unread; repeated = r.sieved.counts.repeated },
      next.failed ∙ or-false mid.failed ∙ same,
      refl,
    ) passed

-- a read failed, or the next block has a fault by its size
pub ended_faulty : (choice : Choice) (old mid new : InputState) (before after : Option (List ℕ)) (held left : List ℕ) (context : ContextState)
    (number : ℕ) (sieve : SieveState) (buffer : List ℕ) (e : ConvertFault) (r : IsReadTo choice old mid context number sieve)
    → Passes before after held left (written_of choice r.blocks) → mid.failed ≡ old.failed → number ≤ endless →
    NextBlock context.kind number mid new buffer (Err e) → PutsCapture choice old new before after held left (Err e)
ended_faulty choice old mid new before after held left context number sieve buffer answer.Read r passed same few next =
    let begun = begun_ends number context next.bytes next.answers in
    ended_with choice old mid new before after held left context number sieve r next.bytes next.takes few begun.0 begun.1 (Err answer.Read)
    (next.failed ∙ or-true mid.failed) passed
ended_faulty choice old mid new before after held left context number sieve buffer answer.Write r passed same few next = absurd next.answers
ended_faulty choice old mid new before after held left context number sieve buffer answer.Memory r passed same few next = absurd next.answers
ended_faulty choice old mid new before after held left context number sieve buffer (answer.Block n f) r passed same few next =
    ended_with choice old mid new before after held left context number sieve r next.bytes next.takes few (Some f) (inl next.answers.1) (Err (answer.Block n f))
    (refl, next.answers.0 ∙ r.count, next.answers.2, next.failed ∙ or-false mid.failed ∙ same) passed

-- the next block was read, and what it holds has a fault
pub ended_within : (choice : Choice) (old mid new : InputState) (before after : Option (List ℕ)) (held left : List ℕ) (context now : ContextState)
    (number size count : ℕ) (sieve : SieveState) (buffer : List ℕ) (e : ConvertFault) (r : IsReadTo choice old mid context number sieve)
    → Passes before after held left (written_of choice r.blocks) → mid.failed ≡ old.failed →
    NextBlock context.kind number mid new buffer (Ok (Some size)) → count ≡ min size most_seen → ReadsBlock number context now size (take count buffer) (Err e)
    → PutsCapture choice old new before after held left (Err e)
ended_within choice old mid new before after held left context now number size count sieve buffer (answer.Block n f) r passed same next front reads =
    let few = next.answers.0 in
    ended_with choice old mid new before after held left context number sieve r next.bytes next.takes (omega (arith, few)) (Some f)
    (inr (next.bytes, [], sym (append-nil next.bytes), few, next.answers.5, is_seen context number size count mid new buffer next front ∙ reads.1))
    (Err (answer.Block n f))
    (refl, reads.0 ∙ r.count, λ cut. absurd (cc (cut, reads.2)), next.failed ∙ or-false mid.failed ∙ same) passed
ended_within choice old mid new before after held left context now number size count sieve buffer _ r passed same next front reads = absurd reads

-- the next block was read, and what it holds put
pub next_put : (T E : Type 0) (choice : Choice) (old mid new : InputState) (before now after : Option (List ℕ)) (held more left : List ℕ)
    (context behind : ContextState) (number size count : ℕ) (sieve more_sieve : SieveState) (buffer : List ℕ) (packet : Option Packet) (it : T)
    → (r : IsReadTo choice old mid context number sieve) → Passes before now held more (written_of choice r.blocks) →
    NextBlock context.kind number mid new buffer (Ok (Some size)) → count ≡ min size most_seen
    → ReadsBlock number context behind size (take count buffer) (Ok packet) →
    Puts {T = T} {E = E} now after more left (block_text sieve.choice sieve.gone number (held_of (take count buffer) packet)) (Ok it)
    → ((asked : Choice) (packets : List Captured) → HasSieved asked packets sieve →
    HasSieved asked (packets ++ option_to_list (held_of (take count buffer) packet)) more_sieve)
    → (s : IsReadTo choice old new behind (number + 1) more_sieve) × Passes before after held left (written_of choice s.blocks)
next_put T E choice old mid new before now after held more left context behind number size count sieve more_sieve buffer packet it r passed next front
    reads put sieved =
    let found = held_of (take count buffer) packet in
    let s = next_read choice old mid new context behind number size count sieve more_sieve buffer found r next front reads.0 sieved in
    let text = block_text choice (gone_behind choice [] (packets_of r.blocks)) number found in
    let put_so = subst (λ (t : List ℕ). Puts {T = T} {E = E} now after more left t (Ok it))
    (text_so choice (packets_of r.blocks) sieve number found r.sieved) put in
    let both = both_passed before now after held more left (written_of choice r.blocks) text passed put_so in
    (s.0, rw (s.1, written_of-more choice r.blocks found, ← r.count) both)

-- it was read, and what it holds was not put whole
pub next_broken : (T E : Type 0) (choice : Choice) (old mid new : InputState) (before now after : Option (List ℕ)) (held more left : List ℕ)
    (context behind : ContextState) (number size count : ℕ) (sieve : SieveState) (buffer : List ℕ) (packet : Option Packet) (e : E)
    → (r : IsReadTo choice old mid context number sieve) → Passes before now held more (written_of choice r.blocks) →
    NextBlock context.kind number mid new buffer (Ok (Some size)) → count ≡ min size most_seen
    → ReadsBlock number context behind size (take count buffer) (Ok packet) →
    Puts {T = T} {E = E} now after more left (block_text sieve.choice sieve.gone number (held_of (take count buffer) packet)) (Err e)
    → PutsCapture choice old new before after held left (Err answer.Write)
next_broken T E choice old mid new before now after held more left context behind number size count sieve buffer packet e r passed next front reads put =
    let found = held_of (take count buffer) packet in
    let begun = begun_ends (number + 1) behind [] (inl (some_head behind.kind)) in
    let reached : number + 1 ≡ length (r.blocks ++ (found ∷ [])) = let count = r.count in omega (arith, count, length-append r.blocks (found ∷ [])) in
    let few = next.answers.0 in
    let text = block_text choice (gone_behind choice [] (packets_of r.blocks)) number found in
    let put_so = subst (λ (t : List ℕ). Puts {T = T} {E = E} now after more left t (Err e))
    (text_so choice (packets_of r.blocks) sieve number found r.sieved) put in
    let broken = broken_behind before now after held more (written_of choice r.blocks) text passed put_so in
    record {
      bytes = r.bytes ++ next.bytes;
      blocks = r.blocks ++ (found ∷ []);
      end = begun.0;
      takes = Takes-trans old mid new r.bytes next.bytes r.takes next.takes;
      capture = record {
        front = r.bytes ++ next.bytes;
        rest = [];
        context = behind;
        parts = sym (append-nil (r.bytes ++ next.bytes));
        are_blocks = AreBlocks-more at_start context behind r.bytes next.bytes r.blocks found r.are_blocks next.answers.5
            (is_seen context number size count mid new buffer next front ∙ reads.0);
        few = omega (arith, few, reached);
        ends = rw (← reached) begun.1;
      };
      ended = tt;
      put = rw (written_of-more choice r.blocks found, ← r.count) broken;
    }
