-- A classic capture of Ethernet without tags, in nanoseconds, and its conversion, which has the same bytes.
use Rattle.mq_laws.proofs.Common.{◌≡◌, ◌<◌, ◌≤◌, ◌+◌, ℕ, true, List, [], ◌∷◌, ◌++◌, length, take, drop, Option, None, Some, Ok, refl, arith, sym, ◌∙◌, ap}
use Rattle.mq_laws.proofs.Common.{subst, append-nil, All, flat_map, take-append-drop, All-drop, Little, field, field-append, BlockFault, Captured, block_in}
use Rattle.mq_laws.proofs.Common.{AreBlocks, Captures, endless, file_header, packets_of, record_of, written_of, IsWhole, ArePlain, everything, is_untagged}
use Rattle.mq_laws.proofs.Common.{looked_at, plain, second}
use Rattle.mq_laws.proofs.{KeptBytes.AreBytes, KeptBytes.front_bytes, KeptBytes.rest_bytes, Sifted.all_go_out}
use Rattle.mq_laws.proofs.{KeptHeader.header_read, KeptHeader.header_whole, KeptHeader.looked_is, KeptHeader.plain_header, OneFile.one_file_lem}
use Rattle.mq_laws.proofs.KeptRecords.{behind_header, packet_of, record_kept, record_read, whole_record}
use Rattle.mq_pcap.specs.Capture as pcap

-- the records from this number on are blocks whose packets are written unchanged
record IsKeptFrom (number : ℕ) (bytes : List ℕ) : Type 0 where
  blocks : List (Option Captured)
  are_blocks : AreBlocks behind_header bytes blocks behind_header
  few : number + length blocks ≤ endless
  text : flat_map (record_of everything) (packets_of blocks) ≡ bytes

-- one record, and then others
one_more : (number : ℕ) (bytes first rest : List ℕ) (packet : pcap.Captured) → bytes ≡ first ++ rest → AreBytes first → pcap.IsRecord plain first packet
    → field Little 4 4 first < second → is_untagged packet.bytes ≡ true → IsKeptFrom (number + 1) rest → IsKeptFrom number bytes
one_more number bytes first rest packet is all r below plainly next =
    let parts : AreBytes (r.header ++ packet.bytes) = subst AreBytes r.parts all in
    let header = front_bytes r.header packet.bytes parts in
    let each = rest_bytes r.header packet.bytes parts in
    let size = r.header_length in
    let under : field Little 4 4 r.header < second =
    subst (λ n. n < second) (ap (field Little 4 4) r.parts ∙ field-append Little 4 4 r.header packet.bytes (omega (arith, size))) below in
    let whole : IsWhole behind_header.kind first = subst (λ xs. IsWhole behind_header.kind xs) (sym r.parts)
    (whole_record r.header packet.bytes size r.captured r.within) in
    let read = ap (block_in behind_header) r.parts ∙ record_read r.header packet.bytes size r.within header under in
    let kept = record_kept r.header packet.bytes size header each r.captured r.within under plainly in
    let few = next.few in
    record {
      blocks = Some (packet_of r.header packet.bytes) ∷ next.blocks;
      are_blocks = (first, rest, behind_header, is, whole, read, next.are_blocks);
      few = omega (arith, few);
      text = ap (λ xs. xs ++ flat_map (record_of everything) (packets_of next.blocks)) (kept ∙ sym r.parts) ∙ ap (λ xs. first ++ xs) next.text ∙ sym is;
    }

kept_records : (number : ℕ) (bytes : List ℕ) (packets : List pcap.Captured) (are : pcap.AreRecords plain number bytes packets None) →
    ArePlain number bytes packets are → AreBytes bytes → number ≤ endless → IsKeptFrom number bytes
kept_records number bytes [] are plainly all few = record { blocks = []; are_blocks = (are, refl); few = omega (arith, few); text = sym are }
kept_records number bytes (packet ∷ packets) are plainly all few =
    let parts : AreBytes (are.0 ++ are.1) = subst AreBytes are.2 all in
    let under = are.4 in
    one_more number bytes are.0 are.1 packet are.2 (front_bytes are.0 are.1 parts) are.3 plainly.0 plainly.1
    (kept_records (number + 1) are.1 packets are.5 plainly.2 (rest_bytes are.0 are.1 parts) (omega (arith, under)))

pub as_it_was_lem : (bytes : List ℕ) (packets : List pcap.Captured) (blocks : List (Option Captured)) (end : Option BlockFault)
    → All (λ byte. byte < 256) bytes → (is : pcap.Captures bytes (Ok plain) packets None) → ArePlain 1 (drop 24 bytes) packets is.1
    → Captures bytes blocks end → (end ≡ None) × (written_of everything blocks ≡ looked_at bytes ++ drop 24 bytes)
as_it_was_lem bytes packets blocks end all is plainly capture =
    let h = plain_header bytes is.0 in
    let k = kept_records 1 (drop 24 bytes) packets is.1 plainly (All-drop (λ (byte : ℕ). byte < 256) 24 bytes all) (omega arith) in
    let few = k.few in
    let mine : Captures bytes (None ∷ k.blocks) None = record {
      front = bytes;
      rest = [];
      context = behind_header;
      parts = sym (append-nil bytes);
      are_blocks = (
        take 24 bytes,
        drop 24 bytes,
        behind_header,
        sym (take-append-drop 24 bytes),
        header_whole bytes all h,
        header_read bytes all h,
        k.are_blocks,
      );
      few = omega (arith, few);
      ends = (refl, refl);
    } in
    let one = one_file_lem bytes blocks (None ∷ k.blocks) end None capture mine in
    let all_out = all_go_out everything [] (packets_of k.blocks) refl in (
      one.1,
      ap (written_of everything) one.0 ∙ ap (λ xs. file_header ++ flat_map (record_of everything) xs) all_out ∙
          ap (λ xs. file_header ++ xs) k.text ∙ ap (λ xs. xs ++ drop 24 bytes) (sym (looked_is bytes all h)),
    )
