-- The facts about the packets so far, with one packet more.
use Rattle.mq_convert.proofs.Common.{◌≡◌, ℕ, true, false, Bool, Option, List, [], ◌∷◌, ◌++◌, length, refl, sym, subst, ap, ◌∙◌, arith, append-nil}
use Rattle.mq_convert.proofs.Common.{length-append, ◌&&◌, ◌==◌, flat_map, flat_map-append, Choice, Unread, Captured, is_chosen, is_chosen_packet, number_of}
use Rattle.mq_convert.proofs.Common.{Framed, frame_of, tag_of, unread_link, unread_links, Gone, comes_again, frame_out, gone_after, gone_behind, going_out}
use Rattle.mq_convert.proofs.Common.{is_compared, is_short, left_out, HasSieved, SieveState, Sifts, SiftsFrame, Tallies}
use Rattle.mq_convert.proofs.Sifted.{gone_behind-more, going_out-more, left_out-more}

unread_links-more : (choice : Choice) (packets more : List Captured)
    → unread_links choice [] (packets ++ more) ≡ unread_links choice [] packets ++ unread_links choice (gone_behind choice [] packets) more
unread_links-more choice packets more =
    ap (λ xs. flat_map (unread_link choice) xs) (going_out-more choice [] packets more)
    ∙ flat_map-append (unread_link choice) (going_out choice [] packets) (going_out choice (gone_behind choice [] packets) more)

-- the choice of a packet, by the number of its interface and the tag that were read
pub chosen_is : (choice : Choice) (packet : Captured) (number : ℕ) (tag : Option ℕ) (chosen : Bool) → number ≡ number_of packet →
    tag ≡ tag_of (frame_of packet.link packet.bytes)
    → chosen ≡ is_chosen choice number packet.name tag → is_chosen_packet choice packet ≡ chosen
chosen_is choice packet number tag chosen numbered tagged is =
    sym (is ∙ ap (λ (n : ℕ). is_chosen choice n packet.name tag) numbered ∙ ap (λ (t : Option ℕ). is_chosen choice (number_of packet) packet.name t) tagged)

-- a packet isn't compared that isn't whole, or isn't chosen; what is known stays
cut_packet : (once chosen short : Bool) → (once && (chosen && (false && short))) ≡ false
cut_packet true true short = refl
cut_packet _ _ short = refl

other_packet : (once whole : Bool) → (once && (false && whole)) ≡ false
other_packet true whole = refl
other_packet false whole = refl

kept_so : (sieve : SieveState) (compared : Bool) (moment : ℕ) (frame : Framed) → compared ≡ false → SiftsFrame sieve sieve compared moment frame false
kept_so sieve compared moment frame is = rw is (record { is_left = refl; same = refl; gone = refl; unread = refl; repeated = refl })

pub sifted_cut : (sieve : SieveState) (packet : Captured) → (packet.original == length packet.bytes) ≡ false → Sifts sieve sieve packet false
unfolding is_compared
sifted_cut sieve packet is =
    kept_so sieve (is_compared sieve.choice packet) packet.moment (frame_out packet)
    (rw is (cut_packet sieve.choice.once (is_chosen_packet sieve.choice packet) (is_short (frame_out packet))))

pub sifted_other : (sieve : SieveState) (packet : Captured) → is_chosen_packet sieve.choice packet ≡ false → Sifts sieve sieve packet false
unfolding is_compared
sifted_other sieve packet is =
    kept_so sieve (is_compared sieve.choice packet) packet.moment (frame_out packet)
    (rw is (other_packet sieve.choice.once (packet.original == length packet.bytes && is_short (frame_out packet))))

-- a packet that is whole and chosen is compared if its frame is short
pub sifted_whole : (old new : SieveState) (packet : Captured) (left : Bool) → old.choice.once ≡ true → is_chosen_packet old.choice packet ≡ true →
    (packet.original == length packet.bytes) ≡ true
    → SiftsFrame old new (is_short (frame_out packet)) packet.moment (frame_out packet) left → Sifts old new packet left
unfolding is_compared
sifted_whole old new packet left once chosen whole sifts =
    let same : is_compared old.choice packet ≡ is_short (frame_out packet) = rw (once, chosen, whole) refl in
    rw same sifts

-- where packets may go out again, none is compared
pub sifted_none : (sieve : SieveState) (packet : Captured) → sieve.choice.once ≡ false → Sifts sieve sieve packet false
unfolding is_compared
sifted_none sieve packet is = kept_so sieve (is_compared sieve.choice packet) packet.moment (frame_out packet) (rw is refl)

-- no packet came
pub no_more : (choice : Choice) (packets : List Captured) (sieve : SieveState) → HasSieved choice packets sieve → HasSieved choice (packets ++ []) sieve
no_more choice packets sieve has = rw (append-nil packets) has

-- the test for a packet that comes again, by the facts about earlier packets
again_so : (choice : Choice) (packets : List Captured) (old : SieveState) (packet : Captured) (left : Bool) → HasSieved choice packets old →
    left ≡ comes_again old.choice old.gone packet
    → comes_again choice (gone_behind choice [] packets) packet ≡ left
again_so choice packets old packet left has is =
    let chosen : comes_again choice old.gone packet ≡ left = subst (λ (asked : Choice). comes_again asked old.gone packet ≡ left) has.chosen (sym is) in
    subst (λ (gone : List Gone). comes_again choice gone packet ≡ left) has.gone chosen

gone_so : (choice : Choice) (packets : List Captured) (old : SieveState) (packet : Captured) (gone : List Gone) → HasSieved choice packets old →
    gone ≡ gone_after old.choice old.gone packet
    → gone ≡ gone_behind choice [] (packets ++ (packet ∷ []))
gone_so choice packets old packet gone has is =
    let chosen : gone ≡ gone_after choice old.gone packet = subst (λ (asked : Choice). gone ≡ gone_after asked old.gone packet) has.chosen is in
    let so : gone ≡ gone_after choice (gone_behind choice [] packets) packet =
    subst (λ (before : List Gone). gone ≡ gone_after choice before packet) has.gone chosen in
    so ∙ sym (gone_behind-more choice [] packets (packet ∷ []))

-- a packet came that is left out
pub left_more : (choice : Choice) (packets : List Captured) (old new : SieveState) (packet : Captured) → HasSieved choice packets old →
    Sifts old new packet true → HasSieved choice (packets ++ (packet ∷ [])) new
left_more choice packets old new packet has sifts =
    let again = again_so choice packets old packet true has sifts.is_left in
    let links : unread_links choice [] (packets ++ (packet ∷ [])) ≡ unread_links choice [] packets =
    unread_links-more choice packets (packet ∷ []) ∙ rw again (append-nil (unread_links choice [] packets)) in
    let lefts : left_out choice [] (packets ++ (packet ∷ [])) ≡ left_out choice [] packets ++
    (packet ∷ []) = left_out-more choice [] packets (packet ∷ []) ∙ rw again refl in
    let was = has.counts.repeated in
    let more = sifts.repeated in
    record {
      chosen = sifts.same ∙ has.chosen;
      gone = gone_so choice packets old packet new.gone has sifts.gone;
      counts = record {
        unread = subst (λ (xs : List ℕ). Tallies xs new.counts.unread) (sym links)
            (subst (λ (unread : Unread). Tallies (unread_links choice [] packets) unread) (sym sifts.unread) has.counts.unread);
        repeated = omega (arith, was, more, ap (λ (xs : List Captured). length xs) lefts, length-append (left_out choice [] packets) (packet ∷ []));
      };
    }

-- a packet came that is not left out, and was counted
pub counted_more : (choice : Choice) (packets : List Captured) (old mid new : SieveState) (packet : Captured) → HasSieved choice packets old →
    Sifts old mid packet false
    → new.choice ≡ mid.choice → new.gone ≡ mid.gone → new.counts.repeated ≡ mid.counts.repeated
    → ((links : List ℕ) → Tallies links mid.counts.unread → Tallies (links ++ unread_link mid.choice packet) new.counts.unread)
    → HasSieved choice (packets ++ (packet ∷ [])) new
counted_more choice packets old mid new packet has sifts same gone repeated tally =
    let again = again_so choice packets old packet false has sifts.is_left in
    let is = sifts.same ∙ has.chosen in
    let links : unread_links choice [] (packets ++ (packet ∷ [])) ≡ unread_links choice [] packets ++ unread_link choice packet =
    unread_links-more choice packets (packet ∷ []) ∙ ap (λ (xs : List ℕ). unread_links choice [] packets ++ xs)
    (rw again (append-nil (unread_link choice packet))) in
    let lefts : left_out choice [] (packets ++ (packet ∷ [])) ≡ left_out choice [] packets = left_out-more choice [] packets (packet ∷ []) ∙
    rw again (append-nil (left_out choice [] packets)) in
    let before : Tallies (unread_links choice [] packets) mid.counts.unread =
    subst (λ (unread : Unread). Tallies (unread_links choice [] packets) unread) (sym sifts.unread) has.counts.unread in
    let behind : Tallies (unread_links choice [] packets ++ unread_link choice packet) new.counts.unread =
    subst (λ (asked : Choice). Tallies (unread_links choice [] packets ++ unread_link asked packet) new.counts.unread) is
    (tally (unread_links choice [] packets) before) in
    let was = has.counts.repeated in
    let more = sifts.repeated in
    record {
      chosen = same ∙ is;
      gone = gone ∙ gone_so choice packets old packet mid.gone has sifts.gone;
      counts = record {
        unread = subst (λ (xs : List ℕ). Tallies xs new.counts.unread) (sym links) behind;
        repeated = omega (arith, was, more, repeated, ap (λ (xs : List Captured). length xs) lefts);
      };
    }
