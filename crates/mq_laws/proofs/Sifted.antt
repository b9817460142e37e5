-- Packets that come again, one packet after the other.
use Rattle.mq_laws.proofs.Common.{◌≡◌, true, false, Bool, List, [], ◌∷◌, ◌++◌, refl, ap, ◌∙◌, if◌then◌else◌, list_any, Choice, Captured, not, ◌&&◌, Gone}
use Rattle.mq_laws.proofs.Common.{comes_again, frame_out, gone_after, going_out, is_again, is_compared, left_out}

-- where packets may go out again, all do
never_again : (choice : Choice) (gone : List Gone) (packet : Captured) → choice.once ≡ false → comes_again choice gone packet ≡ false
unfolding is_compared
never_again choice gone packet is = rw is refl

pub all_go_out : (choice : Choice) (gone : List Gone) (packets : List Captured) → choice.once ≡ false → going_out choice gone packets ≡ packets
all_go_out choice gone [] is = refl
all_go_out choice gone (packet ∷ packets) is =
    rw (never_again choice gone packet is) (ap (λ xs. packet ∷ xs) (all_go_out choice (gone_after choice gone packet) packets is))

-- a packet that comes again isn't compared with later ones
again_kept : (compared any : Bool) → (compared && any) ≡ true → (compared && not any) ≡ false
again_kept true false is = absurd (cc)
again_kept _ _ is = refl

pub gone_after-again : (choice : Choice) (gone : List Gone) (packet : Captured) → comes_again choice gone packet ≡ true → gone_after choice gone packet ≡ gone
gone_after-again choice gone packet is = rw (again_kept (is_compared choice packet) (list_any (is_again packet.moment (frame_out packet)) gone) is) refl

-- the first of several packets, if it comes again and if it doesn't
pub going_out-again : (choice : Choice) (gone : List Gone) (packet : Captured) (packets : List Captured) → comes_again choice gone packet ≡ true →
    going_out choice gone (packet ∷ packets) ≡ going_out choice gone packets
going_out-again choice gone packet packets is =
    ap (λ (again : Bool). (if again then [] else packet ∷ []) ++ going_out choice (gone_after choice gone packet) packets) is
    ∙ ap (λ (after : List Gone). going_out choice after packets) (gone_after-again choice gone packet is)

pub left_out-again : (choice : Choice) (gone : List Gone) (packet : Captured) (packets : List Captured) → comes_again choice gone packet ≡ true →
    left_out choice gone (packet ∷ packets) ≡ packet ∷ left_out choice gone packets
left_out-again choice gone packet packets is =
    ap (λ (again : Bool). (if again then packet ∷ [] else []) ++ left_out choice (gone_after choice gone packet) packets) is
    ∙ ap (λ (after : List Gone). packet ∷ left_out choice after packets) (gone_after-again choice gone packet is)

pub going_out-first : (choice : Choice) (gone : List Gone) (packet : Captured) (packets : List Captured) → comes_again choice gone packet ≡ false
    → going_out choice gone (packet ∷ packets) ≡ packet ∷ going_out choice (gone_after choice gone packet) packets
going_out-first choice gone packet packets is =
    ap (λ (again : Bool). (if again then [] else packet ∷ []) ++ going_out choice (gone_after choice gone packet) packets) is

pub left_out-first : (choice : Choice) (gone : List Gone) (packet : Captured) (packets : List Captured) → comes_again choice gone packet ≡ false
    → left_out choice gone (packet ∷ packets) ≡ left_out choice (gone_after choice gone packet) packets
left_out-first choice gone packet packets is =
    ap (λ (again : Bool). (if again then packet ∷ [] else []) ++ left_out choice (gone_after choice gone packet) packets) is

once_by : (choice : Choice) (gone : List Gone) (packet : Captured) (packets : List Captured) (again : Bool) → comes_again choice gone packet ≡ again
    → going_out choice gone (going_out choice gone packets) ≡ going_out choice gone packets
    → going_out choice (gone_after choice gone packet) (going_out choice (gone_after choice gone packet) packets)
    ≡ going_out choice (gone_after choice gone packet) packets
    → going_out choice gone (going_out choice gone (packet ∷ packets)) ≡ going_out choice gone (packet ∷ packets)
once_by choice gone packet packets true is rest after = rw (is, gone_after-again choice gone packet is) rest
once_by choice gone packet packets false is rest after = rw (is, is) (ap (λ xs. packet ∷ xs) after)

-- a second conversion of the packets changes nothing
pub once_enough : (choice : Choice) (gone : List Gone) (packets : List Captured) → going_out choice gone (going_out choice gone packets)
    ≡ going_out choice gone packets
once_enough choice gone [] = refl
once_enough choice gone (packet ∷ packets) =
    once_by choice gone packet packets (comes_again choice gone packet) refl (once_enough choice gone packets)
    (once_enough choice (gone_after choice gone packet) packets)
