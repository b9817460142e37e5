-- Packets that come again, of packets and then more.
use Rattle.mq_convert.proofs.Common.{◌≡◌, List, [], ◌∷◌, ◌++◌, refl, sym, ap, ◌∙◌, append_assoc, if◌then◌else◌, Choice, Captured, Gone, comes_again, gone_after}
use Rattle.mq_convert.proofs.Common.{gone_behind, going_out, left_out}

pub gone_behind-more : (choice : Choice) (gone : List Gone) (packets more : List Captured)
    → gone_behind choice gone (packets ++ more) ≡ gone_behind choice (gone_behind choice gone packets) more
gone_behind-more choice gone [] more = refl
gone_behind-more choice gone (packet ∷ packets) more = gone_behind-more choice (gone_after choice gone packet) packets more

pub going_out-more : (choice : Choice) (gone : List Gone) (packets more : List Captured)
    → going_out choice gone (packets ++ more) ≡ going_out choice gone packets ++ going_out choice (gone_behind choice gone packets) more
going_out-more choice gone [] more = refl
going_out-more choice gone (packet ∷ packets) more =
    let first : List Captured = if comes_again choice gone packet then [] else packet ∷ [] in
    let after = gone_after choice gone packet in
    ap (λ xs. first ++ xs) (going_out-more choice after packets more)
    ∙ sym (append_assoc first (going_out choice after packets) (going_out choice (gone_behind choice after packets) more))

pub left_out-more : (choice : Choice) (gone : List Gone) (packets more : List Captured)
    → left_out choice gone (packets ++ more) ≡ left_out choice gone packets ++ left_out choice (gone_behind choice gone packets) more
left_out-more choice gone [] more = refl
left_out-more choice gone (packet ∷ packets) more =
    let first : List Captured = if comes_again choice gone packet then packet ∷ [] else [] in
    let after = gone_after choice gone packet in
    ap (λ xs. first ++ xs) (left_out-more choice after packets more)
    ∙ sym (append_assoc first (left_out choice after packets) (left_out choice (gone_behind choice after packets) more))
