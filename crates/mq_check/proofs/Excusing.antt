-- The entries that wait at the end of a capture, where wanted queries may be left out.
use Rattle.mq_check.proofs.Common.{◌≡◌, ℕ, zero, suc, ◌+◌, ◌<◌, Bool, true, false, List, [], ◌∷◌, ◌++◌, length, take, drop, set, get_or, refl, ap, ◌∙◌}
use Rattle.mq_check.proofs.Common.{append-nil, add-one, arith, list_map, drop-length, take-length, mapped_long, map-set, Asked, Entry, Wanted, Seen, Interval}
use Rattle.mq_check.proofs.Common.{Silence, Packet, Side, OfWanted, OfSeen, excused_if, WaitingValue, excused_at, is_open, may_still_come}
use Rattle.mq_check.specs.{Entries.excused, Waiting.all_excused}
use Rattle.mq_check.proofs.{Alike.AreAlike, Alike.IsAlike, Alike.alike_all, Alike.alike_itself, Waits.made_at}

-- one more entry
excused_set : (e : Entry ℕ → Entry ℕ) (es : List (Entry ℕ)) (place : ℕ) (entry : Entry ℕ) → place < length es →
    entry ≡ get_or (list_map e (take place es) ++ drop place es) place entry
    → set (list_map e (take place es) ++ drop place es) place (e entry) ≡ list_map e (take (suc place) es) ++ drop (suc place) es
excused_set e [] place entry within is = absurd (omega (arith, within))
excused_set e (x ∷ es) zero entry within is = ap (λ (y : Entry ℕ). e y ∷ es) is
excused_set e (x ∷ es) (suc place) entry within is = ap (λ (rest : List (Entry ℕ)). e x ∷ rest) (excused_set e es place entry (omega (arith, within)) is)

pub one_excused : {X : Type 0} (e : Entry ℕ → Entry ℕ) (f : X → Entry ℕ) (old items more : List X) (place : ℕ) (entry new : X) →
    list_map f items ≡ list_map e (take place (list_map f old)) ++ drop place (list_map f old)
    → place < length old → entry ≡ get_or items place entry → more ≡ set items place new → f new ≡ e (f entry)
    → list_map f more ≡ list_map e (take (place + 1) (list_map f old)) ++ drop (place + 1) (list_map f old)
one_excused e f old items more place entry new so_far within is changed excuses =
    let es = list_map f old in
    let there : place < length es = omega (arith, within, mapped_long old f) in
    let next : list_map f more ≡ list_map e (take (suc place) es) ++ drop (suc place) es =
    ap (list_map f) changed ∙ map-set f items place new ∙ (λ i. set (so_far i) place (excuses i))
    ∙ excused_set e es place (f entry) there (made_at f items _ place entry so_far is) in
    rw add-one next

pub all_were_excused : {X : Type 0} (e : Entry ℕ → Entry ℕ) (f : X → Entry ℕ) (old items : List X) (place : ℕ) →
    list_map f items ≡ list_map e (take place (list_map f old)) ++ drop place (list_map f old)
    → place ≡ length old → list_map f items ≡ list_map e (list_map f old)
all_were_excused e f old items place so_far all =
    let es = list_map f old in
    let last : place ≡ length es = omega (arith, all, mapped_long old f) in
    so_far ∙ ap (λ (n : ℕ). list_map e (take n es) ++ drop n es) last
    ∙ (λ i. list_map e (take-length es i) ++ drop-length es i) ∙ append-nil (list_map e es)

pub excused_view : {X : Type 0} (within end : ℕ) (sent : WaitingValue) (f : X → Entry ℕ) (items more : List X) (is_full : Bool) (w : WaitingValue) →
    record { entries = list_map f items; is_full = is_full } ≡ w
    → list_map f more ≡ list_map (excused_at within end sent) (list_map f items) → record { entries = list_map f more; is_full = is_full }
    ≡ all_excused within end sent w
unfolding all_excused
excused_view within end sent f items more is_full w made are =
    let here : record { entries = list_map f more; is_full = is_full }
    ≡ all_excused within end sent (record { entries = list_map f items; is_full = is_full }) = λ i. record { entries = are i; is_full = is_full } in
    here ∙ ap (all_excused within end sent) made

-- they are found as before
excused_alike : (entry : Entry ℕ) → IsAlike entry (excused entry)
excused_alike (Wanted moment asked terms need is_found) = record {
  opens = λ side other. opens_wanted side other;
  slot = λ width. refl;
  moment = refl;
  time = refl;
}
  where
    opens_wanted : (side : Side) (other : Asked ℕ) → is_open side other (excused (Wanted moment asked terms need is_found))
        ≡ is_open side other (Wanted moment asked terms need is_found)
    opens_wanted OfWanted other = refl
    opens_wanted OfSeen other = refl
excused_alike _ = alike_itself _

alike_if : (b : Bool) (entry : Entry ℕ) → IsAlike entry (excused_if b entry)
alike_if true entry = excused_alike entry
alike_if false entry = alike_itself entry

pub excused_are_alike : (within end : ℕ) (sent : WaitingValue) (es : List (Entry ℕ)) → AreAlike es (list_map (excused_at within end sent) es)
excused_are_alike within end sent es = alike_all (excused_at within end sent) (λ e. alike_if (may_still_come within end sent e) e) es
