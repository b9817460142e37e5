-- The packets left out, whose frames are written soon.
use Rattle.mq_laws.proofs.Common.{◌≡◌, ℕ, ◌-◌, true, false, Bool, List, [], ◌∷◌, ◌++◌, length, take, drop, refl, sym, subst, ap, ◌∙◌, zero, suc, arith}
use Rattle.mq_laws.proofs.Common.{append_assoc, All, list_any, take-append-drop, All-append, Choice, Captured, not, ◌&&◌, ◌||◌, Gone, comes_again, frame_out}
use Rattle.mq_laws.proofs.Common.{gone_after, going_out, is_again, is_compared, left_out}
use Rattle.std.proofs.{Math.Bool.or-true, lemmas.List.Folds.list_any-append}
use Rattle.mq_convert.specs.{Choices.is_chosen_packet, Repeats.latest, Repeats.most_gone}
use Rattle.mq_laws.specs.Conversions.{as_gone, is_written_soon}
use Rattle.mq_laws.proofs.Sifted.{going_out-again, going_out-first, left_out-again, left_out-first}

-- each of those that went out is a packet among these that is chosen
abbrev AreOf : Choice → List Gone → List Captured → Type 0
AreOf choice gone packets = (p : Gone → Bool) → list_any p gone ≡ true → list_any (λ kept. is_chosen_packet choice kept && p (as_gone kept)) packets ≡ true

any_more : {X : Type 0} (p : X → Bool) (xs ys : List X) → list_any p xs ≡ true → list_any p (xs ++ ys) ≡ true
any_more p xs ys is = list_any-append p xs ys ∙ ap (λ b. b || list_any p ys) is

any_behind : {X : Type 0} (p : X → Bool) (xs ys : List X) → list_any p ys ≡ true → list_any p (xs ++ ys) ≡ true
any_behind p xs ys is = list_any-append p xs ys ∙ ap (λ b. list_any p xs || b) is ∙ or-true (list_any p xs)

any_dropped : {X : Type 0} (p : X → Bool) (n : ℕ) (xs : List X) → list_any p (drop n xs) ≡ true → list_any p xs ≡ true
any_dropped p n xs is = subst (λ ys. list_any p ys ≡ true) (take-append-drop n xs) (any_behind p (take n xs) (drop n xs) is)

-- one of two lists has such an element
one_of : (a b : Bool) → (a || b) ≡ true → b ≡ false → a ≡ true
one_of true b is other = refl
one_of false b is other = absurd (cc)

compared_chosen : (once chosen whole : Bool) → (once && (chosen && whole)) ≡ true → chosen ≡ true
compared_chosen true true whole is = refl
compared_chosen _ _ whole is = absurd (cc)

chosen_of : (choice : Choice) (packet : Captured) → is_compared choice packet ≡ true → is_chosen_packet choice packet ≡ true
unfolding is_compared
chosen_of choice packet is = compared_chosen choice.once (is_chosen_packet choice packet) _ is

are_of-more : (choice : Choice) (gone : List Gone) (packets more : List Captured) → AreOf choice gone packets → AreOf choice gone (packets ++ more)
are_of-more choice gone packets more are = λ p is. any_more _ packets more (are p is)

-- a packet more that is chosen
are_of-one : (choice : Choice) (gone : List Gone) (packets : List Captured) (packet : Captured) → AreOf choice gone packets →
    is_chosen_packet choice packet ≡ true → AreOf choice (latest (gone ++ (as_gone packet ∷ []))) (packets ++ (packet ∷ []))
are_of-one choice gone packets packet are chosen = λ p is.
    let all = gone ++ (as_gone packet ∷ []) in
    by_test p (any_dropped p (length all - most_gone) all is) (p (as_gone packet)) refl
  where
    by_test : (p : Gone → Bool) → list_any p (gone ++ (as_gone packet ∷ [])) ≡ true → (here : Bool) → p (as_gone packet) ≡ here
        → list_any (λ kept. is_chosen_packet choice kept && p (as_gone kept)) (packets ++ (packet ∷ [])) ≡ true
    by_test p is true here = any_behind _ packets (packet ∷ []) (rw (chosen, here) refl)
    by_test p is false here =
        let none : list_any p (as_gone packet ∷ []) ≡ false = rw here refl in
        any_more _ packets (packet ∷ [])
        (are p (one_of (list_any p gone) (list_any p (as_gone packet ∷ [])) (sym (list_any-append p gone (as_gone packet ∷ [])) ∙ is) none))

-- a packet that doesn't come again
are_of-after : (choice : Choice) (gone : List Gone) (packets : List Captured) (packet : Captured) → AreOf choice gone packets → (new : Bool)
    → (is_compared choice packet && not (list_any (is_again packet.moment (frame_out packet)) gone)) ≡ new →
    AreOf choice (gone_after choice gone packet) (packets ++ (packet ∷ []))
are_of-after choice gone packets packet are true is =
    rw is (are_of-one choice gone packets packet are (chosen_of choice packet (both (is_compared choice packet) _ is)))
  where
    both : (a b : Bool) → (a && b) ≡ true → a ≡ true
    both true b is = refl
    both false b is = absurd (cc)
are_of-after choice gone packets packet are false is = rw is (are_of-more choice gone packets (packet ∷ []) are)

one_element : (P : Captured → Type 0) (packet : Captured) → P packet → All P (packet ∷ [])
one_element P packet is zero d fits = is
one_element P packet is (suc k) d fits = absurd (omega arith)

again_of : (a b : Bool) → (a && b) ≡ true → b ≡ true
again_of true b is = is
again_of false b is = absurd (cc)

-- each of those that are left out has its frame written soon, beside packets that came before
abbrev AllWritten : Choice → List Gone → (before packets : List Captured) → Type 0
AllWritten choice gone before packets =
    All (λ packet. is_written_soon choice (before ++ going_out choice gone packets) packet ≡ true) (left_out choice gone packets)

lost_by : (choice : Choice) (gone : List Gone) (before : List Captured) (packet : Captured) (packets : List Captured) → AreOf choice gone before →
    (again : Bool) → comes_again choice gone packet ≡ again
    → AllWritten choice gone before packets → AllWritten choice (gone_after choice gone packet) (before ++ (packet ∷ [])) packets →
    AllWritten choice gone before (packet ∷ packets)
lost_by choice gone before packet packets are true is rest after =
    let P : Captured → Type 0 = λ packet. is_written_soon choice (before ++ going_out choice gone packets) packet ≡ true in
    let there = are (is_again packet.moment (frame_out packet)) (again_of (is_compared choice packet) _ is) in
    let first : P packet = any_more _ before (going_out choice gone packets) there in
    let all = All-append P (packet ∷ []) (left_out choice gone packets) (one_element P packet first) rest in
    let lefts : All P (left_out choice gone (packet ∷ packets)) = subst (λ (left : List Captured). All P left)
    (sym (left_out-again choice gone packet packets is)) all in
    subst (λ (out : List Captured). All (λ packet. is_written_soon choice (before ++ out) packet ≡ true) (left_out choice gone (packet ∷ packets)))
    (sym (going_out-again choice gone packet packets is)) lefts
lost_by choice gone before packet packets are false is rest after =
    let out = going_out choice (gone_after choice gone packet) packets in
    let parts = append_assoc before (packet ∷ []) out ∙ ap (λ (xs : List Captured). before ++ xs) (sym (going_out-first choice gone packet packets is)) in
    let moved = subst (λ (xs : List Captured). All (λ packet. is_written_soon choice xs packet ≡ true)
    (left_out choice (gone_after choice gone packet) packets)) parts after in
    subst (λ (left : List Captured). All (λ it. is_written_soon choice (before ++ going_out choice gone (packet ∷ packets)) it ≡ true) left)
    (sym (left_out-first choice gone packet packets is)) moved

lost_from : (choice : Choice) (gone : List Gone) (before packets : List Captured) → AreOf choice gone before → AllWritten choice gone before packets
lost_from choice gone before [] are = λ k d fits. absurd (omega arith)
lost_from choice gone before (packet ∷ packets) are =
    let next = are_of-after choice gone before packet are (is_compared choice packet && not (list_any (is_again packet.moment (frame_out packet)) gone)) refl in
    lost_by choice gone before packet packets are (comes_again choice gone packet) refl (lost_from choice gone before packets are)
    (lost_from choice (gone_after choice gone packet) (before ++ (packet ∷ [])) packets next)

pub nothing_lost_lem : (choice : Choice) (packets : List Captured)
    → All (λ packet. is_written_soon choice (going_out choice [] packets) packet ≡ true) (left_out choice [] packets)
nothing_lost_lem choice packets = lost_from choice [] [] packets (λ p is. absurd (cc))
